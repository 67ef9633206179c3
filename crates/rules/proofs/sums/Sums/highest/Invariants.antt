-- `rules::sums::Sums::highest`: the place with the highest bound is still to come, or found.
use Rattle.std.proofs.Common.{◌<◌, IfSome, length}
use Rattle.rules.specs.Rows.{coef_on, bound_on}
use Rattle.rules.proofs.SumLaws.{Seen}
use Rattle.rules.proofs.sums.Sums.highest.Given as goal

abbrev pub invariant-loop-i : goal.invariant-loop-i
invariant-loop-i l = record {
  within : IfSome l.found (λ e. e < length l.self.row.now);
  seen : Seen (coef_on l.self.row.now) (bound_on l.self.p l.self.bounds.now l.self.row.now) (length l.self.row.now) l.i l.found l.top;
}
