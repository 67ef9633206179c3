-- `rules::sums::Sums::total`: the sum over the places passed, which is below the limit once there is one.
use Rattle.std.proofs.Common.{◌≡◌, ◌≤◌, ◌<◌}
use Rattle.laws.specs.Sum.{sum}
use Rattle.laws.specs.Rules.{sum_term}
use Rattle.rules.specs.Rows.{coef_on, bound_on}
use Rattle.rules.proofs.sums.Sums.total.Given as goal

abbrev pub invariant-loop-i : goal.invariant-loop-i
invariant-loop-i l = record {
  fits : l.total ≤ l.limit;
  below : 0 < l.i → l.total < l.limit;
  is : l.total ≡ sum l.i (sum_term l.self.p (coef_on l.self.row.now) (bound_on l.self.p l.self.bounds.now l.self.row.now) l.e);
}
