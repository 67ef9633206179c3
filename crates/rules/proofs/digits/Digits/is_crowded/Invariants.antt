-- `rules::digits::Digits::is_crowded`: the sum of the bounds of the entries passed.
use Rattle.std.proofs.Common.{◌≡◌, ◌<◌}
use Rattle.laws.specs.Sum.{sum}
use Rattle.rules.specs.Live.{bounds_on}
use Rattle.rules.proofs.digits.Digits.is_crowded.Given as goal

abbrev pub invariant-loop-entry : goal.invariant-loop-entry
invariant-loop-entry l = record {
  fits : l.reach < 4294967296;
  is : l.reach ≡ sum l.entry-index (bounds_on l.self.p l.self.bounds.now l.self.marks.now l.self.row.now);
}
