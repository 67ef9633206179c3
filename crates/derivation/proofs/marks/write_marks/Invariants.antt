-- `derivation::marks::write_marks`: the bytes of the first s signals stand before what was there.
use Rattle.std.proofs.Common.{◌≡◌, ◌++◌, drop}
use Rattle.rules.specs.View.{mark_in}
use Rattle.derivation.specs.Call.{marks_from}
use Rattle.derivation.proofs.marks.write_marks.Given as goal

abbrev pub invariant-loop-s : goal.invariant-loop-s
invariant-loop-s l = l.out ≡ marks_from (mark_in l.marks) 0 l.s ++ drop l.s l.fn.out
