-- `circuit::offsets::offsets`: the entries before the index are right, and `at` is the next.
use Rattle.circuit.proofs.OffsetLaws.{Filling}
use Rattle.circuit.proofs.offsets.offsets.Given as goal

abbrev pub invariant-loop-entry : goal.invariant-loop-entry
invariant-loop-entry l = Filling l.circuit l.entry-index-end l.entry-items l.at l.entry-index
