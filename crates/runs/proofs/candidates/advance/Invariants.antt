-- `runs::candidates::advance`: signals after s can't rise here and are 0 now; those up to s are as they were.
use Rattle.circuit.specs.Run.{values_in}
use Rattle.runs.proofs.CountLaws.{Counting}
use Rattle.runs.proofs.candidates.advance.Given as goal

abbrev pub invariant-loop-s : goal.invariant-loop-s
invariant-loop-s l = Counting l.p l.n l.h (values_in l.fn.values) (values_in l.values) l.s
