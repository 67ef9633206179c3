-- The inverse is Euclid's algorithm from the loop's numbers on.
use Rattle.field.proofs.Euclid.{Running}
use Rattle.field.proofs.modular.inverse.Given as goal

abbrev pub invariant-loop-b : goal.invariant-loop-b
invariant-loop-b l = Running l.p l.c l.a l.b l.s l.t l.even

abbrev pub decreases-loop-b : goal.decreases-loop-b
decreases-loop-b l = l.b
