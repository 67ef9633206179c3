-- `field::odd_prime_by`: what the walk over the table has passed doesn't divide p.
use lib.ListN.{length}
use Prim.Native.Nat.{◌-◌}
use Rattle.field.proofs.Divisors.{Walk}
use Rattle.field.proofs.odd_prime_by.Given as goal

abbrev pub invariant-loop-i : goal.invariant-loop-i
invariant-loop-i l = Walk l.table l.inverses l.p l.i

abbrev pub decreases-loop-i : goal.decreases-loop-i
decreases-loop-i l = length l.table - l.i
