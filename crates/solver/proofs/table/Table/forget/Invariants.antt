-- The entries that hold the signal have been walked over from the last one down to the next.
use Rattle.solver.proofs.LinkLaws.{Walked}
use Rattle.solver.proofs.table.Table.forget.Given as goal

abbrev pub invariant-loop-next : goal.invariant-loop-next
invariant-loop-next g l =
    Walked l.self l.signal l.initial.kept l.next l.kept

abbrev pub decreases-loop-next : goal.decreases-loop-next
decreases-loop-next g l = l.next
