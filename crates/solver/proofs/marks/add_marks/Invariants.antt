-- The steps so far, and what is known of the constraints.
use Rattle.rules.specs.Promise.{view}
use Rattle.solver.specs.Table.{circuit_in}
use Rattle.solver.proofs.MarksTurn.{Turning}
use Rattle.solver.proofs.marks.add_marks.Given as goal

abbrev pub invariant-loop-turn : goal.invariant-loop-turn
invariant-loop-turn l =
    Turning (circuit_in l.table) (view l.table.constraints.now.file.sizes.p l.initial.standing) (view l.table.constraints.now.file.sizes.p l.standing) l.kept l.initial.output l.output
    l.before.count l.turn
