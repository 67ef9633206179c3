-- The steps so far, and what is known of keys.
use Rattle.rules.specs.Promise.{view}
use Rattle.solver.specs.Table.{circuit_in}
use Rattle.solver.proofs.BoundsTurn.{Turning}
use Rattle.solver.proofs.bounds.lower_bounds.Given as goal

abbrev pub invariant-loop-count : goal.invariant-loop-count
invariant-loop-count l =
    Turning (circuit_in l.table) (view l.table.constraints.now.file.sizes.p l.initial.standing) (view l.table.constraints.now.file.sizes.p l.standing) l.keys l.initial.output l.output l.count
