-- The steps so far, and the signals that are done.
use Rattle.rules.specs.Promise.{view}
use Rattle.solver.specs.Table.{circuit_in, sizes_in}
use Rattle.solver.proofs.NonzeroLaws.{Excluding}
use Rattle.solver.proofs.nonzeros.exclude_zeros.Given as goal

abbrev pub invariant-loop-passed : goal.invariant-loop-passed
invariant-loop-passed l =
    Excluding (circuit_in l.table) (view (sizes_in l.table).p l.initial.standing) (view (sizes_in l.table).p l.standing) l.initial.output l.output
    l.initial.count l.count l.passed
