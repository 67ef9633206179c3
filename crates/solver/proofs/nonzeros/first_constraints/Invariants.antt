-- Each signal's first constraint among those passed.
use Rattle.solver.specs.Nonzeros.{Firsts}
use Rattle.solver.specs.Table.{circuit_in}
use Rattle.solver.proofs.nonzeros.first_constraints.Given as goal

abbrev pub invariant-loop-passed : goal.invariant-loop-passed
invariant-loop-passed l = Firsts (circuit_in l.table) l.passed l.firsts
