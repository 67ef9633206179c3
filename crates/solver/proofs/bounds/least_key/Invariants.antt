-- The keys of the constraints passed are known, and the least of them.
use Rattle.rules.specs.View.{bound_in}
use Rattle.solver.specs.Table.{circuit_in}
use Rattle.solver.proofs.KeySearch.{Finding}
use Rattle.solver.proofs.bounds.least_key.Given as goal

abbrev pub invariant-loop-passed : goal.invariant-loop-passed
invariant-loop-passed l = Finding (circuit_in l.table) (bound_in l.table.constraints.now.file.sizes.p l.bounds) l.passed l.lowest l.keys
