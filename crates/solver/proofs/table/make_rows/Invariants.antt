-- The rows of the constraints before k are made.
use Rattle.std.proofs.Common.{◌-◌, ◌+◌, ◌≤◌}
use Rattle.circuit.specs.Call.{circuit_of}
use Rattle.solver.specs.Links.{Made}
use Rattle.solver.proofs.table.make_rows.Given as goal

abbrev pub invariant-loop-k : goal.invariant-loop-k
invariant-loop-k l = (l.k ≤ l.k-end + 1) × Made (circuit_of l.constraints.file.bytes.now) l.constraints.offsets (l.k - 1) l.ends l.rows l.links
