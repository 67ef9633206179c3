-- `circuit::runs::fill_run`: at each turn the values before number s are there, and the others as they were.
use Prim.Native.Nat.{◌+◌, ◌-◌, ◌≤◌}
use mathlib.Core.Path.{◌≡◌}
use lib.ListN.{length}
use Rattle.circuit.specs.Run.{values_in}
use Rattle.circuit.specs.Runs.{filled}
use Rattle.circuit.proofs.runs.fill_run.Given as goal

abbrev pub invariant-loop-s : goal.invariant-loop-s
invariant-loop-s l =
    (l.s ≤ l.s-end + 1) × (length l.run ≡ 257) × (values_in l.run ≡ filled l.values (l.s - 1) (values_in l.initial.run))
