-- `circuit::runs::first_unsatisfied`: at each turn the answer is what is found from constraint k on, and `rest` is its part.
use Prim.Native.Nat.{suc, ◌-◌}
use mathlib.Core.Path.{◌≡◌}
use Rattle.circuit.specs.Reader.{part_from, constraint_of}
use Rattle.circuit.specs.Run.{values_in}
use Rattle.circuit.specs.Runs.{first_from, satisfied_by}
use Rattle.circuit.proofs.runs.first_unsatisfied.Given as goal

abbrev pub invariant-loop-k : goal.invariant-loop-k
invariant-loop-k l =
    (l.rest ≡ part_from (l.k - 1) l.body)
    × (first_from (satisfied_by l.p (constraint_of l.body) (values_in l.values)) 1 l.m
    ≡ first_from (satisfied_by l.p (constraint_of l.body) (values_in l.values)) l.k (suc l.m - l.k))
