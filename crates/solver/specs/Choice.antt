-- What a phase chooses, as a step, and where that leads. How the solver runs, not what it means.
use Rattle.std.specs.Prelude.{ℕ, ◌≡◌, true, Option, None, Some}
use Rattle.std.proofs.Math.Option as math
use Rattle.circuit.specs.Circuit.{Circuit}
use Rattle.laws.specs.Problem.{given}
use Rattle.laws.specs.Standing.{Standing}
use Rattle.laws.specs.Step.{Step, adds, after}
use Rattle.laws.specs.Solver.{step}
use Rattle.rules.specs.Promise.{kind_of}
use Rattle.solver.specs.declared.keys.Choice.{Choice}

abbrev pub step_of : Choice → Step
step_of choice = step (kind_of choice.key.kind) choice.key.target choice.constraint choice.reference

abbrev pub choice_of : Option Choice → math.Option Step
choice_of None = math.none
choice_of (Some choice) = math.some (step_of choice)

-- the step is in range, meets its rule and isn't idle; no rule looks at the first bounds
abbrev pub Adds : Circuit → Standing → Step → Type 0
Adds C S x = (f : ℕ → ℕ) → adds (given C f) S x ≡ true

-- S' is the standing to which it leads
abbrev pub TakenBy : Circuit → Standing → Step → Standing → Type 0
TakenBy C S x S' = (f : ℕ → ℕ) → S' ≡ after (given C f) S x
