-- What a phase of the solver leaves, and what all three do. How the solver runs, not what it means.
use Rattle.std.specs.Prelude.{ℕ, ◌+◌, ◌*◌, ◌≡◌, List, length}
use Rattle.std.proofs.Math.Option as math
use Rattle.laws.specs.Problem.{Problem}
use Rattle.laws.specs.Standing.{Standing, marks, nonzeros}
use Rattle.laws.specs.Step.{Step, replay}
use Rattle.laws.specs.Solver.{best_bound, first_adding, turns}
use Rattle.derivation.specs.Steps.{head_size, step_size}
use Rattle.derivation.specs.Encoded.{steps_bytes, stored}

-- the steps that a phase with this choice takes from S on: it leads to S', counts them with the `base` before, and writes them after those
pub record Phased (choose : Standing → math.Option Step) (P : Problem) (S S' : Standing) (output output' : List ℕ) (base count : ℕ) : Type 0 where
  pub reached : S' ≡ replay P S (turns choose P P.n S)
  pub counted : count ≡ base + length (turns choose P P.n S)
  pub written : output' ≡ stored output (head_size + step_size * base) (steps_bytes (turns choose P P.n S))

-- Rules 5.1, 5.4 and 5.2: the phases
abbrev pub Lowered : Problem → (S S' : Standing) (output output' : List ℕ) → ℕ → Type 0
Lowered P S S' output output' count = Phased (best_bound P) P S S' output output' 0 count

abbrev pub Excluded : Problem → (S S' : Standing) (output output' : List ℕ) (base count : ℕ) → Type 0
Excluded P = Phased (first_adding nonzeros P) P

abbrev pub Marked : Problem → (S S' : Standing) (output output' : List ℕ) (base count : ℕ) → Type 0
Marked P = Phased (first_adding marks P) P

-- each taken on what the one before it left
pub record Taken (P : Problem) (S S' : Standing) (output output' : List ℕ) (steps : ℕ) : Type 0 where
  pub bounded : Standing
  pub excluded : Standing
  pub lowered_output : List ℕ
  pub excluded_output : List ℕ
  pub lowerings : ℕ
  pub before_marks : ℕ
  pub lowers : Lowered P S bounded output lowered_output lowerings
  pub excludes : Excluded P bounded excluded lowered_output excluded_output lowerings before_marks
  pub marks : Marked P excluded S' excluded_output output' before_marks steps
