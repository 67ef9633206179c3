-- DEMAND 3 (rule 7.3), one statement over bytes, for every circuit and every sheet that aren't refused, of what the solver call answers and leaves.
use Rattle.std.specs.Prelude.{ℕ, ◌+◌, ◌-◌, ◌*◌, ◌≤◌, ◌≡◌, List, length, take, get_or}
use Rattle.circuit.specs.Circuit.{Circuit, Satisfying}
use Rattle.circuit.specs.Answer.{Answer, given}
use Rattle.laws.specs.Problem.{Problem}
use Rattle.laws.specs.Solver.{steps_for}
use Rattle.laws.specs.Sound.{Sound, AtLeast, Closed}
use Rattle.tags.specs.Tag.{Sheet, tagged, Allowed}
use Rattle.tags.specs.Sheet.{Unrefused}
use Rattle.derivation.specs.Steps.{steps_of}
use Rattle.derivation.specs.Call.{bit, derivation_on, derivation_marks, Accepted, last_of}
use Rattle.solver.specs.Call.{Solved, room_for}

-- d, of as many bytes as the solver answers, is accepted with the count, the verdict and what is shown as it answers, and has at most three steps
-- for any one target. No step is left that lowers a bound or adds a mark of either sort. It marks all that any derivation accepted with the same sheet
-- marks, has all nonzero marks that such a one has, and reaches bounds at least as low.
pub record Best (P : Problem) (T : Sheet) (d : List ℕ) (x : Solved) : Type 0 where
  pub is_accepted : derivation_on P T d P.n ≡ given x.judgement
  pub is_sized : x.bytes ≡ 7 + 7 * length (steps_of d)
  pub is_whole : length d ≡ x.bytes
  pub is_short : (t : ℕ) → steps_for t (steps_of d) ≤ 3
  pub is_closed : Closed P (last_of P d)
  pub is_best : (e : List ℕ) → Accepted P T e → AtLeast (last_of P e) (last_of P d)

-- c is the bytes of the circuit C and h those of the sheet T; the call answers r and leaves `left` in the buffer that held `output`
pub record Demand3 (c h : List ℕ) (C : Circuit) (T : Sheet) (output : List ℕ) (r : Answer Solved) (left : List ℕ) : Type 0 where
  -- every accepted derivation, whoever wrote it, is sound in bounds and marks over the allowed runs, in nonzero marks over all satisfying ones
  pub sound : (d : List ℕ) → Accepted (tagged C T) T d → Sound (tagged C T) (Satisfying C) (Allowed C T) (last_of (tagged C T) d)
  -- the derivation call writes 1 for exactly the signals that the derivation marks, 0 for the others
  pub writes : (d marks : List ℕ) → Accepted (tagged C T) T d → C.n ≤ length marks
      → (s : ℕ) → 1 ≤ s → s ≤ C.n → get_or (derivation_marks c h d marks) (s - 1) 0 ≡ bit ((last_of (tagged C T) d).marked s)
  -- a buffer that doesn't meet 25 gets an answer ..
  pub answered : room_for C.n ≤ length output → (x : Solved) × (r ≡ given x)
  -- .. and what the solver leaves at its start, in as many bytes as the length that it answers, is the best derivation
  pub own : (x : Solved) → r ≡ given x → Best (tagged C T) T (take x.bytes left) x

-- for every circuit and sheet that aren't refused, whatever the buffer held
abbrev pub Demand : List ℕ → List ℕ → List ℕ → Answer Solved → List ℕ → Type 0
Demand c h output r left = (C : Circuit) (T : Sheet) → Unrefused c h C T → Demand3 c h C T output r left
