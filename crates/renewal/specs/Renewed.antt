-- RENEWED (rule 7.8): what a renewal is for, over what the call answers and leaves, for every circuit and every sheet that aren't refused.
use Rattle.std.specs.Prelude.{ℕ, ◌≤◌, ◌<◌, ◌≡◌, true, List, length, take}
use Rattle.circuit.specs.Bytes.{u16_at}
use Rattle.circuit.specs.Circuit.{Circuit}
use Rattle.circuit.specs.Answer.{Answer, given}
use Rattle.laws.specs.Problem.{Problem}
use Rattle.laws.specs.Standing.{start}
use Rattle.laws.specs.Step.{formerly, less_idle}
use Rattle.tags.specs.Tag.{Sheet, tagged}
use Rattle.tags.specs.Sheet.{Unrefused}
use Rattle.derivation.specs.Steps.{steps_of}
use Rattle.derivation.specs.Call.{judged, derivation_on, Accepted, last_of}
use Rattle.derivation.specs.Exact.{Framed, FineStep}

-- d was accepted by the former rule: each step is known, in range and met where it stands
pub record Stored (P : Problem) (d : List ℕ) : Type 0 where
  pub framed : Framed d
  pub each : (k : ℕ) → k < u16_at d 5 → FineStep P d k
  pub met : formerly P (start P) (steps_of d) ≡ true

-- e, of as many bytes as the call answers, is d renewed
pub record Renewed (P : Problem) (T : Sheet) (d e : List ℕ) (bytes : ℕ) : Type 0 where
  pub is_whole : length e ≡ bytes
  pub is_short : length e ≤ length d
  -- it is accepted, and judged by what d reaches
  pub is_accepted : derivation_on P T e P.n ≡ given (judged P T (last_of P d))
  -- it reaches the bounds and marks of both sorts that d reaches
  pub reaches : last_of P e ≡ last_of P d
  -- its steps are those of d that aren't idle where they stand
  pub steps : steps_of e ≡ less_idle P (start P) (steps_of d)
  -- if no step of d is idle it is d, byte for byte
  pub unchanged : Accepted P T d → e ≡ d

-- on a circuit C with a sheet T, the call answers r and leaves `left` in the buffer that held `output`
pub record Renewal (C : Circuit) (T : Sheet) (d output : List ℕ) (r : Answer ℕ) (left : List ℕ) : Type 0 where
  -- what was accepted by the former rule gets an answer, if the buffer doesn't meet 25 ..
  pub answered : Stored (tagged C T) d → length d ≤ length output → (bytes : ℕ) × (r ≡ given bytes)
  -- .. and what the call leaves at the buffer's start, in as many bytes as it answers, is the renewed derivation
  pub own : (bytes : ℕ) → r ≡ given bytes → Renewed (tagged C T) T d (take bytes left) bytes

-- for every circuit and sheet that aren't refused, whatever the buffer held
abbrev pub RenewedCall : List ℕ → List ℕ → List ℕ → List ℕ → Answer ℕ → List ℕ → Type 0
RenewedCall c h d output r left = (C : Circuit) (T : Sheet) → Unrefused c h C T → Renewal C T d output r left
