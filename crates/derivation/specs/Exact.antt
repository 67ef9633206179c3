-- What the derivation call is for. EXACT: a well-formed derivation is accepted exactly if each step meets its rule where it stands and isn't
-- idle. SOUND: what an accepted derivation says of the allowed runs, and in nonzero marks of all satisfying ones, over the answer and the bytes
-- that the call wrote.
use Rattle.std.specs.Prelude.{ℕ, ◌+◌, ◌*◌, ◌-◌, ◌≤◌, ◌<◌, ◌≡◌, true, List, length, get_or}
use Rattle.std.proofs.Math.Option.{some}
use Rattle.circuit.specs.Bytes.{u16_at}
use Rattle.circuit.specs.Circuit.{Circuit, Satisfying, ShareInputs, value_of}
use Rattle.circuit.specs.Reader.{derivation_letter, has_mark}
use Rattle.circuit.specs.Answer.{Answer, given}
use Rattle.laws.specs.Problem.{Problem}
use Rattle.laws.specs.Standing.{start}
use Rattle.laws.specs.Step.{Step, in_range, accepted}
use Rattle.tags.specs.Tag.{Sheet, Obeys, tagged, Allowed, is_shown}
use Rattle.tags.specs.Sheet.{Unrefused}
use Rattle.derivation.specs.Steps.{head_size, step_size, steps_most, read_step, steps_of}
use Rattle.derivation.specs.Call.{Judgement, bit, judged, last_of}

-- refusals 11 to 13 aren't met
pub record Framed (d : List ℕ) : Type 0 where
  pub long : head_size ≤ length d
  pub mark : has_mark derivation_letter d ≡ true
  pub version : u16_at d 3 ≡ 1
  pub few : u16_at d 5 ≤ steps_most
  pub sized : length d ≡ head_size + step_size * u16_at d 5

-- step k, counted from 0, meets neither 15 nor 16
pub record FineStep (P : Problem) (d : List ℕ) (k : ℕ) : Type 0 where
  pub step : Step
  pub known : read_step d k ≡ some step
  pub ranged : in_range P step ≡ true

-- Rule 6.9, on a circuit and a sheet that aren't refused.
pub record WellFormedDerivation (P : Problem) (d : List ℕ) (room : ℕ) : Type 0 where
  pub framed : Framed d
  pub roomy : P.n ≤ room
  pub each : (k : ℕ) → k < u16_at d 5 → FineStep P d k

-- each step meets its rule where it stands and isn't idle
abbrev pub EachAdds : Problem → List ℕ → Type 0
EachAdds P d = accepted P (start P) (steps_of d) ≡ true

-- Rule 7.2: the derivation is accepted exactly if each step meets its rule and isn't idle, and then the answer is what the steps lead to.
pub record Exact (P : Problem) (T : Sheet) (d : List ℕ) (r : Answer Judgement) : Type 0 where
  pub accepts : EachAdds P d → r ≡ given (judged P T (last_of P d))
  pub only : (judgement : Judgement) → r ≡ given judgement → EachAdds P d

abbrev pub ExactCall : List ℕ → List ℕ → List ℕ → ℕ → Answer Judgement → Type 0
ExactCall c h d room r =
    (C : Circuit) (T : Sheet) → Unrefused c h C T → WellFormedDerivation (tagged C T) d room → Exact (tagged C T) T d r

-- Rule 7.3: no allowed run is above a bound that the derivation reaches. The byte written for s is 1 exactly if the derivation marks s,
-- and then any two allowed runs that share their inputs agree at s. No satisfying run, allowed or not, is 0 at a signal to which the
-- derivation gives a nonzero mark. A tag that is shown is obeyed in every allowed run; if the answer names none that isn't, every tag is.
pub record SoundMarks (C : Circuit) (T : Sheet) (d : List ℕ) (judgement : Judgement) (marks : List ℕ) : Type 0 where
  pub written : (s : ℕ) → 1 ≤ s → s ≤ C.n → get_or marks (s - 1) 0 ≡ bit ((last_of (tagged C T) d).marked s)
  pub bounded : (run : List ℕ) → Allowed C T run → (s : ℕ) → 1 ≤ s → s ≤ C.n → value_of run s ≤ (last_of (tagged C T) d).bound s
  pub settled : (run other : List ℕ) → Allowed C T run → Allowed C T other → ShareInputs C run other
      → (s : ℕ) → 1 ≤ s → s ≤ C.n → get_or marks (s - 1) 0 ≡ 1 → value_of run s ≡ value_of other s
  pub never_zero : (run : List ℕ) → Satisfying C run → (s : ℕ) → 1 ≤ s → s ≤ C.n → (last_of (tagged C T) d).nonzero s ≡ true → value_of run s ≡ 0 → ⊥
  pub obeyed : (run : List ℕ) → Allowed C T run → (k : ℕ) → 1 ≤ k → k ≤ T.count → is_shown (last_of (tagged C T) d).bound (T.tag k) ≡ true
      → Obeys (T.tag k) (value_of run (T.tag k).signal)
  pub all_obeyed : judgement.shown.missed ≡ 0 → (run : List ℕ) → Allowed C T run → (k : ℕ) → 1 ≤ k → k ≤ T.count
      → Obeys (T.tag k) (value_of run (T.tag k).signal)

abbrev pub SoundCall : List ℕ → List ℕ → List ℕ → Answer Judgement → List ℕ → Type 0
SoundCall c h d r marks =
    (C : Circuit) (T : Sheet) (judgement : Judgement) → Unrefused c h C T → r ≡ given judgement → SoundMarks C T d judgement marks
