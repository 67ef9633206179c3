-- The derivation call on all bytes: its answer, and what it leaves in the lent buffer for marks.
use Rattle.std.specs.Prelude.{ℕ, zero, suc, ◌+◌, ◌*◌, ◌≡◌, Bool, true, false, List, [], ◌∷◌, ◌++◌, leb, eqb, length, drop}
use Rattle.circuit.specs.Bytes.{u16_at}
use Rattle.circuit.specs.Reader.{read_circuit, derivation_letter, has_mark}
use Rattle.circuit.specs.Answer.{Answer, refused, given, ask, and_then}
use Rattle.circuit.specs.Call.{sizes_of, on_circuit, circuit_of}
use Rattle.laws.specs.Sum.{all}
use Rattle.laws.specs.Problem.{Problem}
use Rattle.laws.specs.Standing.{Standing, start}
use Rattle.laws.specs.Step.{replay}
use Rattle.tags.specs.Tag.{Sheet, tagged, Shown, shown_by}
use Rattle.tags.specs.Sheet.{sheet_of, sheet_on}
use Rattle.derivation.specs.Steps.{head_size, step_size, steps_most, walked, steps_of}

-- Rule 6.6: fixed where every output is marked, else open.
pub data Verdict : Type 0 where
  Fixed Open : Verdict

-- Rule 6.6: how many signals are marked, the verdict, and what is shown of the sheet.
pub record Judgement : Type 0 where
  pub count : ℕ
  pub verdict : Verdict
  pub shown : Shown

-- 1 for marked and 0 for not
abbrev pub bit : Bool → ℕ
bit true = 1
bit false = 0

-- Rule 6.4: a byte for each signal; those of the signals after s, `left` of them
unfoldable pub marks_from : (ℕ → Bool) → ℕ → ℕ → List ℕ
marks_from marked s zero = []
marks_from marked s (suc left) = bit (marked (suc s)) ∷ marks_from marked (suc s) left

unfoldable pub marks_of : ℕ → Standing → List ℕ
marks_of n S = marks_from S.marked 0 n

-- how many are marked, inputs among them: counted from the bytes written
unfoldable pub total : List ℕ → ℕ
total [] = 0
total (x ∷ xs) = x + total xs

-- output j, counted from 0, is marked
unfoldable pub output_marked : (ℕ → Bool) → ℕ → ℕ → Bool
output_marked marked i j = marked (suc (i + j))

abbrev pub verdict_by : Bool → Verdict
verdict_by true = Fixed
verdict_by false = Open

unfoldable pub verdict_of : Problem → Standing → Verdict
verdict_of P S = verdict_by (all P.o (output_marked S.marked P.i))

-- Rule 6.6: what is answered of the standing after the last step.
unfoldable pub judged : Problem → Sheet → Standing → Judgement
judged P T S = record { count = total (marks_of P.n S); verdict = verdict_of P S; shown = shown_by P.i T S.bound }

-- Refusals 11 to 13, and then r.
unfoldable pub framed : {A : Type 0} → List ℕ → Answer A → Answer A
framed d r =
    ask (leb head_size (length d)) 11 0
    (ask (has_mark derivation_letter d) 11 0
    (ask (eqb (u16_at d 3) 1) 12 0 (ask (leb (u16_at d 5) steps_most) 13 0 (ask (eqb (length d) (head_size + step_size * u16_at d 5)) 13 0 r))))

-- Refusal 14, and then r; room is the length of the lent buffer.
abbrev pub roomy : {A : Type 0} → ℕ → ℕ → Answer A → Answer A
roomy n room r = ask (leb n room) 14 0 r

-- Rule 6.6: the header, the steps, then the judgement; refusals 11 to 17 and 29.
unfoldable pub derivation_on : Problem → Sheet → List ℕ → ℕ → Answer Judgement
derivation_on P T d room = and_then (framed d (roomy P.n room (walked false P d))) (λ S. given (judged P T S))

-- The call's answer, for a circuit c, a sheet h and a derivation d: the circuit first, refusals 1 to 10, then the sheet, 26 and 27.
unfoldable pub derivation_call : List ℕ → List ℕ → List ℕ → ℕ → Answer Judgement
derivation_call c h d room = on_circuit (read_circuit c) (λ C. and_then (sheet_on (sizes_of C) h) (λ T. derivation_on (tagged C T) T d room))

-- Rule 3.5: the standing after the last step, whose bounds and marks of both sorts are those that the derivation reaches.
unfoldable pub last_of : Problem → List ℕ → Standing
last_of P d = replay P (start P) (steps_of d)

-- Rule 6.4: an accepted derivation writes a byte for each signal and leaves the bytes after them; a refusal writes nothing.
abbrev pub left_by : Answer Judgement → Problem → List ℕ → List ℕ → List ℕ
left_by (refused number place) P d marks = marks
left_by (given judgement) P d marks = marks_of P.n (last_of P d) ++ drop P.n marks

-- what the call leaves in the buffer that held `marks`
unfoldable pub derivation_marks : List ℕ → List ℕ → List ℕ → List ℕ → List ℕ
derivation_marks c h d marks = left_by (derivation_call c h d (length marks)) (tagged (circuit_of c) (sheet_of h)) d marks

-- Rule 3.6: the derivation call, with room for all marks, meets none of its refusals.
pub record Accepted (P : Problem) (T : Sheet) (d : List ℕ) : Type 0 where
  pub judgement : Judgement
  pub is : derivation_on P T d P.n ≡ given judgement
