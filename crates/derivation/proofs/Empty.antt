-- EMPTY, derivations (rule 7.7): with the sheet that says nothing the call answers and writes what it does on the circuit alone.
use Prim.Native.Nat.{ℕ}
use mathlib.Core.Path.{◌≡◌, refl, ap}
use mathlib.Core.Bool.{false}
use mathlib.Core.List.{List}
use lib.ListN.{length}
use Rattle.circuit.specs.Circuit.{Circuit}
use Rattle.circuit.specs.Reading.{Reading, whole, fault}
use Rattle.circuit.specs.Reader.{read_circuit}
use Rattle.circuit.specs.Answer.{Answer, given, and_then}
use Rattle.circuit.specs.Call.{sizes_of, on_circuit, circuit_of}
use Rattle.circuit.proofs.AnswerLaws.{then_same}
use Rattle.laws.specs.Problem.{problem}
use Rattle.laws.specs.Standing.{Standing}
use Rattle.tags.specs.Tag.{Sheet, tagged}
use Rattle.tags.specs.Sheet.{empty_sheet, sheet_on}
use Rattle.tags.proofs.Empty.{no_tags, empty_given, empty_problem, empty_shown}
use Rattle.derivation.specs.Steps.{walked}
use Rattle.derivation.specs.Call.{Judgement, marks_of, total, verdict_of, judged, framed, roomy, derivation_on, derivation_call, left_by, derivation_marks}

-- what is answered of the last standing: how many signals are marked, and the verdict; of tags none is shown and none is left
unfoldable pub plain_judged : Circuit → Standing → Judgement
plain_judged C S =
    record { count = total (marks_of C.n S); verdict = verdict_of (problem C) S; shown = record { count = 0; missed = 0 } }

-- the call on a circuit alone
unfoldable pub plain_call : Circuit → List ℕ → ℕ → Answer Judgement
plain_call C d room = and_then (framed d (roomy C.n room (walked false (problem C) d))) (λ S. given (plain_judged C S))

pub empty_judged : (C : Circuit) (S : Standing) → judged (problem C) no_tags S ≡ plain_judged C S
unfolding judged plain_judged
empty_judged C S = rw (empty_shown C.i S.bound)

empty_on : (C : Circuit) (d : List ℕ) (room : ℕ) → derivation_on (tagged C no_tags) no_tags d room ≡ plain_call C d room
unfolding derivation_on plain_call
empty_on C d room =
    rw (empty_problem C)
    (then_same (framed d (roomy C.n room (walked false (problem C) d))) _ _ (λ (S : Standing). ap given (empty_judged C S)))

pub empty_derivation : (c d : List ℕ) (room : ℕ) → derivation_call c empty_sheet d room ≡ on_circuit (read_circuit c) (λ C. plain_call C d room)
unfolding derivation_call
empty_derivation c d room = go (read_circuit c)
  where
    go : (R : Reading Circuit)
        → on_circuit R (λ (C : Circuit). and_then (sheet_on (sizes_of C) empty_sheet) (λ (T : Sheet). derivation_on (tagged C T) T d room))
        ≡ on_circuit R (λ C. plain_call C d room)
    go (whole C size) = rw (empty_given (sizes_of C)) (empty_on C d room)
    go (fault number place) = refl

-- .. and in the buffer for marks
pub empty_marks : (c d marks : List ℕ) → derivation_marks c empty_sheet d marks
    ≡ left_by (on_circuit (read_circuit c) (λ C. plain_call C d (length marks))) (problem (circuit_of c)) d marks
unfolding derivation_marks
empty_marks c d marks = rw (empty_derivation c d (length marks), empty_problem (circuit_of c))
