-- EMPTY, for pairs (rule 7.6): with the sheet that says nothing the call answers what it answered before there were sheets.
use Prim.Native.Nat.{ℕ}
use mathlib.Core.Path.{◌≡◌, refl}
use mathlib.Core.Bool.{not}
use mathlib.Core.List.{List}
use Rattle.circuit.specs.Circuit.{Circuit, constraint_at, value_of}
use Rattle.circuit.specs.Reading.{Reading, whole, fault}
use Rattle.circuit.specs.Reader.{read_circuit}
use Rattle.circuit.specs.Runs.{first_from, satisfied_by, agree}
use Rattle.circuit.specs.Answer.{Answer, given, ask, ask_none, and_then}
use Rattle.circuit.specs.Call.{sizes_of, on_circuit}
use Rattle.circuit.proofs.AnswerLaws.{then_same}
use Rattle.circuit.proofs.SearchLaws.{none}
use Rattle.tags.specs.Tag.{kept}
use Rattle.tags.specs.Sheet.{empty_sheet, sheet_on}
use Rattle.tags.proofs.Empty.{no_tags, empty_given, empty_kept}
use Rattle.pair.specs.Call.{first_run, second_run, file_on, runs_on, pair_on, pair_call}

-- the call on a circuit as it was before: refusals 18 to 24, with no sheet and no 28
unfoldable pub untagged : Circuit → List ℕ → Answer ℕ
untagged C t =
    let v = value_of (first_run C.n t) in
    let w = value_of (second_run C.n t) in
    and_then (file_on (sizes_of C) t) (λ q.
    ask_none (first_from (satisfied_by C.p (constraint_at C) v) 1 C.m) 22 0
    (ask_none (first_from (satisfied_by C.p (constraint_at C) w) 1 C.m) 22 C.m
    (ask_none (first_from (agree v w) 1 C.i) 23 0
    (ask (not (agree v w q)) 24 q
    (given q)))))

pub empty_pair : (s t : List ℕ) → pair_call s empty_sheet t ≡ on_circuit (read_circuit s) (λ C. untagged C t)
unfolding pair_call pair_on runs_on untagged
empty_pair s t = go (read_circuit s)
  where
    go : (r : Reading Circuit)
        → on_circuit r (λ C. and_then (sheet_on (sizes_of C) empty_sheet) (λ T. pair_on C T t)) ≡ on_circuit r (λ C. untagged C t)
    go (whole C size) =
        let v = value_of (first_run C.n t) in
        rw (empty_given (sizes_of C))
        (then_same (file_on (sizes_of C) t) _ _ (λ q. rw (none (kept no_tags v) C.i (λ s l m. empty_kept v s))))
    go (fault number place) = refl
