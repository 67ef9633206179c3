-- EXACT: a well-formed pair is accepted exactly if both runs satisfy the circuit, their inputs obey every tag on them, and they agree on all inputs and
-- differ at q.
use Prim.Native.Nat.{ℕ, ◌+◌, ◌*◌, ◌≤◌, ◌<◌}
use mathlib.Core.Path.{◌≡◌, refl, sym, ap, ◌∙◌}
use mathlib.Core.Bool.{true, false}
use mathlib.Core.List.{List}
use native.Mathlib.Omega.{arith}
use borrow.Author.Tests.{lt-ltb, le-leb}
use lib.ListN.{drop}
use Rattle.circuit.specs.Circuit.{Circuit, constraint_at, value_of, IsRun, Satisfying}
use Rattle.circuit.specs.Reading.{Reading, whole, fault}
use Rattle.circuit.specs.Reader.{read_circuit}
use Rattle.circuit.specs.Runs.{run_in, first_from, below, unsatisfied, agree}
use Rattle.circuit.specs.Answer.{given, and_then}
use Rattle.circuit.specs.Call.{sizes_of, on_circuit}
use Rattle.circuit.proofs.AnswerLaws.{next_given}
use Rattle.circuit.proofs.WellFormed.{read_well_formed}
use Rattle.circuit.proofs.SearchLaws.{passed, none, first_same, below_yes, agree_yes, agree_is, satisfying, none_unsatisfied}
use Rattle.circuit.proofs.CopyLaws.{run_length, run_value, value_drop}
use Rattle.tags.specs.Tag.{Sheet, Allowed, keeps, kept}
use Rattle.tags.specs.Sheet.{sheet_on}
use Rattle.tags.proofs.TagLaws.{keeps_each, each_keeps}
use Rattle.pair.specs.Call.{first_run, second_run, signal_of, values_of, file_on, runs_on, pair_on, pair_call}
use Rattle.pair.specs.Exact.{WellFormedPair, Shown, Exact}
use Rattle.pair.proofs.CallLaws.{FileFramed, framed_file, file_given, runs_differ, runs_given}

-- a satisfying run is allowed exactly if no input is found that breaks a tag
module _ (C : Circuit) (T : Sheet) (run : List ℕ) where
  allowed : Satisfying C run → first_from (kept T (value_of run)) 1 C.i ≡ 0 → Allowed C T run
  unfolding kept
  allowed S e =
      record {
        satisfies = S;
        obeys = λ k l m first last.
            keeps_each T.tag (T.tag k).signal _ T.count (passed (kept T (value_of run)) C.i e (T.tag k).signal first last) k l m refl;
      }

  none_broken : Allowed C T run → first_from (kept T (value_of run)) 1 C.i ≡ 0
  unfolding kept
  none_broken A =
      none (kept T (value_of run)) C.i
      (λ s l m. each_keeps T.tag s (value_of run s) T.count (λ j first last e. rw e at (A.obeys j first last (rw e l) (rw e m))))

module _ {s h t : List ℕ} {C : Circuit} {T : Sheet} (W : WellFormedPair s h t C T) where
  -- the file of a well-formed pair
  file_formed : file_on (sizes_of C) t ≡ given (signal_of t)
  file_formed =
      let F : FileFramed (sizes_of C) t = record { least = W.least; mark = W.mark; version = W.version; sized = W.sized } in
      let all = none (below C.p (values_of t)) (2 * C.n) (λ j l m. below_yes C.p (values_of t) j _ refl (W.below j l m)) in
      framed_file F ∙ rw (lt-ltb _ _ W.output_least, le-leb _ _ W.output_most, all)

  formed_call : pair_call s h t
      ≡ runs_on (sizes_of C) T (constraint_at C) (value_of (first_run C.n t)) (value_of (second_run C.n t)) (signal_of t)
  unfolding pair_call pair_on
  formed_call = rw (W.unrefused.read, W.unrefused.sheeted, file_formed)

  -- the values after the first k are a run, if there are enough
  is_run_lem : (k : ℕ) → k ≤ C.n → IsRun C (run_in (drop (4 * k) (values_of t)) C.n)
  is_run_lem k few =
      let values = drop (4 * k) (values_of t) in
      record {
        sized = run_length values C.n;
        below = λ j l m. rw (run_value values C.n j l m, value_drop (values_of t) k j l) (W.below (k + j) (omega arith) (omega arith));
      }

  accepts : Shown C T t → pair_call s h t ≡ given (signal_of t)
  unfolding unsatisfied
  accepts S =
      let v = value_of (first_run C.n t) in
      let w = value_of (second_run C.n t) in
      let positive : 0 < C.p = omega (arith, (read_well_formed s C W.unrefused.size W.unrefused.read).p_least) in
      formed_call
      ∙ sym
      (runs_differ (sizes_of C) T (constraint_at C) v w (signal_of t)
      (record {
        first = none_unsatisfied C _ positive S.first.satisfies;
        second = none_unsatisfied C _ positive S.second.satisfies;
        input = none (agree v w) C.i (λ k l m. agree_yes v w k (S.share k l m));
        broken = none_broken C T _ S.first;
      })
      S.differ)

  shows : pair_call s h t ≡ given (signal_of t) → Shown C T t
  unfolding kept unsatisfied
  shows e =
      let v = value_of (first_run C.n t) in
      let w = value_of (second_run C.n t) in
      let runs = runs_given (sizes_of C) T (constraint_at C) v w (signal_of t) (signal_of t) (sym formed_call ∙ e) in
      let share : (k : ℕ) → 1 ≤ k → k ≤ C.i → v k ≡ w k = λ k l m. agree_is v w k (passed (agree v w) C.i runs.0.input k l m) in
      let same = first_same (kept T v) (kept T w) C.i (λ k l m. ap (λ (x : ℕ). keeps T.tag k x T.count) (share k l m)) in
      record {
        first = allowed C T _ (satisfying C _ (is_run_lem 0 (omega arith)) runs.0.first) runs.0.broken;
        second = allowed C T _ (satisfying C _ (is_run_lem C.n (omega arith)) runs.0.second) (sym same ∙ runs.0.broken);
        share = share;
        differ = λ equal. let z : true ≡ false = sym (agree_yes v w (signal_of t) equal) ∙ runs.1 in let y : ◌≡◌ {A = ℕ} 0 1 = cc in omega arith;
      }

-- what is accepted is a well-formed pair, at its signal
only : (s h t : List ℕ) (q : ℕ) → pair_call s h t ≡ given q → (q ≡ signal_of t) × (C : Circuit) × (T : Sheet) × WellFormedPair s h t C T
unfolding pair_call pair_on
only s h t q e = go (read_circuit s) refl e
  where
    go : (r : Reading Circuit) → read_circuit s ≡ r → on_circuit r (λ C. and_then (sheet_on (sizes_of C) h) (λ T. pair_on C T t)) ≡ given q
        → (q ≡ signal_of t) × (C : Circuit) × (T : Sheet) × WellFormedPair s h t C T
    go (whole C size) read e =
        let sheet = next_given (sheet_on (sizes_of C) h) (λ T. pair_on C T t) e in
        let file = next_given (file_on (sizes_of C) t) _ sheet.then in
        let F = file_given (sizes_of C) t file.result file.first in
        let W = F.0 in
        let R = runs_given (sizes_of C) sheet.result (constraint_at C) _ _ file.result q file.then in (
          R.2 ∙ F.1,
          C,
          sheet.result,
          record {
            unrefused = record { size = size; read = read; sheeted = sheet.first };
            least = W.framed.least;
            mark = W.framed.mark;
            version = W.framed.version;
            sized = W.framed.sized;
            output_least = W.above;
            output_most = W.within;
            below = W.values;
          },
        )
    go (fault number place) read e = let z : ◌≡◌ {A = ℕ} 0 1 = cc in absurd (omega arith)

-- EXACT, for all bytes
pub exact : (s h t : List ℕ) → Exact s h t (pair_call s h t)
exact s h t = record { accepts = λ C T W. accepts W; shows = λ C T W. shows W; only = only s h t }
