-- Rule 7.10: the first of a rising list is the least, so the calls give the least run; and LISTED: in a rising list, those that a run comes before are the
-- ones after it, so the first run and the next after each give the whole list.
use Prim.Native.Nat.{ℕ, ◌^◌, ◌≤◌, ◌<◌}
use mathlib.Core.Path.{◌≡◌, refl, sym, ap, ◌∙◌}
use mathlib.Core.Logic.{⊎_elim}
use mathlib.Core.Bool.{false}
use mathlib.Core.List.{List, [], ◌∷◌, ◌++◌, append_assoc}
use mathlib.Core.List.Memᴰ
use mathlib.Core.Option.{none, some}
use native.Mathlib.Omega.{arith}
use borrow.Author.Tests.{eqb-true, eq-eqb, le-leb, lt-ltb}
use lib.Dec.{eqb}
use lib.ListN.{length}
use Rattle.circuit.specs.Circuit.{Circuit, value_of, IsRun, Satisfying}
use Rattle.circuit.specs.Reading.{whole}
use Rattle.circuit.specs.Reader.{read_circuit}
use Rattle.circuit.specs.Runs.{first_from}
use Rattle.circuit.specs.Answer.{given}
use Rattle.circuit.proofs.AnswerLaws.{ask_given, none_given}
use Rattle.circuit.proofs.SearchLaws.{satisfying, none_unsatisfied, none as none-fails}
use Rattle.circuit.proofs.WellFormed.{read_well_formed}
use Rattle.laws.proofs.Sum.{false_by}
use Rattle.runs.specs.Order.{Before, precedes, passing, first_of, satisfies, runs_of}
use Rattle.runs.specs.Call.{Found, first_run, next_run, few, fits, first_on, next_on, first_call, next_call}
use Rattle.runs.specs.Listed.{Least, IsLeast, Later, EachBelow, First, Next, FirstAnswer, NextAnswer, Listed, ListedAnswer}
use Rattle.runs.specs.Listed.{Gives, over, more, In, Rising, no_runs, rises}
use Rattle.runs.proofs.Orders.{before_irreflexive, before_not, compare, precedes_before, before_precedes}
use Rattle.runs.proofs.CandidateLaws.{candidate_run, run_candidate, candidates_rising, in_passing, passing_in, passing_rising, passing_no, passing_all}

-- ---- rising lists

-- no run stands at two places
pub rising_once : {run : List ℕ} {runs : List (List ℕ)} → Rising (run ∷ runs) → In run runs → ⊥
rising_once {run} (rises l r) m = before_irreflexive (l run m)

-- the first of a rising list is the least of what it holds
least_of_lem : (P : List ℕ → Type 0) {runs : List (List ℕ)} → Rising runs → ((run : List ℕ) → In run runs → P run)
    → ((run : List ℕ) → P run → In run runs) → IsLeast P (first_of runs)
least_of_lem P no_runs only all =
    record { found = λ run e. let z : ◌≡◌ {A = ℕ} 0 1 = cc in absurd (omega arith); no_more = λ e run h. Memᴰ.not-nil (all run h) }
least_of_lem P (rises {run} {runs} l r) only all =
    record { found = found; no_more = λ e. let z : ◌≡◌ {A = ℕ} 0 1 = cc in absurd (omega arith) }
  where
    least : Least P run
    least =
        record {
          has = only run (Memᴰ.head refl);
          none_before = λ other h b.
              ⊎_elim (λ (e : other ≡ run). before_irreflexive (rw e at b)) (λ m. before_not (l other m) b) (Memᴰ.cases_cons (all other h));
        }

    found : (other : List ℕ) → some run ≡ some other → Least P other
    found other e = let z : run ≡ other = cc in rw z at least

-- there is one least run, of those of the same length
pub least_unique : (P : List ℕ → Type 0) (n : ℕ) → ((run : List ℕ) → P run → length run ≡ n) → {x y : Found} → IsLeast P x → IsLeast P y → x ≡ y
least_unique P n sized {x = none} {y = none} X Y = refl
least_unique P n sized {x = none} {y = some b} X Y = absurd (X.no_more refl b (Y.found b refl).has)
least_unique P n sized {x = some a} {y = none} X Y = absurd (Y.no_more refl a (X.found a refl).has)
least_unique P n sized {x = some a} {y = some b} X Y = go (X.found a refl) (Y.found b refl)
  where
    go : Least P a → Least P b → some a ≡ some b
    go A B =
        ⊎_elim (λ h. absurd (B.none_before a A.has h)) (⊎_elim (ap some) (λ h. absurd (A.none_before b B.has h)))
        (compare a b (sized a A.has ∙ sym (sized b B.has)))

-- in a rising list those that a run comes before are the ones after it
module _ (run : List ℕ) (rest : List (List ℕ)) (sized : (other : List ℕ) → In other rest → length run ≡ length other) where
  not_before : (other : List ℕ) → (Before (value_of run) (value_of other) → ⊥) → precedes run other ≡ false
  not_before other h = false_by (precedes run other) (λ e. h (precedes_before run other e))

  rest_after : (ys : List (List ℕ)) → Rising (ys ++ (run ∷ rest)) → passing (precedes run) (ys ++ (run ∷ rest)) ≡ rest
  rest_after [] (rises l r) =
      passing_no (precedes run) run rest (not_before run before_irreflexive)
      ∙ passing_all (precedes run) rest (λ other m. before_precedes run other (sized other m) (l other m))
  rest_after (y ∷ ys) (rises l r) =
      passing_no (precedes run) y (ys ++ (run ∷ rest)) (not_before y (before_not (l run (Memᴰ.append_right ys (Memᴰ.head refl)))))
      ∙ rest_after ys r

-- ---- a circuit

given_same : {x y : Found} → given x ≡ given y → x ≡ y
given_same e = cc

module _ (C : Circuit) where
  pub runs_satisfying : {run : List ℕ} → In run (runs_of C) → Satisfying C run
  unfolding runs_of satisfies
  runs_satisfying {run} m = let h = in_passing (satisfies C) _ m in satisfying C run (candidate_run C h.0) (eqb-true _ _ h.1)

  pub runs_rising : Rising (runs_of C)
  unfolding runs_of
  runs_rising = passing_rising (satisfies C) (candidates_rising C.p C.n)

  -- where no refusal is met
  pub first_given : {room : ℕ} → C.p ^ C.n ≤ 65536 → room ≡ C.n → first_on C room ≡ given (first_run C)
  unfolding first_on few
  first_given h e = rw (le-leb _ _ h, eq-eqb _ _ e)

  pub next_given : (run : List ℕ) {room : ℕ} → C.p ^ C.n ≤ 65536 → length run ≡ C.n → room ≡ C.n → EachBelow C.p C.n run
      → next_on C run room ≡ given (next_run C run)
  unfolding next_on few fits
  next_given run h e f b =
      rw (le-leb _ _ h, eq-eqb _ _ e, eq-eqb _ _ f, none-fails (fits C.p run) C.n (λ s l m. lt-ltb _ _ (b s l m)))

  module _ (positive : 0 < C.p) where
    pub satisfying_in : {run : List ℕ} → Satisfying C run → In run (runs_of C)
    unfolding runs_of satisfies
    satisfying_in {run} S = passing_in (satisfies C) (run_candidate C S.is_run) (eq-eqb _ 0 (none_unsatisfied C run positive S))

    pub first_least : IsLeast (Satisfying C) (first_run C)
    unfolding first_run
    first_least = least_of_lem (Satisfying C) runs_rising (λ run. runs_satisfying) (λ run. satisfying_in)

    pub next_least : (run : List ℕ) → length run ≡ C.n → IsLeast (Later C run) (next_run C run)
    unfolding next_run
    next_least run sized = least_of_lem (Later C run) (passing_rising (precedes run) runs_rising) only all
      where
        only : (other : List ℕ) → In other (passing (precedes run) (runs_of C)) → Later C run other
        only other m =
            let h = in_passing (precedes run) (runs_of C) m in record { satisfies = runs_satisfying h.0; later = precedes_before run other h.1 }

        all : (other : List ℕ) → Later C run other → In other (passing (precedes run) (runs_of C))
        all other L =
            let S = L.satisfies in passing_in (precedes run) (satisfying_in S) (before_precedes run other (sized ∙ sym S.is_run.sized) L.later)

    first_on_lem : (room : ℕ) → First C room (first_on C room)
    unfolding first_on
    first_on_lem room = record { answered = λ h e. (first_run C, first_given h e); least = least }
      where
        least : (x : Found) → first_on C room ≡ given x → IsLeast (Satisfying C) x
        least x e =
            let small = ask_given (few C.p C.n) 30 0 _ e in
            let fit = ask_given (eqb room C.n) 31 0 _ small.1 in
            let is : first_run C ≡ x = given_same fit.1 in
            rw is at first_least

    next_on_lem : (run : List ℕ) (room : ℕ) → Next C run room (next_on C run room)
    unfolding next_on
    next_on_lem run room = record { answered = λ h e f b. (next_run C run, next_given run h e f b); least = least }
      where
        least : (x : Found) → next_on C run room ≡ given x → IsLeast (Later C run) x
        least x e =
            let small = ask_given (few C.p C.n) 30 0 _ e in
            let sized = ask_given (eqb (length run) C.n) 31 0 _ small.1 in
            let fit = ask_given (eqb room C.n) 31 0 _ sized.1 in
            let below = none_given (first_from (fits C.p run) 1 C.n) 31 0 _ fit.1 in
            let is : next_run C run ≡ x = given_same below.1 in
            rw is at (next_least run (eqb-true _ _ sized.0))

-- ---- the calls

module _ (s : List ℕ) (C : Circuit) (size : ℕ) (read : read_circuit s ≡ whole C size) where
  positive : 0 < C.p
  positive = omega (arith, (read_well_formed s C size read).p_least)

  first_read : (room : ℕ) → first_call s room ≡ first_on C room
  unfolding first_call
  first_read room = rw read

  next_read : (run : List ℕ) (room : ℕ) → next_call s run room ≡ next_on C run room
  unfolding next_call
  next_read run room = rw read

  module _ (h : C.p ^ C.n ≤ 65536) where
    -- where the runs of the circuit are ys, then `run`, then the rest: the next after `run` is the first of the rest
    module _ (ys : List (List ℕ)) (run : List ℕ) (rest : List (List ℕ)) (e : runs_of C ≡ ys ++ (run ∷ rest)) where
      is_run_lem : {other : List ℕ} → In other (run ∷ rest) → IsRun C other
      is_run_lem {other} m = (runs_satisfying C {run = other} (rw e (Memᴰ.append_right ys m))).is_run

      later_rest : passing (precedes run) (runs_of C) ≡ rest
      later_rest =
          let sized = (is_run_lem (Memᴰ.head refl)).sized in
          rw e (rest_after run rest (λ other m. sized ∙ sym (is_run_lem (Memᴰ.tail m)).sized) ys (rw e at (runs_rising C)))

      next_after : next_call s run C.n ≡ given (first_of rest)
      unfolding next_run
      next_after =
          let R = is_run_lem (Memᴰ.head refl) in
          next_read run C.n ∙ next_given C run h R.sized refl R.below ∙ ap (λ (runs : List (List ℕ)). given (first_of runs)) later_rest

    gives_from : (ys rest : List (List ℕ)) → runs_of C ≡ ys ++ rest → Gives s C.n (given (first_of rest)) rest
    gives_from ys [] e = over
    gives_from ys (run ∷ rest) e =
        let later = gives_from (ys ++ (run ∷ [])) rest (e ∙ sym (append_assoc ys (run ∷ []) rest)) in
        more {run = run} {runs = rest} (rw (next_after ys run rest e) later)

    gives : Gives s C.n (first_call s C.n) (runs_of C)
    unfolding first_run
    gives = rw (first_read C.n ∙ first_given C h refl) (gives_from [] (runs_of C) refl)

pub first_answer : (s : List ℕ) (room : ℕ) → FirstAnswer s room (first_call s room)
first_answer s room C size read = rw (first_read s C size read room) (first_on_lem C (positive s C size read) room)

pub next_answer : (s run : List ℕ) (room : ℕ) → NextAnswer s run room (next_call s run room)
next_answer s run room C size read = rw (next_read s C size read run room) (next_on_lem C (positive s C size read) run room)

-- LISTED
pub listed : (s : List ℕ) (C : Circuit) (size : ℕ) → read_circuit s ≡ whole C size → C.p ^ C.n ≤ 65536 → Listed s C (first_call s C.n) (runs_of C)
listed s C size read h =
    record {
      gives = gives s C size read h;
      rising = runs_rising C;
      all = λ run. satisfying_in C (positive s C size read);
      only = λ run. runs_satisfying C;
    }

pub listed_answer : (s : List ℕ) (room : ℕ) → ListedAnswer s room (first_call s room)
listed_answer s room C size read h e = rw e (runs_of C, listed s C size read h)
