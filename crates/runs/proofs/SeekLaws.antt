-- Laws of what a search finds: solutions are the values of satisfying runs, so the first solution from a candidate on is the least run, or the least after
-- a given one.
use Prim.Native.Nat.{ℕ, zero, suc, ◌≤◌, ◌<◌}
use mathlib.Core.Path.{◌≡◌, refl, sym, ap, ◌∙◌, fun_ext}
use mathlib.Core.Bool.{Bool, true, false}
use mathlib.Core.List.{List, [], ◌∷◌}
use mathlib.Core.Option.{none, some}
use native.Mathlib.Decide.{dec_le, dec_lt}
use native.Mathlib.Omega.{arith}
use lib.ListN.{length, get_or, take, drop, get_or-eq_default, length-take, length-drop}
use lib.Seq.{get_or-take, get_or-drop}
use Rattle.circuit.specs.Circuit.{Circuit, constraint_at, value_of, Satisfying}
use Rattle.circuit.specs.Run.{values_in}
use Rattle.circuit.specs.Answer.{Answer, given}
use Rattle.std.specs.Prelude.{Ok}
use Rattle.laws.proofs.Sum.{true_or_false}
use Rattle.runs.specs.Answer.{paper_of, run_answer}
use Rattle.circuit.proofs.RunLaws.{holds_satisfies, satisfies_holds}
use Rattle.runs.specs.Order.{Before}
use Rattle.runs.specs.Call.{Found, left_by}
use Rattle.runs.specs.Listed.{EachBelow, Least, IsLeast, Later}
use Rattle.runs.specs.Inner.{Candidate, Rose, Ended, held_at, Solution, Reached, Sought, Seeks, Answers}
use Rattle.runs.proofs.Orders.{before_not}
use Rattle.runs.proofs.Listed.{least_unique}
use Rattle.runs.proofs.SearchLaws.{rose_before, skipped, exhausted}

-- ---- values and runs

-- a candidate's values behind the constant one are its run
pub written_values : {p n : ℕ} (values : List ℕ) → Candidate p n (values_in values) → value_of (take n (drop 1 values)) ≡ values_in values
unfolding values_in value_of
written_values {n = n} values K = fun_ext go
  where
    at : (s : ℕ) → Dec (s < n) → get_or (take n (drop 1 values)) s 0 ≡ get_or values (suc s) 0
    at s (yes l) = get_or-take n (drop 1 values) s 0 l ∙ get_or-drop 1 values s 0 ∙ ap (λ (k : ℕ). get_or values k 0) (omega arith)
    at s (no l) =
        get_or-eq_default (take n (drop 1 values)) 0 (omega (arith, length-take n (drop 1 values))) ∙ sym (K.past (suc s) (omega arith))

    go : (s : ℕ) → ◌≡◌ {A = ℕ} (get_or (1 ∷ take n (drop 1 values)) s 0) (get_or values s 0)
    go zero = sym K.constant
    go (suc s) = at s (dec_lt s n)

-- n values below p are a candidate
pub run_values : {p n : ℕ} (run : List ℕ) → length run ≡ n → EachBelow p n run → Candidate p n (value_of run)
unfolding value_of
run_values {n = n} run e b = record { constant = refl; below = b; past = past }
  where
    past : (s : ℕ) → n < s → ◌≡◌ {A = ℕ} (get_or (1 ∷ run) s 0) 0
    past zero l = absurd (omega arith)
    past (suc s) l = get_or-eq_default run 0 (omega arith)

pub solution_satisfying : {C : Circuit} (run : List ℕ) → length run ≡ C.n → Solution C (value_of run) → Satisfying C run
unfolding held_at
solution_satisfying {C} run e S =
    record {
      is_run = record { sized = e; below = S.candidate.below };
      holds = λ k l m. holds_satisfies C.p (constraint_at C k) (value_of run) (S.holds k l m);
    }

pub satisfying_solution : {C : Circuit} → 0 < C.p → (run : List ℕ) → Satisfying C run → Solution C (value_of run)
unfolding held_at
satisfying_solution {C} positive run S =
    record {
      candidate = run_values run S.is_run.sized S.is_run.below;
      holds = λ k l m. satisfies_holds C.p (constraint_at C k) (value_of run) positive (S.holds k l m);
    }

-- the search writes the run of the candidate that it stopped at
pub seek_found : {C : Circuit} {from : ℕ → ℕ} {answer left : List ℕ} (values : List ℕ) → Sought C from (values_in values) true
    → C.n < length values → {count : ℕ} → count ≡ C.n → left ≡ take count (drop 1 values) → Seeks C from answer true left
seek_found {C} {from} {answer} {left} values S long room is =
    record { reached = λ z. (sized, rw (run, written_values values R.solution.candidate) R); no_more = λ e. true_or_false true refl e }
  where
    R : Reached C from (values_in values)
    R = S.reached refl

    run : left ≡ take C.n (drop 1 values)
    run = rw room at is

    sized : length left ≡ C.n
    sized = omega (arith, ap length run, length-take C.n (drop 1 values), length-drop 1 values)

pub seek_none : {C : Circuit} {from v : ℕ → ℕ} (answer : List ℕ) → Sought C from v false → Seeks C from answer false answer
seek_none answer S = record { reached = λ e. true_or_false false e refl; no_more = λ e. (refl, S.no_more e) }

-- ---- the least of the runs with a property, which are solutions from a candidate on

-- what a call answers, and leaves in the buffer
pub answers_by : {call r : Answer Found} {answer left : List ℕ} → r ≡ call → left ≡ left_by r answer → Answers call answer r left
answers_by {answer = answer} e f = record { answered = e; written = f ∙ ap (λ (a : Answer Found). left_by a answer) e }

module _ {C : Circuit} (P : List ℕ → Type 0) (from : ℕ → ℕ)
    (onward : (run : List ℕ) → P run → Solution C (value_of run) × (Before (value_of run) from → ⊥)) where
  reached_least : {left : List ℕ} → P left → Reached C from (value_of left) → IsLeast P (some left)
  reached_least {left} h R =
      record {
        found = λ run e. let z : left ≡ run = cc in rw z at least;
        no_more = λ e. let q : ◌≡◌ {A = ℕ} 0 1 = cc in absurd (omega arith);
      }
    where
      least : Least P left
      least = record { has = h; none_before = λ other o b. let A = onward other o in A.1 (R.passed (value_of other) A.0 b) }

  none_least : ((u : ℕ → ℕ) → Solution C u → Before u from) → IsLeast P none
  none_least all =
      record {
        found = λ run e. let q : ◌≡◌ {A = ℕ} 0 1 = cc in absurd (omega arith);
        no_more = λ e run h. let A = onward run h in A.1 (all (value_of run) A.0);
      }

  module _ (sized : (run : List ℕ) → P run → length run ≡ C.n)
      (has : (run : List ℕ) → length run ≡ C.n → Reached C from (value_of run) → P run) where
    -- the search gives that least run
    pub seek_least : {x : Found} → IsLeast P x → {answer left : List ℕ} {found : Bool} → Seeks C from answer found left
        → Answers (given x) answer (paper_of (run_answer (Ok found)) left) left
    seek_least {x} X {answer} {left} {found = true} S =
        let R = S.reached refl in
        let is : x ≡ some left = least_unique P C.n sized X (reached_least (has left R.0 R.1) R.1) in
        rw is (answers_by refl refl)
    seek_least {x} X {answer} {left} {found = false} S =
        let N = S.no_more refl in
        let is : x ≡ none = least_unique P C.n sized X (none_least N.1) in
        rw is (answers_by refl N.0)

-- ---- the first run: from the candidate of zeros

no_value : (s : ℕ) → 1 ≤ s → value_of [] s ≡ 0
unfolding value_of
no_value zero l = absurd (omega arith)
no_value (suc s) l = refl

constant_one : value_of [] 0 ≡ 1
unfolding value_of
constant_one = refl

pub start_candidate : (p n : ℕ) → 0 < p → Candidate p n (value_of [])
start_candidate p n positive =
    record {
      constant = constant_one;
      below = λ s l m. omega (arith, no_value s l);
      past = λ (s : ℕ) (l : n < s). no_value s (omega arith);
    }

start_first : {p n : ℕ} {u : ℕ → ℕ} → Candidate p n u → Before u (value_of []) → ⊥
start_first {u = u} K B = go B.at B.less
  where
    go : (s : ℕ) → u s < value_of [] s → ⊥
    go zero l = omega (arith, K.constant, constant_one)
    go (suc s) l = omega (arith, no_value (suc s) (omega arith))

pub first_answers : {C : Circuit} → 0 < C.p → {x : Found} → IsLeast (Satisfying C) x → {answer left : List ℕ} {found : Bool}
    → Seeks C (value_of []) answer found left → Answers (given x) answer (paper_of (run_answer (Ok found)) left) left
first_answers {C} positive =
    seek_least (Satisfying C) (value_of [])
    (λ run S. let X = satisfying_solution positive run S in (X, start_first X.candidate))
    (λ run S. S.is_run.sized)
    (λ run e R. solution_satisfying run e R.solution)

-- ---- the next run: from the candidate after the given one

-- a candidate that comes after v differs from it in its values
later_differs : {p n : ℕ} {u v : ℕ → ℕ} → Candidate p n u → Before v u → ((t : ℕ) → t ≤ n → u t ≡ v t) → ⊥
later_differs {n = n} {u = u} {v = v} K B same = go (dec_le B.at n)
  where
    go : Dec (B.at ≤ n) → ⊥
    go (yes l) = omega (arith, B.less, same B.at l)
    go (no l) = omega (arith, B.less, K.past B.at (omega arith))

module _ {C : Circuit} (positive : 0 < C.p) (run : List ℕ) (is_v : Candidate C.p C.n (value_of run)) where
  pub next_answers : {w : ℕ → ℕ} {j : ℕ} → Rose C.p C.n C.n (value_of run) w j → {x : Found} → IsLeast (Later C run) x
      → {answer left : List ℕ} {found : Bool} → Seeks C w answer found left → Answers (given x) answer (paper_of (run_answer (Ok found)) left) left
  next_answers {w} R =
      seek_least (Later C run) w onward (λ other L. L.satisfies.is_run.sized)
      (λ other e F. record {
        satisfies = solution_satisfying other e F.solution;
        later = F.onward (value_of run) (rose_before R is_v (omega arith));
      })
    where
      onward : (other : List ℕ) → Later C run other → Solution C (value_of other) × (Before (value_of other) w → ⊥)
      onward other L =
          let X = satisfying_solution positive other L.satisfies in
          (X, λ b. before_not L.later (skipped R is_v (omega arith) X.candidate (later_differs X.candidate L.later) b))

  -- where the given run is the last candidate, no run comes after it
  pub over_answers : {w : ℕ → ℕ} → Ended C.p C.n C.n (value_of run) w → {x : Found} → IsLeast (Later C run) x → (answer : List ℕ)
      → Answers (given x) answer (given none) answer
  over_answers E {x} X answer =
      let is : x ≡ none = least_unique (Later C run) C.n (λ other L. L.satisfies.is_run.sized) X none_later in
      rw is (answers_by refl refl)
    where
      none_later : IsLeast (Later C run) none
      none_later =
          record {
            found = λ run e. let q : ◌≡◌ {A = ℕ} 0 1 = cc in absurd (omega arith);
            no_more = λ e other L.
                let K = (satisfying_solution positive other L.satisfies).candidate in
                before_not L.later (exhausted E is_v (omega arith) K (later_differs K L.later));
          }
