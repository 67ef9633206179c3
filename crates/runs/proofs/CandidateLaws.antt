-- Laws of the lists of runs: the candidates are all runs of n values below p, in rising order, and what passes a test stays in order.
use Prim.Native.Nat.{ℕ, zero, suc, ◌<◌}
use mathlib.Core.Path.{◌≡◌, refl, sym, ap, ◌∙◌}
use mathlib.Core.Logic.{⊎_elim}
use mathlib.Core.Bool.{Bool, true, false}
use mathlib.Core.List.Memᴰ
use mathlib.Core.List.{List, [], ◌∷◌, ◌++◌, map}
use native.Mathlib.Omega.{arith}
use native.Mathlib.Decide.{ℕ_discrete}
use lib.ListN.{length}
use Rattle.circuit.specs.Circuit.{Circuit, value_of, IsRun}
use Rattle.runs.specs.Order.{Before, starting_below, candidates, kept_if, passing}
use Rattle.runs.specs.Listed.{EachBelow, In, Rising, no_runs, rises}
use Rattle.runs.proofs.Orders.{before_first, before_later}

-- ---- membership

-- run is one of the lists with x before it
record Led (x : ℕ) (lists : List (List ℕ)) (run : List ℕ) : Type 0 where
  rest : List ℕ
  is : run ≡ x ∷ rest
  from : In rest lists

-- run is one of the lists with a value below k before it
record Starts (k : ℕ) (lists : List (List ℕ)) (run : List ℕ) : Type 0 where
  first : ℕ
  low : first < k
  led : Led first lists run

in_map : (x : ℕ) (lists : List (List ℕ)) {run : List ℕ} → In run (map (λ list. x ∷ list) lists) → Led x lists run
in_map x [] m = absurd (Memᴰ.not-nil m)
in_map x (list ∷ lists) m =
    ⊎_elim (λ e. record { rest = list; is = e; from = Memᴰ.head refl })
    (λ l. let L = in_map x lists l in record { rest = L.rest; is = L.is; from = Memᴰ.tail L.from }) (Memᴰ.cases_cons m)

map_in : (x : ℕ) {list : List ℕ} {lists : List (List ℕ)} → In list lists → In (x ∷ list) (map (λ l. x ∷ l) lists)
map_in x (Memᴰ.head e) = Memᴰ.head (ap (λ (l : List ℕ). x ∷ l) e)
map_in x (Memᴰ.tail m) = Memᴰ.tail (map_in x m)

in-starting : (k : ℕ) (lists : List (List ℕ)) {run : List ℕ} → In run (starting_below k lists) → Starts k lists run
unfolding starting_below
in-starting zero lists m = absurd (Memᴰ.not-nil m)
in-starting (suc k) lists m =
    ⊎_elim (λ l. let S = in-starting k lists l in record { first = S.first; low = omega (arith, S.low); led = S.led })
    (λ l. record { first = k; low = omega arith; led = in_map k lists l }) (Memᴰ.append_cases (starting_below k lists) m)

starting_in : (k : ℕ) (lists : List (List ℕ)) {x : ℕ} {list : List ℕ} → x < k → In list lists → In (x ∷ list) (starting_below k lists)
unfolding starting_below
starting_in zero lists h m = absurd (omega arith)
starting_in (suc k) lists {x} {list} h m = go (ℕ_discrete x k) (λ l. starting_in k lists l m)
  where
    go : Dec (x ≡ k) → (x < k → In (x ∷ list) (starting_below k lists)) → In (x ∷ list) (starting_below (suc k) lists)
    go (yes e) lower = Memᴰ.append_right (starting_below k lists) (rw e (map_in k m))
    go (no e) lower = Memᴰ.append_left (map (λ l. k ∷ l) lists) (lower (omega arith))

-- the values of a run by its first
below_more : (p n : ℕ) (x : ℕ) (run : List ℕ) → x < p → EachBelow p n run → EachBelow p (suc n) (x ∷ run)
unfolding value_of
below_more p n x run h b zero l m = absurd (omega arith)
below_more p n x run h b (suc zero) l m = h
below_more p n x run h b (suc (suc s)) l m = b (suc s) (omega arith) (omega arith)

below_first : (p n : ℕ) (x : ℕ) (run : List ℕ) → EachBelow p (suc n) (x ∷ run) → x < p
unfolding value_of
below_first p n x run b = b 1 (omega arith) (omega arith)

below_rest : (p n : ℕ) (x : ℕ) (run : List ℕ) → EachBelow p (suc n) (x ∷ run) → EachBelow p n run
unfolding value_of
below_rest p n x run b zero l m = absurd (omega arith)
below_rest p n x run b (suc s) l m = b (suc (suc s)) (omega arith) (omega arith)

pub candidate_says : (p n : ℕ) {run : List ℕ} → In run (candidates p n) → (length run ≡ n) × EachBelow p n run
unfolding candidates
candidate_says p zero m = (ap length (Memᴰ.eq_of_singleton m), λ s l h. absurd (omega arith))
candidate_says p (suc n) m =
    let S = in-starting p (candidates p n) m in
    let C = candidate_says p n S.led.from in
    rw S.led.is (ap suc C.0, below_more p n S.first S.led.rest S.low C.1)

pub candidate_in : (p n : ℕ) (run : List ℕ) → length run ≡ n → EachBelow p n run → In run (candidates p n)
unfolding candidates
candidate_in p zero [] e b = Memᴰ.head refl
candidate_in p zero (x ∷ run) e b = absurd (omega arith)
candidate_in p (suc n) [] e b = absurd (omega arith)
candidate_in p (suc n) (x ∷ run) e b =
    starting_in p (candidates p n) (below_first p n x run b) (candidate_in p n run (omega arith) (below_rest p n x run b))

-- the candidates of a circuit are its runs
pub candidate_run : (C : Circuit) {run : List ℕ} → In run (candidates C.p C.n) → IsRun C run
candidate_run C m = let c = candidate_says C.p C.n m in record { sized = c.0; below = c.1 }

pub run_candidate : (C : Circuit) {run : List ℕ} → IsRun C run → In run (candidates C.p C.n)
run_candidate C {run} r = candidate_in C.p C.n run r.sized r.below

-- ---- rising lists

append_rising : {xs ys : List (List ℕ)} → Rising xs → Rising ys
    → ((x y : List ℕ) → In x xs → In y ys → Before (value_of x) (value_of y)) → Rising (xs ++ ys)
append_rising no_runs s h = s
append_rising (rises {run} {runs} l r) s h =
    rises (λ other m. ⊎_elim (l other) (h run other (Memᴰ.head refl)) (Memᴰ.append_cases runs m))
    (append_rising r s (λ x y m. h x y (Memᴰ.tail m)))

map_rising : (x : ℕ) {lists : List (List ℕ)} → Rising lists → Rising (map (λ list. x ∷ list) lists)
map_rising x no_runs = no_runs
map_rising x (rises {run} {runs} l r) =
    rises {run = x ∷ run} (λ other m. let L = in_map x runs m in rw L.is (before_later x x run L.rest refl (l L.rest L.from)))
    (map_rising x r)

starting_rising : (k : ℕ) {lists : List (List ℕ)} → Rising lists → Rising (starting_below k lists)
unfolding starting_below
starting_rising zero r = no_runs
starting_rising (suc k) {lists} r =
    append_rising (starting_rising k r) (map_rising k r)
    (λ x y m l.
    let S = in-starting k lists m in
    let L = in_map k lists l in
    rw (S.led.is, L.is) (before_first S.first k S.led.rest L.rest S.low))

pub candidates_rising : (p n : ℕ) → Rising (candidates p n)
unfolding candidates
candidates_rising p zero = rises (λ other m. absurd (Memᴰ.not-nil m)) no_runs
candidates_rising p (suc n) = starting_rising p (candidates_rising p n)

-- ---- what passes a test

kept_in : (b : Bool) (x : List ℕ) {run : List ℕ} {runs : List (List ℕ)} → In run runs → In run (kept_if b x runs)
kept_in true x m = Memᴰ.tail m
kept_in false x m = m

kept_rising : (b : Bool) {run : List ℕ} {runs : List (List ℕ)} → Rising (run ∷ runs) → Rising (kept_if b run runs)
kept_rising true r = r
kept_rising false (rises l r) = r

module _ (test : List ℕ → Bool) where
  pub passing_yes : (run : List ℕ) (runs : List (List ℕ)) → test run ≡ true → passing test (run ∷ runs) ≡ run ∷ passing test runs
  unfolding passing
  passing_yes run runs e = rw e

  pub passing_no : (run : List ℕ) (runs : List (List ℕ)) → test run ≡ false → passing test (run ∷ runs) ≡ passing test runs
  unfolding passing
  passing_no run runs e = rw e

  pub in_passing : (runs : List (List ℕ)) {run : List ℕ} → In run (passing test runs) → In run runs × (test run ≡ true)
  unfolding passing
  in_passing [] m = absurd (Memᴰ.not-nil m)
  in_passing (x ∷ runs) {run} m = go (test x) refl m (in_passing runs)
    where
      go : (b : Bool) → test x ≡ b → In run (kept_if b x (passing test runs)) → (In run (passing test runs) → In run runs × (test run ≡ true))
          → In run (x ∷ runs) × (test run ≡ true)
      go true e m later =
          ⊎_elim (λ (z : run ≡ x). (Memᴰ.head z, ap test z ∙ e)) (λ l. (Memᴰ.tail (later l).0, (later l).1)) (Memᴰ.cases_cons m)
      go false e m later = (Memᴰ.tail (later m).0, (later m).1)

  pub passing_in : {run : List ℕ} {runs : List (List ℕ)} → In run runs → test run ≡ true → In run (passing test runs)
  unfolding passing
  passing_in (Memᴰ.head {x} {xs} z) t = rw (passing_yes x xs (ap test (sym z) ∙ t)) (Memᴰ.head z)
  passing_in (Memᴰ.tail {x} m) t = kept_in (test x) x (passing_in m t)

  pub passing_rising : {runs : List (List ℕ)} → Rising runs → Rising (passing test runs)
  unfolding passing
  passing_rising no_runs = no_runs
  passing_rising (rises {run} {runs} l r) = kept_rising (test run) (rises (λ other m. l other (in_passing runs m).0) (passing_rising r))

  -- what every run passes leaves the list as it is
  pub passing_all : (runs : List (List ℕ)) → ((run : List ℕ) → In run runs → test run ≡ true) → passing test runs ≡ runs
  unfolding passing
  passing_all [] h = refl
  passing_all (run ∷ runs) h =
      rw (h run (Memᴰ.head refl)) (ap (λ (rest : List (List ℕ)). run ∷ rest) (passing_all runs (λ other m. h other (Memᴰ.tail m))))
