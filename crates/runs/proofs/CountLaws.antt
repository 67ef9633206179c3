-- Laws of candidates: how many there are, the values of a given run, and the step to the next candidate, digit by digit from the last.
use Prim.Native.Nat.{ℕ, zero, suc, ◌+◌, ◌*◌, ◌-◌, ◌^◌, ◌≤◌, ◌<◌}
use mathlib.Core.Path.{◌≡◌, refl, sym, ap, ◌∙◌, fun_ext}
use mathlib.Core.Logic.{◌⊎◌, ⊎_elim}
use mathlib.Core.Bool.{true, false}
use mathlib.Core.List.{List, ◌∷◌, ◌++◌}
use native.Mathlib.Decide.{ℕ_discrete, dec_le, dec_lt}
use native.Mathlib.Nat.{pow-le-pow_left, pow-le-pow_right, pow-zero, pow-suc}
use native.Mathlib.Numerals.{add-one}
use native.Mathlib.Omega.{arith}
use borrow.Author.Tests.{lt-ltb, le-ltb}
use lib.ListN.{length, get_or, set, drop, replicate, get_or-eq_default, get_or-append}
use lib.Seq.{get_or-set_same, get_or-set_other, get_or-drop, get_or-append_right}
use Rattle.std.specs.Prelude.{Option, None, Some, is_some, MatchOption}
use Rattle.laws.proofs.Sum.{true_or_false}
use Rattle.circuit.specs.Circuit.{value_of}
use Rattle.circuit.specs.Run.{values_in}
use Rattle.circuit.specs.Runs.{first_from, found}
use Rattle.circuit.proofs.CopyLaws.{zeros}
use Rattle.circuit.proofs.SearchLaws.{none, first_at}
use Rattle.runs.specs.Call.{fits}
use Rattle.runs.specs.Inner.{Candidate, Rose, Ended}

-- ---- how many candidates there are

-- few candidates have few signals
pub few_signals : {p n : ℕ} → 3 ≤ p → p ^ n ≤ 65536 → n ≤ 10
few_signals {p} {n} odd most = go (dec_le n 10)
  where
    go : Dec (n ≤ 10) → n ≤ 10
    go (yes l) = l
    go (no l) =
        let more : 3 ^ 11 ≤ 3 ^ n = pow-le-pow_right {n = 3} (omega arith) {i = 11} {j = n} (omega arith) in
        let base : 3 ^ n ≤ p ^ n = pow-le-pow_left odd n in
        absurd (omega arith)

-- .. and a prime that is at most as many
pub small_prime : {p n : ℕ} → 3 ≤ p → 1 ≤ n → p ^ n ≤ 65536 → p ≤ 65536
small_prime {p} {n} odd some most =
    let power : p ^ 1 ≤ p ^ n = pow-le-pow_right {n = p} (omega arith) {i = 1} {j = n} some in
    let one : p ^ 1 ≡ 1 * p = pow-suc p 0 ∙ ap (λ (x : ℕ). x * p) (pow-zero p) in
    omega (arith, power, one)

-- ---- a given run

pub value_is : (run : List ℕ) (s : ℕ) → value_of run (s + 1) ≡ get_or run s 0
unfolding value_of
value_is run s = rw (add-one s)

fits_yes : (p : ℕ) (run : List ℕ) (s : ℕ) → get_or run s 0 < p → fits p run (s + 1) ≡ true
unfolding fits
fits_yes p run s h = lt-ltb (value_of run (s + 1)) p (omega (arith, value_is run s))

fits_no : (p : ℕ) (run : List ℕ) (s : ℕ) → p ≤ get_or run s 0 → fits p run (s + 1) ≡ false
unfolding fits
fits_no p run s h = le-ltb (value_of run (s + 1)) p (omega (arith, value_is run s))

module _ (p : ℕ) (run : List ℕ) where
  fits_before : (i : ℕ) → ((k : ℕ) → k < i → get_or run k 0 < p) → (j : ℕ) → 1 ≤ j → j ≤ i → fits p run j ≡ true
  fits_before i h j l m = let is : j ≡ j - 1 + 1 = omega arith in rw is (fits_yes p run (j - 1) (h (j - 1) (omega arith)))

  pub unfit_none : ((k : ℕ) → k < length run → get_or run k 0 < p) → None ≡ found (first_from (fits p run) 1 (length run))
  unfit_none h = ap found (sym (none (fits p run) (length run) (fits_before (length run) h)))

  pub unfit_some : (i : ℕ) → i < length run → p ≤ get_or run i 0 → ((k : ℕ) → k < i → get_or run k 0 < p)
      → Some (i + 1) ≡ found (first_from (fits p run) 1 (length run))
  unfit_some i l e h =
      let at = first_at (fits p run) (length run) (i + 1) (omega arith) (omega arith) (fits_no p run i e) (λ j m n. fits_before i h j m (omega arith)) in
      rw (at, add-one i)

-- the constant one, the values of a run, and zeros after them
pub run_and_zeros : (run rest : List ℕ) → ((i : ℕ) → get_or rest i 0 ≡ 0) → values_in (1 ∷ (run ++ rest)) ≡ value_of run
unfolding values_in value_of
run_and_zeros run rest none = fun_ext go
  where
    at : (s : ℕ) → Dec (s < length run) → get_or (run ++ rest) s 0 ≡ get_or run s 0
    at s (yes l) = get_or-append run rest 0 s l
    at s (no l) =
        get_or-append_right run rest s 0 (omega arith) ∙ none (s - length run) ∙ sym (get_or-eq_default run 0 (omega arith))

    go : (s : ℕ) → ◌≡◌ {A = ℕ} (get_or (1 ∷ (run ++ rest)) s 0) (get_or (1 ∷ run) s 0)
    go zero = refl
    go (suc s) = at s (dec_lt s (length run))

pub dropped_zeros : (k n i : ℕ) → ◌≡◌ {A = ℕ} (get_or (drop k (replicate n 0)) i 0) 0
dropped_zeros k n i = get_or-drop k (replicate n 0) i 0 ∙ zeros n (k + i)

-- ---- the next candidate

-- signals after s are 0 now and can't rise, or not here; those up to s are as they were
pub record Counting (p n h : ℕ) (v w : ℕ → ℕ) (s : ℕ) : Type 0 where
  pub within : s ≤ n
  pub same : (t : ℕ) → t ≤ s → w t ≡ v t
  pub top : (t : ℕ) → s < t → t ≤ h → t ≤ n → p ≤ v t + 1
  pub zeros : (t : ℕ) → s < t → t ≤ n → w t ≡ 0
  pub past : (t : ℕ) → n < t → w t ≡ v t

pub count_start : (p n h : ℕ) (v : ℕ → ℕ) → Counting p n h v v n
count_start p n h v =
    record {
      within = omega arith;
      same = λ t l. refl;
      top = λ (t : ℕ) (l : n < t) (a : t ≤ h) (b : t ≤ n). absurd (omega arith);
      zeros = λ (t : ℕ) (l : n < t) (b : t ≤ n). absurd (omega arith);
      past = λ t l. refl;
    }

pub count_end : {p n h : ℕ} {v w : ℕ → ℕ} {s : ℕ} → Counting p n h v w s → s < 1 → Ended p n h v w
count_end K none =
    record {
      constant = K.same 0 (omega arith);
      top = λ t l. K.top t (omega arith);
      zeros = λ t l. K.zeros t (omega arith);
      past = K.past;
    }

-- one place of the array is written
module _ {p n h : ℕ} {v : ℕ → ℕ} (values : List ℕ) {s : ℕ} (K : Counting p n h v (values_in values) s) (long : n < length values) (some : 1 ≤ s) where
  here : (x : ℕ) → values_in (set values s x) s ≡ x
  unfolding values_in
  here x = get_or-set_same values s x 0 (omega (arith, K.within))

  there : (x t : ℕ) → (t ≡ s → ⊥) → values_in (set values s x) t ≡ values_in values t
  unfolding values_in
  there x t d = get_or-set_other values s t x 0 d

  -- the value there is as it was
  is_value : get_or values s 0 ≡ v s
  unfolding values_in
  is_value = K.same s (omega arith)

  pub count_low : Candidate p n v → get_or values s 0 < p
  count_low is_v = omega (arith, is_value, is_v.below s some K.within)

  pub count_again : (s ≤ h × p ≤ get_or values s 0 + 1) ⊎ (h < s) → Counting p n h v (values_in (set values s 0)) (s - 1)
  count_again high =
      record {
        within = omega (arith, K.within);
        same = λ t l. there 0 t (λ (e : t ≡ s). omega arith) ∙ K.same t (omega arith);
        top = λ t l. top t l (ℕ_discrete t s);
        zeros = λ t l. zeros t l (ℕ_discrete t s);
        past = λ t l. there 0 t (λ (e : t ≡ s). omega (arith, K.within)) ∙ K.past t l;
      }
    where
      top : (t : ℕ) → s - 1 < t → Dec (t ≡ s) → t ≤ h → t ≤ n → p ≤ v t + 1
      top t l (yes e) a b = rw e (⊎_elim (λ w. omega (arith, w.1, is_value)) (λ (g : h < s). absurd (omega arith)) high)
      top t l (no d) a b = K.top t (omega arith) a b

      zeros : (t : ℕ) → s - 1 < t → Dec (t ≡ s) → t ≤ n → values_in (set values s 0) t ≡ 0
      zeros t l (yes e) b = rw e (here 0)
      zeros t l (no d) b = there 0 t d ∙ K.zeros t (omega arith) b

  pub count_risen : s ≤ h → get_or values s 0 + 1 < p → Rose p n h v (values_in (set values s (get_or values s 0 + 1))) s
  count_risen low room =
      let x = get_or values s 0 + 1 in
      record {
        least = some;
        within = K.within;
        most = low;
        constant = there x 0 (λ (e : 0 ≡ s). omega arith) ∙ K.same 0 (omega arith);
        same = λ t l. there x t (λ (e : t ≡ s). omega arith) ∙ K.same t (omega arith);
        risen = here x ∙ ap (λ (y : ℕ). y + 1) is_value;
        room = omega (arith, here x);
        top = K.top;
        zeros = λ t l b. there x t (λ (e : t ≡ s). omega arith) ∙ K.zeros t l b;
        past = λ t l. there x t (λ (e : t ≡ s). omega (arith, K.within)) ∙ K.past t l;
      }

-- whether one has risen, by the test of the option
pub has_ended : {p n h : ℕ} {v w : ℕ → ℕ} (o : Option ℕ) → is_some o ≡ false → MatchOption o (Ended p n h v w) (Rose p n h v w) → Ended p n h v w
has_ended None e E = E
has_ended (Some j) e R = true_or_false true refl e

pub has_risen : {p n h : ℕ} {v w : ℕ → ℕ} (o : Option ℕ) → is_some o ≡ true → MatchOption o (Ended p n h v w) (Rose p n h v w)
    → (j : ℕ) × Rose p n h v w j
has_risen None e E = true_or_false false e refl
has_risen (Some j) e R = (j, R)
