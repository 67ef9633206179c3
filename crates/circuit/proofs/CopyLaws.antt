-- Laws of runs in bytes: their values by number, and the array into which values are put.
use Prim.Native.Nat.{ℕ, zero, suc, ◌+◌, ◌*◌, ◌-◌, ◌≤◌, ◌<◌}
use mathlib.Core.Path.{◌≡◌, refl, sym, ap, ◌∙◌, fun_ext}
use mathlib.Core.List.{List}
use native.Mathlib.Omega.{arith}
use native.Mathlib.Decide.{ℕ_discrete, dec_le}
use lib.ListN.{length, drop, get_or, set, replicate}
use lib.Dec.{leb}
use lib.Seq.{get_or-set_same, get_or-set_other}
use borrow.Author.Tests.{le-leb, leb-true}
use mathlib.Core.Bool.{◌&&◌}
use Rattle.std.proofs.lemmas.Bool.{cond-false, false_from_ne_true, and_parts}
use Rattle.circuit.specs.Bytes.{u32_at}
use Rattle.circuit.specs.Circuit.{value_of}
use Rattle.circuit.specs.Run.{values_in}
use Rattle.circuit.specs.Runs.{value_at, run_in, filled}
use Rattle.circuit.proofs.ByteLaws.{u32_drop}

-- the values after the first k
pub value_drop : (t : List ℕ) (k s : ℕ) → 1 ≤ s → value_at (drop (4 * k) t) s ≡ value_at t (k + s)
unfolding value_at
value_drop t k s h = u32_drop (4 * k) t (4 * (s - 1)) ∙ ap (u32_at t) (omega arith)

value_first : (t : List ℕ) → value_at t 1 ≡ u32_at t 0
unfolding value_at
value_first t = refl

pub run_length : (t : List ℕ) (n : ℕ) → length (run_in t n) ≡ n
unfolding run_in
run_length t zero = refl
run_length t (suc n) = ap suc (run_length (drop 4 t) n)

pub run_value : (t : List ℕ) (n s : ℕ) → 1 ≤ s → s ≤ n → value_of (run_in t n) s ≡ value_at t s
unfolding value_of run_in
run_value t zero s h l = absurd (omega arith)
run_value t (suc n) zero h l = absurd (omega arith)
run_value t (suc n) (suc zero) h l = sym (value_first t)
run_value t (suc n) (suc (suc s)) h l =
    run_value (drop 4 t) n (suc s) (omega arith) (omega arith) ∙ value_drop t 1 (suc s) (omega arith) ∙ ap (value_at t) (omega arith)

pub run_past : (t : List ℕ) (n s : ℕ) → n < s → value_of (run_in t n) s ≡ 0
unfolding value_of run_in
run_past t n zero h = absurd (omega arith)
run_past t zero (suc s) h = refl
run_past t (suc n) (suc zero) h = absurd (omega arith)
run_past t (suc n) (suc (suc s)) h = run_past (drop 4 t) n (suc s) (omega arith)

-- The array: values put in place of those that are there

module _ (t : List ℕ) (n : ℕ) (v : ℕ → ℕ) (s : ℕ) where
  filled_in : 1 ≤ s → s ≤ n → filled t n v s ≡ value_at t s
  unfolding filled
  filled_in l h = rw (le-leb 1 s l, le-leb s n h) refl

  filled_out : (1 ≤ s → s ≤ n → ⊥) → filled t n v s ≡ v s
  unfolding filled
  filled_out out = cond-false (leb 1 s && leb s n) _ _ (false_from_ne_true _ (λ e. let b = and_parts _ _ e in out (leb-true 1 s b.0) (leb-true s n b.1)))

pub fill_start : (t : List ℕ) (v : ℕ → ℕ) → v ≡ filled t 0 v
fill_start t v = fun_ext λ s. sym (filled_out t 0 v s (λ l h. omega arith))

-- one value more
pub fill_again : (t : List ℕ) (s : ℕ) (values : List ℕ) (v : ℕ → ℕ) (x : ℕ) → values_in values ≡ filled t (s - 1) v → 1 ≤ s → s < length values
    → x ≡ value_at t s → values_in (set values s x) ≡ filled t (s + 1 - 1) v
unfolding values_in
fill_again t s values v x e h l f = fun_ext λ i. at i (ℕ_discrete i s) (dec_le 1 i) (dec_le i s)
  where
    at : (i : ℕ) → Dec (i ≡ s) → Dec (1 ≤ i) → Dec (i ≤ s) → get_or (set values s x) i 0 ≡ filled t (s + 1 - 1) v i
    at i (yes z) a b = rw z (get_or-set_same values s x 0 l ∙ f ∙ sym (filled_in t (s + 1 - 1) v s h (omega arith)))
    at i (no z) (yes a) (yes b) =
        get_or-set_other values s i x 0 z
        ∙ ap (λ (w : ℕ → ℕ). w i) e
        ∙ filled_in t (s - 1) v i a (omega arith)
        ∙ sym (filled_in t (s + 1 - 1) v i a (omega arith))
    at i (no z) (no a) b =
        get_or-set_other values s i x 0 z
        ∙ ap (λ (w : ℕ → ℕ). w i) e
        ∙ filled_out t (s - 1) v i (λ l m. a l)
        ∙ sym (filled_out t (s + 1 - 1) v i (λ l m. a l))
    at i (no z) (yes a) (no b) =
        get_or-set_other values s i x 0 z
        ∙ ap (λ (w : ℕ → ℕ). w i) e
        ∙ filled_out t (s - 1) v i (λ l m. omega arith)
        ∙ sym (filled_out t (s + 1 - 1) v i (λ l m. omega arith))

pub fill_end : (t : List ℕ) (j n : ℕ) (v w : ℕ → ℕ) → w ≡ filled t j v → j ≡ n → w ≡ filled t n v
fill_end t j n v w e h = e ∙ ap (λ (k : ℕ). filled t k v) h

-- put into what has the constant one at 0 and zeros past the run, they are a run
pub filled_run : (t : List ℕ) (n : ℕ) (v : ℕ → ℕ) → v 0 ≡ 1 → ((s : ℕ) → n < s → v s ≡ 0) → filled t n v ≡ value_of (run_in t n)
unfolding value_of
filled_run t n v one past = fun_ext λ s. at s (dec_le s n)
  where
    at : (s : ℕ) → Dec (s ≤ n) → filled t n v s ≡ value_of (run_in t n) s
    at zero b = filled_out t n v 0 (λ l h. omega arith) ∙ one
    at (suc s) (yes h) = filled_in t n v (suc s) (omega arith) h ∙ sym (run_value t n (suc s) (omega arith) h)
    at (suc s) (no h) = filled_out t n v (suc s) (λ l m. h m) ∙ past (suc s) (omega arith) ∙ sym (run_past t n (suc s) (omega arith))

-- the array of no values
pub zeros : (n s : ℕ) → ◌≡◌ {A = ℕ} (get_or (replicate n 0) s 0) 0
zeros zero s = refl
zeros (suc n) zero = refl
zeros (suc n) (suc s) = zeros n s

pub copied : (t : List ℕ) (k n : ℕ) → filled t n (values_in (set (replicate (suc k) 0) 0 1)) ≡ value_of (run_in t n)
unfolding values_in
copied t k n = filled_run t n (values_in (set (replicate (suc k) 0) 0 1)) refl go
  where
    go : (s : ℕ) → n < s → ◌≡◌ {A = ℕ} (get_or (set (replicate (suc k) 0) 0 1) s 0) 0
    go zero l = absurd (omega arith)
    go (suc s) l = zeros k s
