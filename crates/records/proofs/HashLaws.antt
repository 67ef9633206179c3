-- Laws of the hash of a run's inputs: one value more, and that equal inputs have one.
use Prim.Native.Nat.{ℕ, zero, suc, ◌+◌, ◌*◌, ◌-◌, ◌/◌, ◌%◌, ◌^◌, ◌≤◌, ◌<◌}
use mathlib.Core.Path.{◌≡◌, refl, ap, ◌∙◌}
use native.Mathlib.Nat.{div-add-mod'}
use native.Mathlib.Omega.{arith}
use Rattle.records.specs.Inner.{multiplier, hash_of}

pub hash_start : (v : ℕ → ℕ) → ◌≡◌ {A = ℕ} 0 (hash_of v 0)
unfolding hash_of
hash_start v = refl

pub hash_next : (v : ℕ → ℕ) (s h x : ℕ) → 1 ≤ s → h ≡ hash_of v (s - 1) → x ≡ v s → (h + x) % 2 ^ 64 * multiplier % 2 ^ 64 ≡ hash_of v s
unfolding hash_of
hash_next v zero h x l e f = absurd (omega arith)
hash_next v (suc s) h x l e f = let one : suc s - 1 ≡ s = omega arith in rw (e, f, one) refl

-- where the loop goes on from s
pub hash_more : (v : ℕ → ℕ) (s h x : ℕ) → 1 ≤ s → h ≡ hash_of v (s - 1) → x ≡ v s → (h + x) % 2 ^ 64 * multiplier % 2 ^ 64 ≡ hash_of v (s + 1 - 1)
hash_more v s h x l e f = let one : s ≡ s + 1 - 1 = omega arith in hash_next v s h x l e f ∙ ap (hash_of v) one

pub hash_end : (v : ℕ → ℕ) (i j h : ℕ) → h ≡ hash_of v j → j ≡ i → h ≡ hash_of v i
hash_end v i j h e f = e ∙ ap (hash_of v) f

pub bucket_below : (h : ℕ) → h < 2 ^ 64 → h / 2 ^ 56 < 256
bucket_below h l = omega (arith, div-add-mod' h 72057594037927936)

-- equal inputs have one hash
pub hash_same : (v w : ℕ → ℕ) (i : ℕ) → ((s : ℕ) → 1 ≤ s → s ≤ i → v s ≡ w s) → hash_of v i ≡ hash_of w i
unfolding hash_of
hash_same v w zero h = refl
hash_same v w (suc i) h = rw (hash_same v w i (λ s l m. h s l (omega arith)), h (suc i) (omega arith) (omega arith))
