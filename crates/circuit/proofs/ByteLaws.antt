-- Laws of numbers in bytes: in a part they are those of the whole further on, a term whose bytes are all there.
use Prim.Native.Nat.{ℕ, ◌+◌, ◌<◌}
use mathlib.Core.Path.{◌≡◌, refl, ◌∙◌}
use mathlib.Core.List.{List}
use native.Mathlib.Nat.{add-zero, add_assoc}
use native.Mathlib.Omega.{arith}
use lib.ListN.{take, drop}
use lib.Seq.{get_or-drop, get_or-take}
use Rattle.circuit.specs.Bytes.{byte_at, u16_at, u32_at}

pub byte_drop : (a : ℕ) (s : List ℕ) (k : ℕ) → byte_at (drop a s) k ≡ byte_at s (a + k)
unfolding byte_at
byte_drop a s k = get_or-drop a s k 0

pub u16_drop : (a : ℕ) (s : List ℕ) (k : ℕ) → u16_at (drop a s) k ≡ u16_at s (a + k)
unfolding u16_at
u16_drop a s k = rw (byte_drop a s k, byte_drop a s (k + 1), add_assoc a k 1)

pub u32_drop : (a : ℕ) (s : List ℕ) (k : ℕ) → u32_at (drop a s) k ≡ u32_at s (a + k)
unfolding u32_at
u32_drop a s k = rw (u16_drop a s k, u16_drop a s (k + 2), add_assoc a k 2)

-- a term whose bytes are all there

taken_byte : (n : ℕ) (s : List ℕ) (k : ℕ) → k < n → byte_at (take n s) k ≡ byte_at s k
unfolding byte_at
taken_byte n s k l = get_or-take n s k 0 l

taken_u16 : (n : ℕ) (s : List ℕ) (k : ℕ) → k + 1 < n → u16_at (take n s) k ≡ u16_at s k
unfolding u16_at
taken_u16 n s k l = rw (taken_byte n s k (omega arith), taken_byte n s (k + 1) l) refl

-- its signal and its coefficient, where six bytes are taken from an offset on
pub taken_term : (s : List ℕ) (at n : ℕ) {bytes : List ℕ} → n ≡ 6 → bytes ≡ take n (drop at s)
    → (u16_at bytes 0 ≡ u16_at s at) × (u32_at bytes 2 ≡ u32_at s (at + 2))
unfolding u32_at
taken_term s at n six e =
    let part = drop at s in
    rw (e, six, taken_u16 6 part 0 (omega arith), taken_u16 6 part 2 (omega arith), taken_u16 6 part 4 (omega arith)) (
      u16_drop at s 0 ∙ rw add-zero,
      rw (u16_drop at s 2, u16_drop at s 4, add_assoc) refl,
    )
