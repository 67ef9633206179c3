-- Products of 32-bit numbers in 64 bits, and by -1.
use Prim.Native.Nat.{ℕ, suc, ◌+◌, ◌-◌, ◌*◌, ◌%◌, ◌≤◌, ◌<◌}
use mathlib.Core.Path.{◌≡◌, ap}
use native.Mathlib.Nat.{mul-le-mul}
use native.Mathlib.Omega.{arith}
use Rattle.field.proofs.Residue.{congruent_multiples}

pub product_room : (a b : ℕ) → a < 4294967296 → b < 4294967296 → a * b ≤ 18446744065119617025
product_room a b h g =
    let x : a ≤ 4294967295 = omega arith in
    let y : b ≤ 4294967295 = omega arith in
    mul-le-mul x y

pub minus_one : (p x a b : ℕ) → p ≡ suc a → b ≤ p → (x + (p - b)) % p ≡ (x + a * b) % p
minus_one p x a b e l =
    (congruent_multiples p b 1 {a = x + (p - b)} {b = x + a * b} (omega (arith, ap (λ (n : ℕ). b * n) e))).is
