-- Laws of residues modulo p: congruence, sums and products, the opposite.
-- Assumes nothing.
use mathlib.Core.Path.{◌≡◌, refl, sym, ap, ◌∙◌}
use Prim.Native.Nat.{ℕ, ◌+◌, ◌*◌, ◌/◌, ◌%◌, ◌<◌}
use native.Mathlib.Nat.{add-mul-mod_self_right, div-add-mod', mod-mod, mod-lt, mod-eq_of_lt, zero-mod, mul_comm}
use native.Mathlib.Omega.{arith}
use Rattle.field.specs.Residue.{Congruent, opposite}

-- numbers that become equal by adding multiples of p; with omega for the equation, the ring step modulo p
pub congruent_multiples : (p k l : ℕ) {a b : ℕ} → a + k * p ≡ b + l * p → Congruent p a b
congruent_multiples p k l {a} {b} e =
    record {
      is = sym (add-mul-mod_self_right a k p) ∙ ap (λ (n : ℕ). n % p) e ∙ add-mul-mod_self_right b l p;
    }

-- and the other way
pub multiples_congruent : {p a b : ℕ} → Congruent p a b → a + b / p * p ≡ b + a / p * p
multiples_congruent {p} {a} {b} h = omega (arith, h.is, div-add-mod' a p, div-add-mod' b p)

pub congruent_equal : (p : ℕ) {a b : ℕ} → a ≡ b → Congruent p a b
congruent_equal p e = record { is = ap (λ (n : ℕ). n % p) e }

pub congruent_refl : (p a : ℕ) → Congruent p a a
congruent_refl p a = record { is = refl }

pub congruent_sym : {p a b : ℕ} → Congruent p a b → Congruent p b a
congruent_sym h = record { is = sym h.is }

pub congruent_trans : {p a b c : ℕ} → Congruent p a b → Congruent p b c → Congruent p a c
congruent_trans h g = record { is = h.is ∙ g.is }

pub congruent_plus : {p a b c d : ℕ} → Congruent p a b → Congruent p c d → Congruent p (a + c) (b + d)
congruent_plus {p} {a} {b} {c} {d} h g =
    congruent_multiples p (b / p + d / p) (a / p + c / p) (omega (arith, multiples_congruent h, multiples_congruent g))

-- x - y is a - b; with omega for the equation, the step from one congruence to another
pub congruent_shift : {p a b : ℕ} (x y : ℕ) → Congruent p a b → x + b ≡ y + a → Congruent p x y
congruent_shift {p} {a} {b} x y h e = congruent_multiples p (b / p) (a / p) (omega (arith, multiples_congruent h))

pub congruent_mod : (p a : ℕ) → Congruent p (a % p) a
congruent_mod p a = record { is = mod-mod a p }

-- one factor changes, then the other
congruent_times_left : {p a b : ℕ} (c : ℕ) → Congruent p a b → Congruent p (c * a) (c * b)
congruent_times_left {p} {a} {b} c h =
    congruent_multiples p (c * (b / p)) (c * (a / p)) (omega (arith, ap (λ (n : ℕ). c * n) (multiples_congruent h)))

pub congruent_times : {p a b c d : ℕ} → Congruent p a b → Congruent p c d → Congruent p (a * c) (b * d)
congruent_times {p} {a} {b} {c} {d} h g =
    congruent_trans (congruent_times_left a g)
    (congruent_trans (congruent_equal p (mul_comm a d)) (congruent_trans (congruent_times_left d h) (congruent_equal p (mul_comm d b))))

pub mul_mod_mod : (a b p : ℕ) → a * (b % p) % p ≡ a * b % p
mul_mod_mod a b p = (congruent_times_left a (congruent_mod p b)).is

pub mod_mul_mod : (a b p : ℕ) → a % p * b % p ≡ a * b % p
mod_mul_mod a b p = (congruent_times (congruent_mod p a) (congruent_refl p b)).is

pub congruent_below : {p a b : ℕ} → a < p → b < p → Congruent p a b → a ≡ b
congruent_below ha hb h = sym (mod-eq_of_lt ha) ∙ h.is ∙ mod-eq_of_lt hb

-- a remainder 0, as a congruence and back
pub zero_congruent : {p : ℕ} (a : ℕ) → a % p ≡ 0 → Congruent p a 0
zero_congruent {p} a e = record { is = e ∙ sym (zero-mod p) }

pub congruent_zero : {p a : ℕ} → Congruent p a 0 → a % p ≡ 0
congruent_zero {p} h = h.is ∙ zero-mod p

pub opposite_plus : {p : ℕ} (x : ℕ) → 0 < p → Congruent p (x + opposite p x) 0
unfolding opposite
opposite_plus {p} x h = congruent_multiples p 0 (x / p + 1) (omega (arith, div-add-mod' x p, mod-lt x h))

-- what adds to 0 with x is the opposite of x
pub opposite_only : {p : ℕ} (x : ℕ) {y : ℕ} → 0 < p → Congruent p (x + y) 0 → Congruent p y (opposite p x)
opposite_only {p} x {y} h e = congruent_shift y (opposite p x) (congruent_trans e (congruent_sym (opposite_plus x h))) (omega arith)

-- -x * y is -(x * y)
pub opposite_times : {p : ℕ} (x y : ℕ) → 0 < p → Congruent p (opposite p x * y) (opposite p (x * y))
opposite_times {p} x y h =
    opposite_only (x * y) h
    (congruent_shift (x * y + opposite p x * y) 0 (congruent_times (opposite_plus x h) (congruent_refl p y)) (omega arith))
