-- The inverse modulo p: it is the only one below p, and modulo a prime every number but 0 has one. Cancellation and Euclid's lemma follow.
-- Assumes nothing.
use mathlib.Core.Path.{◌≡◌, refl, ◌∙◌}
use mathlib.Core.Logic.{◌⊎◌, inl, inr, ⊎_elim}
use Prim.Native.Nat.{ℕ, zero, suc, ◌*◌, ◌%◌, ◌<◌}
use native.Mathlib.Nat.{zero-mod, mul-le-mul_left, dvd-mul_left, pos_of_ne-zero, eq-zero-or-pos}
use native.Mathlib.Decide.{ℕ_discrete}
use native.Mathlib.Omega.{arith}
use Rattle.field.specs.Residue.{Congruent}
use Rattle.field.specs.Prime.{Prime}
use Rattle.field.specs.Inverse.{IsInverse, TheInverse, inverse}
use Rattle.field.proofs.Residue.{
  congruent_refl,
  congruent_sym,
  congruent_trans,
  congruent_shift,
  congruent_plus,
  congruent_times,
  congruent_below,
  zero_congruent,
  congruent_zero,
}
use Rattle.field.proofs.Euclid.{Shared, inverse_cases, inverse_zero, running_start, running_again, sizes_fit_lem}

-- a factor of 1 is not 0
factor_nonzero : {p : ℕ} (a b : ℕ) → 1 < p → Congruent p (a * b) 1 → a % p ≡ 0 → ⊥
factor_nonzero {p} a b h i e =
    let z : Congruent p 1 0 =
    congruent_shift 1 0 (congruent_trans (congruent_sym i) (congruent_times (zero_congruent a e) (congruent_refl p b))) (omega arith) in
    omega (arith, congruent_below h (omega arith) z)

pub inverse_nonzero : {p c d : ℕ} → 1 < p → IsInverse p c d → d % p ≡ 0 → ⊥
inverse_nonzero {p} {c} {d} h i = factor_nonzero d c h (congruent_shift (d * c) 1 i.one (omega arith))

pub inverse_positive : {p c d : ℕ} → 1 < p → IsInverse p c d → 0 < d
inverse_positive {p} {d = zero} h i = absurd (inverse_nonzero h i (zero-mod p))
inverse_positive {d = suc d} h i = omega arith

-- a number with an inverse is not 0
invertible_nonzero : {p c d : ℕ} → 1 < p → IsInverse p c d → c % p ≡ 0 → ⊥
invertible_nonzero {c = c} {d} h i = factor_nonzero c d h i.one

-- c * a ≈ c * b with an inverse of c: a ≈ b
cancel_inverse : {p c d a b : ℕ} → IsInverse p c d → Congruent p (c * a) (c * b) → Congruent p a b
cancel_inverse {p} {c} {d} {a} {b} i h =
    congruent_shift a b
    (congruent_plus (congruent_times (congruent_refl p d) h)
    (congruent_plus (congruent_times i.one (congruent_refl p b)) (congruent_times (congruent_sym i.one) (congruent_refl p a))))
    (omega arith)

pub inverse_only : {p c d e : ℕ} → IsInverse p c d → IsInverse p c e → d ≡ e
inverse_only i j = congruent_below i.below j.below (cancel_inverse i (congruent_trans i.one (congruent_sym j.one)))

-- a prime has no divisor to share
prime_shared : {p c : ℕ} → Prime p → Shared p c → ⊥
prime_shared {p} P S =
    ⊎_elim (λ (e : S.right ≡ 1). omega (arith, S.above)) (λ (e : S.right ≡ p). omega (arith, S.proper))
    (P.only S.right (rw S.whole at (dvd-mul_left S.right S.left)))

pub inverse_is : {p : ℕ} (c : ℕ) → Prime p → (c % p ≡ 0 → ⊥) → IsInverse p c (inverse p c)
inverse_is {p} c P n = ⊎_elim (λ i. i) (λ w. absurd (prime_shared P w.1)) (inverse_cases p c P.above (pos_of_ne-zero n))

-- where the algorithm gives 0 there is no inverse, whatever p is
pub inverse_none : {p : ℕ} (c d : ℕ) → 1 < p → inverse p c ≡ 0 → IsInverse p c d → ⊥
inverse_none {p} c d h e i =
    ⊎_elim (λ (j : IsInverse p c (inverse p c)). omega (arith, inverse_positive h j)) (λ w. none w.1)
    (inverse_cases p c h (pos_of_ne-zero (invertible_nonzero h i)))
  where
    none : Shared p c → ⊥
    none S =
        let z : Congruent p S.left 0 =
        congruent_shift S.left 0
        (congruent_plus (congruent_times (congruent_refl p S.left) (congruent_sym i.one)) (congruent_times S.kills (congruent_refl p d)))
        (omega arith) in
        omega (arith, congruent_below (omega (arith, mul-le-mul_left S.left S.above)) (omega arith) z)

-- wherever there is an inverse, the algorithm gives it
inverse_found : (p c e : ℕ) → IsInverse p c e → inverse p c ≡ e
unfolding inverse
inverse_found zero c e i = absurd (omega (arith, i.below))
inverse_found (suc zero) c e i = omega (arith, i.below)
inverse_found (suc (suc p)) c e i =
    let h : 1 < suc (suc p) = omega arith in
    ⊎_elim (λ j. inverse_only j i) (λ w. absurd (inverse_none c e h w.0 i))
    (inverse_cases (suc (suc p)) c h (pos_of_ne-zero (invertible_nonzero h i)))

-- where there is none, it gives 0
inverse_absent : (p c : ℕ) → ((e : ℕ) → IsInverse p c e → ⊥) → inverse p c ≡ 0
unfolding inverse
inverse_absent zero c n = refl
inverse_absent (suc zero) c n = refl
inverse_absent (suc (suc p)) c n =
    ⊎_elim (λ (e : c % suc (suc p) ≡ 0). inverse_zero (suc (suc p)) c e)
    (λ (g : 0 < c % suc (suc p)). ⊎_elim (λ j. absurd (n _ j)) (λ w. w.0) (inverse_cases (suc (suc p)) c (omega arith) g))
    (eq-zero-or-pos (c % suc (suc p)))

pub the_inverse : {p c d : ℕ} → d ≡ inverse p c → TheInverse p c d
the_inverse {p} {c} h =
    record {
      prime = λ P n. rw h (inverse_is c P n);
      only = λ e i. h ∙ inverse_found p c e i;
      absent = λ n. h ∙ inverse_absent p c n;
    }

-- what the code's loop rests on, and what it ends with
pub ruleset inverse_laws = (the_inverse, running_start, running_again, sizes_fit_lem)

-- ---- modulo a prime

pub cancel_times : {p : ℕ} (c : ℕ) {a b : ℕ} → Prime p → (c % p ≡ 0 → ⊥) → Congruent p (c * a) (c * b) → Congruent p a b
cancel_times c P n h = cancel_inverse (inverse_is c P n) h

pub euclid : {p : ℕ} (a b : ℕ) → Prime p → a * b % p ≡ 0 → (a % p ≡ 0) ⊎ (b % p ≡ 0)
euclid {p} a b P e = go (ℕ_discrete (a % p) 0)
  where
    go : Dec (a % p ≡ 0) → (a % p ≡ 0) ⊎ (b % p ≡ 0)
    go (yes z) = inl z
    go (no n) =
        inr (congruent_zero (cancel_times a P n (congruent_shift (a * b) (a * 0) (zero_congruent (a * b) e) (omega arith))))
