-- The inverse of a number modulo p: what it is, and Euclid's algorithm, which finds it.
-- Assumes nothing.
use Rattle.std.specs.Prelude.{◌≡◌, Bool, true, not, cond, ℕ, zero, suc, ◌+◌, ◌-◌, ◌*◌, ◌/◌, ◌%◌, ◌<◌, ltb, eqb}
use Rattle.field.specs.Prime.{Prime}
use Rattle.field.specs.Residue.{Congruent}

-- d is the inverse of c modulo p
pub record IsInverse (p c d : ℕ) : Type 0 where
  pub below : d < p
  pub one : Congruent p (c * d) 1

-- d is the inverse of c modulo p, wherever c has one: modulo a prime, of every c that isn't 0. Where c has none, d is 0.
pub record TheInverse (p c d : ℕ) : Type 0 where
  pub prime : Prime p → (c % p ≡ 0 → ⊥) → IsInverse p c d
  pub only : (e : ℕ) → IsInverse p c e → d ≡ e
  pub absent : ((e : ℕ) → IsInverse p c e → ⊥) → d ≡ 0

-- Euclid's algorithm for p and c, of which a and b are the last two remainders: t * c is b modulo p where the number of steps is even, -b where
-- it is odd, and s * c is a with the other sign. It ends at b = 1, or at b = 0 where c has no inverse.
unfoldable pub inverse_from : ℕ → ℕ → ℕ → ℕ → ℕ → ℕ → Bool → ℕ
inverse_from zero p a b s t even = 0
inverse_from (suc f) p a b s t even =
    let rest = inverse_from f p b (a % b) t (s + a / b * t) (not even) in cond (ltb 1 b) rest (cond (eqb b 0) 0 (cond even t (p - t)))

-- the inverse of c modulo p; 0 where there is none, and where p is 0 or 1
unfoldable pub inverse : ℕ → ℕ → ℕ
inverse p c = cond (ltb 1 p) (inverse_from p p p (c % p) 0 1 true) 0
