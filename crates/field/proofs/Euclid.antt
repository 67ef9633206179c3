-- Euclid's algorithm for p and c: the sizes of its numbers, what they are modulo p, and that it ends with the inverse where there is one.
-- Assumes nothing.
use mathlib.Core.Path.{◌≡◌, refl, sym, ap, ◌∙◌}
use mathlib.Core.Logic.{◌⊎◌, inl, inr, ⊎_elim}
use mathlib.Core.Bool.{Bool, true, false, not, cond}
use Prim.Native.Nat.{ℕ, zero, suc, ◌+◌, ◌-◌, ◌*◌, ◌/◌, ◌%◌, ◌≤◌, ◌<◌}
use native.Mathlib.Nat.{div-add-mod', mod-lt, mul-pos, mul-le-mul_left, mul-le-mul_right, le-div_iff_mul-le}
use native.Mathlib.Omega.{arith}
use borrow.Author.Tests.{lt-ltb}
use Rattle.field.specs.Residue.{Congruent}
use Rattle.field.specs.Inverse.{IsInverse, inverse, inverse_from}
use Rattle.field.proofs.Residue.{
  congruent_multiples,
  multiples_congruent,
  congruent_refl,
  congruent_sym,
  congruent_shift,
  congruent_plus,
  congruent_times,
  congruent_mod,
}

-- one step of the algorithm
pub inverse_step :
    (f p a b s t : ℕ) (even : Bool)
    → 1 < b
    → inverse_from (suc f) p a b s t even ≡ inverse_from f p b (a % b) t (s + a / b * t) (not even)
unfolding inverse_from
inverse_step f p a b s t even h = rw (lt-ltb 1 b h)

-- ---- the sizes of the remainders and their factors

pub record Sizes (p a b s t : ℕ) : Type 0 where
  pub above : 1 < a
  pub falls : b < a
  pub some : 0 < t
  pub whole : t * a + s * b ≡ p

pub sizes_start : (p c : ℕ) → 1 < p → Sizes p p (c % p) 0 1
sizes_start p c h = record { above = h; falls = mod-lt c (omega arith); some = omega arith; whole = omega arith }

pub sizes_next : (p a b s t : ℕ) → 1 < b → Sizes p a b s t → Sizes p b (a % b) t (s + a / b * t)
sizes_next p a b s t h S =
    record {
      above = h;
      falls = mod-lt a (omega arith);
      some = omega (arith, mul-pos ((le-div_iff_mul-le {k = b} {x = 1} {y = a} (omega arith)).1 (omega arith)) S.some);
      whole = omega (arith, ap (λ (n : ℕ). t * n) (div-add-mod' a b));
    }

pub sizes_fit_lem : {p a b s t : ℕ} → Sizes p a b s t → t < p
sizes_fit_lem {t = t} S = omega (arith, S.some, S.whole, mul-le-mul_left t S.above)

-- ---- what they are modulo p

-- x is y modulo p, or -y
Signed : Bool → ℕ → ℕ → ℕ → Type 0
Signed true p x y = Congruent p x y
Signed false p x y = Congruent p (x + y) 0

record State (p c a b s t : ℕ) (even : Bool) : Type 0 where
  sizes : Sizes p a b s t
  near : Signed even p (t * c) b
  far : Signed (not even) p (s * c) a
  proper : (a < p) ⊎ (0 < b)

near_again : (even : Bool) (p x y : ℕ) → Signed even p x y → Signed (not (not even)) p x y
near_again true p x y h = h
near_again false p x y h = h

far_again :
    (even : Bool) (p c a b s t q r : ℕ)
    → q * b + r ≡ a
    → Signed even p (t * c) b
    → Signed (not even) p (s * c) a
    → Signed (not even) p ((s + q * t) * c) r
unfolding Signed
far_again true p c a b s t q r e near far =
    congruent_shift ((s + q * t) * c + r) 0 (congruent_plus far (congruent_times (congruent_refl p q) near)) (omega arith)
far_again false p c a b s t q r e near far =
    congruent_shift ((s + q * t) * c) r (congruent_plus far (congruent_times (congruent_refl p q) near)) (omega arith)

start : (p c : ℕ) → 1 < p → 0 < c % p → State p c p (c % p) 0 1 true
unfolding Signed
start p c h g =
    record {
      sizes = sizes_start p c h;
      near = congruent_shift (1 * c) (c % p) (congruent_sym (congruent_mod p c)) (omega arith);
      far = congruent_multiples p 0 1 (omega arith);
      proper = inr g;
    }

next : (p c a b s t : ℕ) (even : Bool) → 1 < b → State p c a b s t even → State p c b (a % b) t (s + a / b * t) (not even)
next p c a b s t even h S =
    record {
      sizes = sizes_next p a b s t h S.sizes;
      near = far_again even p c a b s t (a / b) (a % b) (div-add-mod' a b) S.near S.far;
      far = near_again even p (t * c) b S.near;
      proper = inl (omega (arith, mul-le-mul_right a S.sizes.some));
    }

-- ---- how it ends

-- c has the common divisor `right` with p, so `left` takes it to 0
pub record Shared (p c : ℕ) : Type 0 where
  pub left : ℕ
  pub right : ℕ
  pub some : 0 < left
  pub whole : left * right ≡ p
  pub above : 1 < right
  pub proper : right < p
  pub kills : Congruent p (left * c) 0

kills_signed : (even : Bool) (p c t : ℕ) → Signed even p (t * c) 0 → Congruent p (t * c) 0
unfolding Signed
kills_signed true p c t h = h
kills_signed false p c t h = congruent_shift (t * c) 0 h (omega arith)

shared : (p c a s t : ℕ) (even : Bool) → State p c a 0 s t even → Shared p c
shared p c a s t even S =
    record {
      left = t;
      right = a;
      some = S.sizes.some;
      whole = omega arith;
      above = S.sizes.above;
      proper = ⊎_elim (λ h. h) (λ h. absurd (omega arith)) S.proper;
      kills = kills_signed even p c t S.near;
    }

found : (p c a s t : ℕ) (even : Bool) → State p c a 1 s t even → IsInverse p c (cond even t (p - t))
unfolding Signed
found p c a s t true S =
    record {
      below = omega (arith, mul-le-mul_left t S.sizes.above);
      one = congruent_shift (c * t) 1 S.near (omega arith);
    }
found p c a s t false S =
    let e : t + (p - t) ≡ p = omega (arith, mul-le-mul_left t S.sizes.above) in
    record {
      below = omega arith;
      one =
          congruent_multiples p ((t * c + 1) / p) (c + 0 / p)
          (omega (arith, ap (λ (n : ℕ). c * n) e, multiples_congruent S.near));
    }

ends :
    (f p c a b s t : ℕ) (even : Bool)
    → b < f
    → State p c a b s t even
    → IsInverse p c (inverse_from f p a b s t even) ⊎ ((inverse_from f p a b s t even ≡ 0) × Shared p c)
unfolding inverse_from
ends zero p c a b s t even h S = absurd (omega arith)
ends (suc f) p c a zero s t even h S = inr (refl, shared p c a s t even S)
ends (suc f) p c a (suc zero) s t even h S = inl (found p c a s t even S)
ends (suc f) p c a (suc (suc b)) s t even h S =
    rw (inverse_step f p a (suc (suc b)) s t even (omega arith))
    (ends f p c (suc (suc b)) (a % suc (suc b)) t (s + a / suc (suc b) * t) (not even) (omega (arith, mod-lt a {m = suc (suc b)} (omega arith)))
    (next p c a (suc (suc b)) s t even (omega arith) S))

pub inverse_zero : (p c : ℕ) → c % p ≡ 0 → inverse p c ≡ 0
unfolding inverse inverse_from
inverse_zero zero c e = refl
inverse_zero (suc zero) c e = refl
inverse_zero (suc (suc p)) c e = rw (lt-ltb 1 (suc (suc p)) (omega arith), e)

-- the algorithm finds an inverse, or gives 0 and c shares a divisor with p
pub inverse_cases : (p c : ℕ) → 1 < p → 0 < c % p → IsInverse p c (inverse p c) ⊎ ((inverse p c ≡ 0) × Shared p c)
unfolding inverse
inverse_cases p c h g = rw (lt-ltb 1 p h) (ends p p c p (c % p) 0 1 true (mod-lt c (omega arith)) (start p c h g))

-- ---- the loop: the algorithm from here on gives the inverse

pub record Running (p c a b s t : ℕ) (even : Bool) : Type 0 where
  pub fuel : ℕ
  pub enough : b ≤ fuel
  pub same : inverse_from (suc fuel) p a b s t even ≡ inverse p c
  pub sizes : Sizes p a b s t

pub running_start : (p c : ℕ) → 1 < p → Running p c p (c % p) 0 1 true
unfolding inverse
running_start zero c h = absurd (omega arith)
running_start (suc p) c h =
    record {
      fuel = p;
      enough = omega (arith, mod-lt c {m = suc p} (omega arith));
      same = rw (lt-ltb 1 (suc p) h);
      sizes = sizes_start (suc p) c h;
    }

pub running_again : {p c a b s t : ℕ} {even : Bool} → 1 < b → Running p c a b s t even → Running p c b (a % b) t (s + a / b * t) (not even)
running_again {p} {c} {a} {b} {s} {t} {even} h R = go R.fuel R.enough R.same
  where
    go : (f : ℕ) → b ≤ f → inverse_from (suc f) p a b s t even ≡ inverse p c → Running p c b (a % b) t (s + a / b * t) (not even)
    go zero l e = absurd (omega arith)
    go (suc f) l e =
        record {
          fuel = f;
          enough = omega (arith, mod-lt a {m = b} (omega arith));
          same = sym (inverse_step (suc f) p a b s t even h) ∙ e;
          sizes = sizes_next p a b s t h R.sizes;
        }

pub running_found : {p c a b s t : ℕ} {even : Bool} → b ≤ 1 → (b ≡ 0 → ⊥) → Running p c a b s t even → cond even t (p - t) ≡ inverse p c
unfolding inverse_from
running_found {b = b} l n R = let e : b ≡ 1 = omega arith in rw e at R.same
