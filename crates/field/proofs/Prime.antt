-- The test for an odd prime holds exactly of the odd primes in its range.
-- Assumes nothing.
use mathlib.Core.Path.{◌≡◌, refl, sym, ap, ◌∙◌}
use mathlib.Core.Logic.{◌⊎◌, inl, inr, ⊎_elim}
use mathlib.Core.Bool.{Bool, true, false, ◌&&◌, true≢false}
use Prim.Native.Nat.{ℕ, zero, suc, ◌+◌, ◌*◌, ◌/◌, ◌%◌, ◌≤◌, ◌<◌}
use native.Mathlib.Nat.{
  add-mod_right,
  div-add-mod',
  dvd_of_mod-eq-zero,
  eq-or-lt_of_le,
  lt_of_not-le,
  mod-eq-zero_of_dvd,
  mod-lt,
  mul-le-mul,
  mul_comm,
  mul-div_cancel',
  mul-le-mul_left,
  mul-le-mul_right,
  dvd-mul_left,
}
use native.Mathlib.Decide.{dec_le, ℕ_discrete}
use native.Mathlib.Omega.{arith}
use borrow.Author.Tests.{lt-ltb, le-ltb, eq-eqb, ne_eqb, le-leb, lt-leb, eqb-true, leb-true}
use lib.Dec.{leb, eqb}
use Rattle.field.specs.Prime.{Prime, OddPrime, TellsOddPrime, trial, no_divisor, odd_prime}
use Rattle.field.proofs.Residue.{mod_mul_mod}

-- ---- one trial division

trial_past : (p d : ℕ) (rest : Bool) → p < d * d → trial p d rest ≡ true
unfolding trial
trial_past p d rest h = rw (lt-ltb p (d * d) h)

trial_hit : (p d : ℕ) (rest : Bool) → d * d ≤ p → p % d ≡ 0 → trial p d rest ≡ false
unfolding trial
trial_hit p d rest h e = rw (le-ltb p (d * d) h, eq-eqb (p % d) 0 e)

trial_miss : (p d : ℕ) (rest : Bool) → d * d ≤ p → (p % d ≡ 0 → ⊥) → trial p d rest ≡ rest
unfolding trial
trial_miss p d rest h n = rw (le-ltb p (d * d) h, ne_eqb (p % d) 0 n)

trial_true : (p d : ℕ) (rest : Bool) → trial p d rest ≡ true → (p < d * d) ⊎ ((p % d ≡ 0 → ⊥) × (rest ≡ true))
trial_true p d rest t = past (dec_le (d * d) p)
  where
    hit : d * d ≤ p → Dec (p % d ≡ 0) → (p < d * d) ⊎ ((p % d ≡ 0 → ⊥) × (rest ≡ true))
    hit h (yes e) = let z : true ≡ false = sym t ∙ trial_hit p d rest h e in absurd (true≢false z)
    hit h (no n) = inr (n, sym (trial_miss p d rest h n) ∙ t)

    past : Dec (d * d ≤ p) → (p < d * d) ⊎ ((p % d ≡ 0 → ⊥) × (rest ≡ true))
    past (yes h) = hit h (ℕ_discrete (p % d) 0)
    past (no n) = inl (lt_of_not-le n)

-- ---- divisors

-- p has no odd divisor from 3 below n
pub record Free (p n : ℕ) : Type 0 where
  pub none : (d : ℕ) → 3 ≤ d → d < n → d % 2 ≡ 1 → p % d ≡ 0 → ⊥

-- p has no odd divisor from 3 on whose square is at most p
pub record Clear (p : ℕ) : Type 0 where
  pub none : (d : ℕ) → 3 ≤ d → d % 2 ≡ 1 → d * d ≤ p → p % d ≡ 0 → ⊥

pub odd_not_even : (n : ℕ) → (n % 2 ≡ 0 → ⊥) → n % 2 ≡ 1
odd_not_even n h = omega (arith, mod-lt n {m = 2} (omega arith))

pub odd_next : (n : ℕ) → n % 2 ≡ 1 → (n + 2) % 2 ≡ 1
odd_next n o = add-mod_right n 2 ∙ o

pub free_start : (p : ℕ) → Free p 3
free_start p = record { none = λ d h g o e. absurd (omega arith) }

pub free_next : (p n : ℕ) → n % 2 ≡ 1 → Free p n → (p % n ≡ 0 → ⊥) → Free p (n + 2)
free_next p n odd F g = record { none = next }
  where
    next : (d : ℕ) → 3 ≤ d → d < n + 2 → d % 2 ≡ 1 → p % d ≡ 0 → ⊥
    next d h l o e =
        ⊎_elim (λ (q : d ≡ n). g (rw q at e)) (λ (q : d < n). F.none d h q o e)
        (eq-or-lt_of_le {n = d} {m = n} (omega (arith, div-add-mod' n 2, div-add-mod' d 2)))

pub free_clear : (p n : ℕ) → p < n * n → Free p n → Clear p
free_clear p n l F = record { none = λ d h o s e. F.none d h (below d (omega arith)) o e }
  where
    below : (d : ℕ) → d * d < n * n → d < n
    below d q = lt_of_not-le (λ (h : n ≤ d). omega (arith, mul-le-mul h h))

clear_trial : (p d : ℕ) (rest : Bool) → Clear p → 3 ≤ d → d % 2 ≡ 1 → rest ≡ true → trial p d rest ≡ true
clear_trial p d rest C h o t = go (dec_le (d * d) p)
  where
    go : Dec (d * d ≤ p) → trial p d rest ≡ true
    go (yes l) = trial_miss p d rest l (C.none d h o l) ∙ t
    go (no n) = trial_past p d rest (lt_of_not-le n)

pub clear_no_divisor : (f d p : ℕ) → 3 ≤ d → d % 2 ≡ 1 → Clear p → no_divisor f d p ≡ true
unfolding no_divisor
clear_no_divisor zero d p h o C = refl
clear_no_divisor (suc f) d p h o C =
    clear_trial p d (no_divisor f (d + 2) p) C h o (clear_no_divisor f (d + 2) p (omega arith) (odd_next d o) C)

no_divisor_clear : (f d p : ℕ) → d % 2 ≡ 1 → Free p d → p < (d + 2 * f) * (d + 2 * f) → no_divisor f d p ≡ true → Clear p
unfolding no_divisor
no_divisor_clear zero d p o F l t = free_clear p d (omega arith) F
no_divisor_clear (suc f) d p o F l t =
    ⊎_elim (λ (q : p < d * d). free_clear p d q F)
    (λ w. no_divisor_clear f (d + 2) p (odd_next d o) (free_next p d o F w.0) (omega arith) w.1)
    (trial_true p d (no_divisor f (d + 2) p) t)

-- ---- primes

-- a prime has no divisor whose square is at most p
prime_undivided : (p d : ℕ) → Prime p → 3 ≤ d → d * d ≤ p → p % d ≡ 0 → ⊥
prime_undivided p d P h l e =
    ⊎_elim (λ (q : d ≡ 1). omega arith) (λ (q : d ≡ p). omega (arith, mul-le-mul_right d h)) (P.only d (dvd_of_mod-eq-zero d e))

prime_odd_number : (p : ℕ) → Prime p → 3 ≤ p → p % 2 ≡ 1
prime_odd_number p P h =
    odd_not_even p (λ e. ⊎_elim (λ (q : 2 ≡ 1). omega arith) (λ (q : 2 ≡ p). omega arith) (P.only 2 (dvd_of_mod-eq-zero 2 e)))

-- a factor of an odd number is odd
odd_factor : (d k : ℕ) → d * k % 2 ≡ 1 → d % 2 ≡ 1
odd_factor d k o = odd_not_even d (λ (e : d % 2 ≡ 0). omega (arith, mod_mul_mod d k 2, ap (λ (n : ℕ). n * k % 2) e))

clear_prime : (p : ℕ) → 3 ≤ p → p % 2 ≡ 1 → Clear p → Prime p
clear_prime p h o C = record { above = omega arith; only = λ d v. only d (p / d) (mul-div_cancel' d v) }
  where
    large : (d : ℕ) → d % 2 ≡ 1 → (d ≡ 1 → ⊥) → 3 ≤ d
    large d q n = omega (arith, div-add-mod' d 2)

    -- the lesser of two factors has its square at most p
    proper : (d k : ℕ) → d * k ≡ p → (d ≡ 1 → ⊥) → (k ≡ 1 → ⊥) → d ≤ k → ⊥
    proper d k e m n l =
        let q : d % 2 ≡ 1 = odd_factor d k (ap (λ (x : ℕ). x % 2) e ∙ o) in
        C.none d (large d q m) q (omega (arith, mul-le-mul_left d l)) (mod-eq-zero_of_dvd d (rw (mul_comm k d ∙ e) at (dvd-mul_left d k)))

    only : (d k : ℕ) → d * k ≡ p → (d ≡ 1) ⊎ (d ≡ p)
    only d k e = first (ℕ_discrete d 1) (ℕ_discrete k 1) (dec_le d k)
      where
        first : Dec (d ≡ 1) → Dec (k ≡ 1) → Dec (d ≤ k) → (d ≡ 1) ⊎ (d ≡ p)
        first (yes m) _ _ = inl m
        first (no m) (yes n) _ = inr (omega (arith, ap (λ (x : ℕ). d * x) n))
        first (no m) (no n) (yes l) = absurd (proper d k e m n l)
        first (no m) (no n) (no l) = absurd (proper k d (mul_comm k d ∙ e) n m (omega arith))

pub both : (a b : Bool) → (a && b) ≡ true → (a ≡ true) × (b ≡ true)
both true b e = (refl, e)
both false b e = absurd (true≢false (sym e))

-- ---- the test

record Passed (p : ℕ) : Type 0 where
  low : 3 ≤ p
  high : p ≤ 2147483647
  odd : p % 2 ≡ 1
  clear : Clear p

odd_prime_passed : (p : ℕ) → odd_prime p ≡ true → Passed p
unfolding odd_prime
odd_prime_passed p t =
    let a = both (leb 3 p && leb p 2147483647 && eqb (p % 2) 1) (no_divisor p 3 p) t in
    let b = both (leb 3 p && leb p 2147483647) (eqb (p % 2) 1) a.0 in
    let c = both (leb 3 p) (leb p 2147483647) b.0 in
    record {
      low = leb-true 3 p c.0;
      high = leb-true p 2147483647 c.1;
      odd = eqb-true (p % 2) 1 b.1;
      clear = no_divisor_clear p 3 p refl (free_start p) (omega arith) a.1;
    }

pub odd_prime_lem : (p : ℕ) → odd_prime p ≡ true → Prime p
odd_prime_lem p t = let P = odd_prime_passed p t in clear_prime p P.low P.odd P.clear

pub odd_prime_range : (p : ℕ) → odd_prime p ≡ true → (3 ≤ p) × (p ≤ 2147483647)
odd_prime_range p t = let P = odd_prime_passed p t in (P.low, P.high)

-- the test of an odd number in range is trial division
pub odd_prime_divisors : (p : ℕ) → 3 ≤ p → p ≤ 2147483647 → p % 2 ≡ 1 → odd_prime p ≡ no_divisor p 3 p
unfolding odd_prime
odd_prime_divisors p l h o = rw (le-leb 3 p l, le-leb p 2147483647 h, eq-eqb (p % 2) 1 o)

prime_odd : (p : ℕ) → Prime p → 3 ≤ p → p ≤ 2147483647 → odd_prime p ≡ true
prime_odd p P l h =
    odd_prime_divisors p l h (prime_odd_number p P l)
    ∙ clear_no_divisor p 3 p (omega arith) refl (record { none = λ d m o q e. prime_undivided p d P m q e })

-- the test holds exactly of the odd primes in range
pub odd_prime_told : {p : ℕ} {b : Bool} → b ≡ odd_prime p → TellsOddPrime p b
odd_prime_told {p} {b} e = record { yes = yes; no = λ P. e ∙ prime_odd p P.prime P.least P.most }
  where
    yes : b ≡ true → OddPrime p
    yes t =
        let q : odd_prime p ≡ true = sym e ∙ t in
        record { prime = odd_prime_lem p q; least = (odd_prime_range p q).0; most = (odd_prime_range p q).1 }

-- ---- out of range, even, divided, and the paper's cases

pub low_not : (p : ℕ) → p < 3 → odd_prime p ≡ false
unfolding odd_prime
low_not p h = rw (lt-leb 3 p h)

pub high_not : (p : ℕ) → 3 ≤ p → 2147483647 < p → odd_prime p ≡ false
unfolding odd_prime
high_not p l h = rw (le-leb 3 p l, lt-leb p 2147483647 h)

pub even_not : (p : ℕ) → 3 ≤ p → p ≤ 2147483647 → p % 2 ≡ 0 → odd_prime p ≡ false
unfolding odd_prime
even_not p l h e = rw (le-leb 3 p l, le-leb p 2147483647 h, e)

pub divided_not : (p d : ℕ) → 3 ≤ d → d * d ≤ p → p % d ≡ 0 → odd_prime p ≡ false
divided_not p d h l e = go (odd_prime p) refl
  where
    go : (b : Bool) → odd_prime p ≡ b → b ≡ false
    go true t = absurd (prime_undivided p d (odd_prime_lem p t) h l e)
    go false t = refl

pub odd_prime_cases :
    (odd_prime 2 ≡ false)
    × (odd_prime 3 ≡ true)
    × (odd_prime 5 ≡ true)
    × (odd_prime 7 ≡ true)
    × (odd_prime 9 ≡ false)
    × (odd_prime 13 ≡ true)
    × (odd_prime 2147483645 ≡ false)
    × (odd_prime 2147483647 ≡ true)
unfolding odd_prime no_divisor trial
odd_prime_cases = (refl, refl, refl, refl, refl, refl, refl, refl)
