-- Prime numbers: the textbook meaning, and the test for the primes that a circuit may have.
-- Assumes nothing.
use Rattle.std.specs.Prelude.{◌≡◌, ◌⊎◌, Bool, true, not, ◌&&◌, ◌||◌, ℕ, zero, suc, ◌+◌, ◌*◌, ◌%◌, ◌≤◌, ◌<◌, leb, ltb, eqb}
use Rattle.std.specs.Int.{◌∣◌}

-- p is above 1 and has no divisors but 1 and p
pub record Prime (p : ℕ) : Type 0 where
  pub above : 1 < p
  pub only : (d : ℕ) → d ∣ p → (d ≡ 1) ⊎ (d ≡ p)

-- Rule 1.7, the prime of a circuit: odd, since the only even prime is 2, and in range
pub record OddPrime (p : ℕ) : Type 0 where
  pub prime : Prime p
  pub least : 3 ≤ p
  pub most : p ≤ 2147483647

-- b says whether p is an odd prime in range
pub record TellsOddPrime (p : ℕ) (b : Bool) : Type 0 where
  pub yes : b ≡ true → OddPrime p
  pub no : OddPrime p → b ≡ true

-- trial division of p by d, and then by the rest: the search ends where p is below d * d
unfoldable pub trial : ℕ → ℕ → Bool → Bool
trial p d rest = ltb p (d * d) || (not (eqb (p % d) 0) && rest)

-- none of the first n of d, d + 2, d + 4, .. divides p, as far as their squares are at most p
unfoldable pub no_divisor : ℕ → ℕ → ℕ → Bool
no_divisor zero d p = true
no_divisor (suc n) d p = let rest = no_divisor n (d + 2) p in trial p d rest

-- p is an odd prime, 3 to 2,147,483,647: in range, odd, and with no odd divisor from 3 on whose square is at most p
unfoldable pub odd_prime : ℕ → Bool
odd_prime p = leb 3 p && leb p 2147483647 && eqb (p % 2) 1 && no_divisor p 3 p
