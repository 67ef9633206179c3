-- Residues modulo p: when two numbers have the same one, and a number with that of -x.
-- Assumes nothing.
use Rattle.std.specs.Prelude.{◌≡◌, ℕ, ◌-◌, ◌%◌}

-- a and b leave the same remainder modulo p
pub record Congruent (p a b : ℕ) : Type 0 where
  pub is : a % p ≡ b % p

-- a number that is -x modulo p: for a p above 0 from 1 to p, and p where x is a multiple of p
unfoldable pub opposite : ℕ → ℕ → ℕ
opposite p x = p - x % p
