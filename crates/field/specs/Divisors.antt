-- Tables of trial divisors: when one has enough of them, and the inverses by which divisors are passed over.
-- How the prime test runs, not what it means.
-- Assumes nothing.
use Rattle.std.specs.Prelude.{◌≡◌, Bool, true, false, not, cond, ◌&&◌, List, [], ◌∷◌, ℕ, zero, suc, ◌+◌, ◌*◌, ◌%◌, ◌≤◌, ◌<◌, eqb, length, get_or, drop}
use Rattle.field.specs.Prime.{no_divisor}

-- of the k numbers n, n + 2, n + 4, .. the entries are those that are named in their order, and each of the others has a divisor
unfoldable pub complete : ℕ → ℕ → List ℕ → Bool
complete zero n xs = eqb (length xs) 0
complete (suc k) n xs =
    let entry = complete k (n + 2) (drop 1 xs) in
    let between = not (no_divisor n 3 n) && complete k (n + 2) xs in
    cond (eqb n (get_or xs 0 0)) entry between

-- the table is complete for the odd numbers from 3 on, as many as reach past the root of p
pub record Enough (xs : List ℕ) (p : ℕ) : Type 0 where
  pub count : ℕ
  pub all : complete count 3 xs ≡ true
  pub past : p < (3 + 2 * count) * (3 + 2 * count)

-- the entries of vs are the inverses of those of xs modulo 4,294,967,296
unfoldable pub paired : List ℕ → List ℕ → Bool
paired [] [] = true
paired [] (v ∷ vs) = false
paired (x ∷ xs) [] = false
paired (x ∷ xs) (v ∷ vs) = let rest = paired xs vs in eqb (x * v % 4294967296) 1 && rest

-- r is a place from start to end, and each entry before it times p is above q modulo 4,294,967,296
pub record Passed (vs : List ℕ) (p q start end r : ℕ) : Type 0 where
  pub from : start ≤ r
  pub to : r ≤ end
  pub above : (j : ℕ) → start ≤ j → j < r → q < p * get_or vs j 0 % 4294967296

-- r is the first place whose entry isn't passed, or the end
pub record Next (vs : List ℕ) (p q start end r : ℕ) : Type 0 where
  pub passed : Passed vs p q start end r
  pub found : r < end → p * get_or vs r 0 % 4294967296 ≤ q
