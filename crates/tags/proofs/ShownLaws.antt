-- Laws of what bounds show of a sheet: how many of its tags, and bounds that agree where the tags are.
use Prim.Native.Nat.{ℕ, zero, suc, ◌+◌, ◌≤◌}
use mathlib.Core.Path.{◌≡◌, refl, ap}
use mathlib.Core.Bool.{Bool, true, false, cond, ◌&&◌}
use mathlib.Core.List.{List, ◌∷◌}
use native.Mathlib.Omega.{arith}
use native.Mathlib.Numerals.{add-one}
use lib.Dec.{leb}
use lib.ListN.{length}
use Rattle.std.specs.List.{filter, range_with_len}
use Rattle.std.specs.Option.{unwrap_or}
use Rattle.circuit.specs.Runs.{found}
use Rattle.circuit.proofs.SearchLaws.{first_same}
use Rattle.laws.specs.Sum.{keep, implies}
use Rattle.tags.specs.Tag.{Tag, limit, Sheet, on_other, is_shown, shown_of, not_missed, shown_by}

-- The count

module _ (i : ℕ) (bound : ℕ → ℕ) (tag : ℕ → Tag) where
  abbrev pub counted : ℕ → Bool
  counted k = on_other i (tag k) && is_shown bound (tag k)

  -- those of the n tags after tag k, and those up to k
  counted_after : (k n : ℕ) → length (filter counted (range_with_len (k + 1) n)) + shown_of i bound tag k ≡ shown_of i bound tag (k + n)
  unfolding shown_of keep
  counted_after k zero = let same : k ≡ k + 0 = omega arith in omega (arith, ap (shown_of i bound tag) same)
  counted_after k (suc n) =
      let all : k + 1 + n ≡ k + suc n = omega arith in
      let one : shown_of i bound tag (k + 1) ≡ shown_of i bound tag k + keep (counted (k + 1)) 1 = rw add-one refl in
      let here = first (counted (k + 1)) (k + 1) (filter counted (range_with_len (k + 1 + 1) n)) in
      omega (arith, ap (shown_of i bound tag) all, counted_after (k + 1) n, one, here)
    where
      first : (b : Bool) (x : ℕ) (xs : List ℕ) → length (cond b (x ∷ xs) xs) ≡ keep b 1 + length xs
      first true x xs = omega arith
      first false x xs = omega arith

  pub counted_all : (n : ℕ) → length (filter counted (range_with_len 1 n)) ≡ shown_of i bound tag n
  unfolding shown_of
  counted_all n = let all : 0 + n ≡ n = omega arith in omega (arith, ap (shown_of i bound tag) all, counted_after 0 n)

-- what is found, by number
pub found_number : (n : ℕ) → unwrap_or (found n) 0 ≡ n
found_number zero = refl
found_number (suc k) = refl

-- Bounds that agree at the signals of all tags show the same

module _ (i : ℕ) (bound other : ℕ → ℕ) (T : Sheet) (same : (k : ℕ) → 1 ≤ k → k ≤ T.count → bound (T.tag k).signal ≡ other (T.tag k).signal) where
  is_same : (k : ℕ) → 1 ≤ k → k ≤ T.count → is_shown bound (T.tag k) ≡ is_shown other (T.tag k)
  unfolding is_shown
  is_same k l m = ap (λ (x : ℕ). leb x (limit (T.tag k))) (same k l m)

  count_same : (k : ℕ) → k ≤ T.count → shown_of i bound T.tag k ≡ shown_of i other T.tag k
  unfolding shown_of
  count_same zero h = refl
  count_same (suc k) h = rw (count_same k (omega arith), is_same (suc k) (omega arith) h)

  pub shown_same : shown_by i T bound ≡ shown_by i T other
  unfolding shown_by not_missed
  shown_same =
      let missed = first_same (not_missed i bound T.tag) (not_missed i other T.tag) T.count
      (λ k l m. ap (implies (on_other i (T.tag k))) (is_same k l m)) in
      rw (count_same T.count (omega arith), missed)
