-- Laws of the order of runs: it is a strict order, any two lists of the same length compare in it, and `precedes` is its test.
use Prim.Native.Nat.{ℕ, zero, suc, ◌<◌}
use mathlib.Core.Path.{◌≡◌, refl, sym, ◌∙◌}
use mathlib.Core.Logic.{◌⊎◌, inl, inr}
use mathlib.Core.Bool.{true, false, ◌&&◌}
use mathlib.Core.List.{List, [], ◌∷◌}
use native.Mathlib.Omega.{arith}
use native.Mathlib.Decide.{dec_lt, ℕ_discrete}
use borrow.Author.Tests.{lt-ltb, eq-eqb, ltb-true, eqb-true}
use lib.Dec.{ltb, eqb}
use lib.ListN.{length}
use Rattle.laws.proofs.Sum.{true_or_false, and_left, and_right, and_both, or_cases, or_left, or_right}
use Rattle.circuit.specs.Circuit.{value_of}
use Rattle.runs.specs.Order.{Before, precedes}

-- ---- values

pub before_trans : {u v w : ℕ → ℕ} → Before u v → Before v w → Before u w
before_trans {u} {v} {w} h g = go (dec_lt g.at h.at) (ℕ_discrete h.at g.at)
  where
    go : Dec (g.at < h.at) → Dec (h.at ≡ g.at) → Before u w
    go (yes l) e =
        record {
          at = g.at;
          same = λ s m. h.same s (omega arith) ∙ g.same s m;
          less = omega (arith, h.same g.at l, g.less);
        }
    go (no l) (yes e) =
        record {
          at = h.at;
          same = λ s m. h.same s m ∙ g.same s (omega arith);
          less = omega (arith, h.less, rw (sym e) at g.less);
        }
    go (no l) (no e) =
        record {
          at = h.at;
          same = λ s m. h.same s m ∙ g.same s (omega arith);
          less = omega (arith, h.less, g.same h.at (omega arith));
        }

pub before_irreflexive : {v : ℕ → ℕ} → Before v v → ⊥
before_irreflexive h = omega (arith, h.less)

pub before_not : {v w : ℕ → ℕ} → Before v w → Before w v → ⊥
before_not h g = before_irreflexive (before_trans h g)

-- ---- lists

module _ (x y : ℕ) (xs ys : List ℕ) where
  pub before_first : x < y → Before (value_of (x ∷ xs)) (value_of (y ∷ ys))
  unfolding value_of
  before_first h = record { at = 1; same = same; less = h }
    where
      same : (s : ℕ) → s < 1 → value_of (x ∷ xs) s ≡ value_of (y ∷ ys) s
      same zero l = refl
      same (suc s) l = absurd (omega arith)

  pub before_later : x ≡ y → Before (value_of xs) (value_of ys) → Before (value_of (x ∷ xs)) (value_of (y ∷ ys))
  unfolding value_of
  before_later e h = record { at = suc h.at; same = same; less = less h.at h.less }
    where
      same : (s : ℕ) → s < suc h.at → value_of (x ∷ xs) s ≡ value_of (y ∷ ys) s
      same zero l = refl
      same (suc zero) l = e
      same (suc (suc s)) l = h.same (suc s) (omega arith)

      less : (a : ℕ) → value_of xs a < value_of ys a → value_of (x ∷ xs) (suc a) < value_of (y ∷ ys) (suc a)
      less zero l = absurd (omega arith)
      less (suc a) l = l

  precedes_first : x < y → precedes (x ∷ xs) (y ∷ ys) ≡ true
  unfolding precedes
  precedes_first h = or_left (ltb x y) _ (lt-ltb x y h)

  precedes_later : x ≡ y → precedes xs ys ≡ true → precedes (x ∷ xs) (y ∷ ys) ≡ true
  unfolding precedes
  precedes_later e h = or_right (ltb x y) _ (and_both (eqb x y) _ (eq-eqb x y e) h)

pub precedes_before : (xs ys : List ℕ) → precedes xs ys ≡ true → Before (value_of xs) (value_of ys)
unfolding precedes
precedes_before [] ys e = true_or_false false e refl
precedes_before (x ∷ xs) [] e = true_or_false false e refl
precedes_before (x ∷ xs) (y ∷ ys) e =
    or_cases (ltb x y) (eqb x y && precedes xs ys) e (λ l. before_first x y xs ys (ltb-true x y l))
    (λ r. before_later x y xs ys (eqb-true x y (and_left _ _ r)) (precedes_before xs ys (and_right (eqb x y) _ r)))

-- two runs compare by the test
ordered : (xs ys : List ℕ) → length xs ≡ length ys → (precedes xs ys ≡ true) ⊎ (xs ≡ ys) ⊎ (precedes ys xs ≡ true)
ordered [] [] e = inr (inl refl)
ordered [] (y ∷ ys) e = absurd (omega arith)
ordered (x ∷ xs) [] e = absurd (omega arith)
ordered (x ∷ xs) (y ∷ ys) e = go (dec_lt x y) (dec_lt y x) (ordered xs ys (omega arith))
  where
    go : Dec (x < y) → Dec (y < x) → (precedes xs ys ≡ true) ⊎ (xs ≡ ys) ⊎ (precedes ys xs ≡ true)
        → (precedes (x ∷ xs) (y ∷ ys) ≡ true) ⊎ (x ∷ xs ≡ y ∷ ys) ⊎ (precedes (y ∷ ys) (x ∷ xs) ≡ true)
    go (yes l) d rest = inl (precedes_first x y xs ys l)
    go (no l) (yes m) rest = inr (inr (precedes_first y x ys xs m))
    go (no l) (no m) (inl h) = inl (precedes_later x y xs ys (omega arith) h)
    go (no l) (no m) (inr (inl h)) = let z : x ≡ y = omega arith in inr (inl cc)
    go (no l) (no m) (inr (inr h)) = inr (inr (precedes_later y x ys xs (omega arith) h))

pub compare : (xs ys : List ℕ) → length xs ≡ length ys → Before (value_of xs) (value_of ys) ⊎ (xs ≡ ys) ⊎ Before (value_of ys) (value_of xs)
compare xs ys e = go (ordered xs ys e)
  where
    go : (precedes xs ys ≡ true) ⊎ (xs ≡ ys) ⊎ (precedes ys xs ≡ true)
        → Before (value_of xs) (value_of ys) ⊎ (xs ≡ ys) ⊎ Before (value_of ys) (value_of xs)
    go (inl h) = inl (precedes_before xs ys h)
    go (inr (inl h)) = inr (inl h)
    go (inr (inr h)) = inr (inr (precedes_before ys xs h))

pub before_precedes : (xs ys : List ℕ) → length xs ≡ length ys → Before (value_of xs) (value_of ys) → precedes xs ys ≡ true
before_precedes xs ys e h = go (ordered xs ys e)
  where
    go : (precedes xs ys ≡ true) ⊎ (xs ≡ ys) ⊎ (precedes ys xs ≡ true) → precedes xs ys ≡ true
    go (inl p) = p
    go (inr (inl q)) = absurd (before_irreflexive (rw q at h))
    go (inr (inr p)) = absurd (before_not h (precedes_before ys xs p))
