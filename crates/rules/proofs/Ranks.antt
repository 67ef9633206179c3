-- Indices that pass a test, gathered in their order: the rank of an index, and sums over the gathered ones.
use Prim.Native.Nat.{ℕ, zero, suc, ◌≤◌, ◌<◌}
use mathlib.Core.Path.{◌≡◌, refl, sym, ap}
use mathlib.Core.Bool.{Bool, true, false}
use native.Mathlib.Omega.{arith}
use Rattle.laws.specs.Sum.{sum}
use Rattle.rules.specs.Rows.{one, rank}
use Rattle.laws.proofs.Sum.{sum_last, keep_true, keep_false, by_test}
use Rattle.rules.proofs.SumLaws.{sum_grows}

-- Ranks

module _ (q : ℕ → Bool) where
  pub rank_zero : rank q 0 ≡ 0
  unfolding rank sum
  rank_zero = refl

  pub rank_passed : (s : ℕ) → q s ≡ true → rank q (suc s) ≡ suc (rank q s)
  unfolding rank one
  rank_passed s e = omega (arith, sum_last s (one q), keep_true (q s) 1 e)

  pub rank_failed : (s : ℕ) → q s ≡ false → rank q (suc s) ≡ rank q s
  unfolding rank one
  rank_failed s e = omega (arith, sum_last s (one q), keep_false (q s) 1 e)

  pub rank_grows : (s k : ℕ) → s ≤ k → rank q s ≤ rank q k
  unfolding rank
  rank_grows s k h = sum_grows s k (one q) h

  pub rank_below : (s k : ℕ) → s < k → q s ≡ true → rank q s < rank q k
  rank_below s k h e = omega (arith, rank_passed s e, rank_grows (suc s) k h)

  -- a sum over those that pass, by rank
  pub sum_rank : (k : ℕ) (f g : ℕ → ℕ)
      → ((s : ℕ) → s < k → q s ≡ true → f s ≡ g (rank q s))
      → ((s : ℕ) → s < k → q s ≡ false → f s ≡ 0)
      → sum k f ≡ sum (rank q k) g
  unfolding sum
  sum_rank zero f g h z = ap (λ (m : ℕ). sum m g) (sym rank_zero)
  sum_rank (suc k) f g h z =
      let before : sum k f ≡ sum (rank q k) g = sum_rank k f g (λ s l. h s (omega arith)) (λ s l. z s (omega arith)) in
      by_test (q k)
      (λ e.
      omega (arith, before, sum_last k f, sum_last (rank q k) g, h k (omega arith) e, ap (λ (m : ℕ). sum m g) (rank_passed k e)))
      (λ e. omega (arith, before, sum_last k f, z k (omega arith) e, ap (λ (m : ℕ). sum m g) (rank_failed k e)))
