-- A sum that lowers its target's bound: that bound is the strict maximum of the bounds in the form. So a constraint has at most one such target.
use Prim.Native.Nat.{ℕ, zero, suc, ◌*◌, ◌%◌, ◌≤◌, ◌<◌}
use mathlib.Core.Path.{◌≡◌, sym, ap}
use mathlib.Core.Bool.{true, not}
use mathlib.Core.Logic.{⊎_elim}
use native.Mathlib.Omega.{arith}
use native.Mathlib.Nat.{mul-le-mul_right}
use lib.Dec.{eqb}
use borrow.Author.Tests.{ne_eqb}
use Rattle.field.specs.Residue.{opposite}
use Rattle.field.specs.Prime.{Prime}
use Rattle.field.specs.Inverse.{inverse}
use Rattle.field.proofs.Residue.{congruent_shift, congruent_zero}
use Rattle.field.proofs.Inverse.{inverse_is, inverse_nonzero, euclid}
use Rattle.circuit.specs.Circuit.{Constraint}
use Rattle.laws.specs.Rules.{reduced, occurs, ceiling, sum_weight, sum_term, sum_bound}
use Rattle.laws.proofs.Sum.{by_equal, keep_true, sum_at}
use Rattle.laws.proofs.Reduced.{opposite_scaled, occurs_nonzero}

-- every weight of the form is at least 1
pub weight_positive : {p : ℕ} → Prime p → (K : Constraint) (t s : ℕ) → occurs (reduced p K) t ≡ true → occurs (reduced p K) s ≡ true
    → 1 ≤ sum_weight p (reduced p K) t s
unfolding sum_weight
weight_positive {p} P K t s et es =
    let positive : 0 < p = omega (arith, P.above) in
    let d = inverse p (reduced p K t) in
    by_equal (opposite p (reduced p K s) * d % p) 0
    (λ (z : opposite p (reduced p K s) * d % p ≡ 0).
    absurd (⊎_elim (inverse_nonzero P.above (inverse_is (reduced p K t) P (occurs_nonzero K t positive et))) (occurs_nonzero K s positive es)
    (euclid d (reduced p K s) P (congruent_zero (congruent_shift _ 0 (opposite_scaled (reduced p K s) d positive) (omega arith))))))
    (λ (z : opposite p (reduced p K s) * d % p ≡ 0 → ⊥). omega arith)

module _ {p : ℕ} (P : Prime p) (n : ℕ) (K : Constraint) (b : ℕ → ℕ) where
  -- a sum is at least every other bound in its form
  pub sum_at_least : (t s : ℕ) → occurs (reduced p K) t ≡ true → occurs (reduced p K) s ≡ true → 1 ≤ s → s ≤ n → (s ≡ t → ⊥)
      → b s ≤ sum_bound p n (reduced p K) b t
  unfolding sum_bound sum_term ceiling
  sum_at_least t zero et es l m d = absurd (omega arith)
  sum_at_least t (suc s) et es l m d =
      let w = sum_weight p (reduced p K) t (suc s) in
      omega (
        arith,
        sum_at (suc n) (sum_term p (reduced p K) b t) (suc s) (omega arith),
        keep_true (not (eqb (suc s) t)) (w * b (suc s)) (ap not (ne_eqb (suc s) t d)),
        mul-le-mul_right (b (suc s)) (weight_positive P K t (suc s) et es),
      )

  pub strict_maximum : (t : ℕ) → occurs (reduced p K) t ≡ true → sum_bound p n (reduced p K) b t < b t
      → (s : ℕ) → occurs (reduced p K) s ≡ true → 1 ≤ s → s ≤ n → (s ≡ t → ⊥) → b s < b t
  strict_maximum t et less s es l m d = omega (arith, sum_at_least t s et es l m d)

  pub one_target : (t u : ℕ) → 1 ≤ t → t ≤ n → 1 ≤ u → u ≤ n → occurs (reduced p K) t ≡ true → occurs (reduced p K) u ≡ true
      → sum_bound p n (reduced p K) b t < b t → sum_bound p n (reduced p K) b u < b u → t ≡ u
  one_target t u lt mt lu mu et eu h g =
      by_equal t u (λ q. q) (λ d. absurd (omega (arith, sum_at_least t u et eu lu mu (λ q. d (sym q)), sum_at_least u t eu et lt mt d)))
