-- The sum rule is sound: at a run that satisfies the constraint the target is the weighted sum, which the bounds keep below p.
use Prim.Native.Nat.{ℕ, zero, suc, ◌+◌, ◌*◌, ◌≤◌, ◌<◌}
use mathlib.Core.Path.{◌≡◌, refl}
use mathlib.Core.Bool.{Bool, true, false, not, ◌&&◌}
use native.Mathlib.Omega.{arith}
use native.Mathlib.Nat.{mul-le-mul_left}
use lib.Dec.{eqb}
use borrow.Author.Tests.{ltb-true}
use Rattle.field.specs.Residue.{Congruent}
use Rattle.field.specs.Prime.{Prime}
use Rattle.field.proofs.Residue.{congruent_refl, congruent_trans, congruent_equal, congruent_shift, congruent_times, congruent_below}
use Rattle.field.proofs.Inverse.{inverse_is}
use Rattle.circuit.specs.Circuit.{Constraint, WellFormedConstraint}
use Rattle.laws.specs.Sum.{sum, keep}
use Rattle.laws.specs.Rules.{linear, reduced, occurs, sum_weight, ceiling, sum_term, sum_bound, sum_met}
use Rattle.laws.proofs.Sum.{and_left, and_right, keep_mono, sum_mono, sum_plus, sum_scale, sum_zeros, sum_out}
use Rattle.laws.proofs.Reduced.{Fulfils, sum_congruent, solve, opposite_scaled, occurs_nonzero, reduced_zero}

-- what `sum_met` says
pub record SumMet (p n : ℕ) (K : Constraint) (b : ℕ → ℕ) (t : ℕ) : Type 0 where
  pub is_linear : linear K ≡ true
  pub has_target : occurs (reduced p K) t ≡ true
  pub below : sum_bound p n (reduced p K) b t < p

pub sum_met_lem : (p n : ℕ) (K : Constraint) (b : ℕ → ℕ) (t : ℕ) → sum_met p n K b t ≡ true → SumMet p n K b t
unfolding sum_met
sum_met_lem p n K b t e =
    record {
      is_linear = and_left (linear K) _ (and_left _ _ e);
      has_target = and_right (linear K) _ (and_left _ _ e);
      below = ltb-true _ _ (and_right (linear K && occurs (reduced p K) t) _ e);
    }

-- the terms of g at signals other than t
others : ℕ → (ℕ → ℕ) → (ℕ → ℕ) → ℕ → ℕ
others t g v s = keep (not (eqb s t)) (g s * v s)

-- weights that cancel d times the coefficients make a sum that cancels d times theirs
others_cancel : (p n t d : ℕ) (g w v : ℕ → ℕ) → ((s : ℕ) → Congruent p (w s + d * g s) 0)
    → Congruent p (sum (suc n) (others t w v) + d * sum (suc n) (others t g v)) 0
unfolding others keep
others_cancel p n t d g w v h =
    congruent_shift _ _ (sum_congruent p (suc n) (λ s. others t w v s + d * others t g v s) (λ s. 0) (λ s l. each s (not (eqb s t))))
    (omega (
      arith,
      sum_plus (suc n) (others t w v) (λ s. d * others t g v s),
      sum_scale (suc n) d (others t g v),
      sum_zeros (suc n) (λ s. 0) (λ s l. refl),
    ))
  where
    each : (s : ℕ) (b : Bool) → Congruent p (keep b (w s * v s) + d * keep b (g s * v s)) 0
    each s true = congruent_shift _ _ (congruent_times (h s) (congruent_refl p (v s))) (omega arith)
    each s false = congruent_equal p (omega arith)

module _ {n p : ℕ} {K : Constraint} {b v : ℕ → ℕ} (F : Fulfils n p K b v) (t : ℕ) where
  -- values within the bounds make no larger sum
  others_bounded : sum (suc n) (others t (sum_weight p (reduced p K) t) v) ≤ sum_bound p n (reduced p K) b t
  unfolding others sum_bound sum_term ceiling
  others_bounded =
      sum_mono (suc n) (others t (sum_weight p (reduced p K) t) v) (sum_term p (reduced p K) b t)
      (λ s l. keep_mono _ _ _ _ (λ e. e) (λ e. mul-le-mul_left (sum_weight p (reduced p K) t s) (within s l)))
    where
      within : (s : ℕ) → s < suc n → v s ≤ ceiling b s
      within zero l = omega (arith, F.one)
      within (suc s) l = F.bounded (suc s) (omega arith) (omega arith)

  pub sum_sound : Prime p → WellFormedConstraint n p K → 1 ≤ t → t ≤ n → SumMet p n K b t → v t ≤ sum_bound p n (reduced p K) b t
  unfolding others sum_weight
  sum_sound P W l h M =
      let positive : 0 < p = omega (arith, P.above) in
      let whole = sum_out (suc n) (λ s. reduced p K s * v s) t (omega arith) in
      let equal : v t ≡ sum (suc n) (others t (sum_weight p (reduced p K) t) v) =
      congruent_below (F.below t l h) (omega (arith, others_bounded, M.below))
      (solve (sum (suc n) (others t (reduced p K) v)) (inverse_is (reduced p K t) P (occurs_nonzero K t positive M.has_target))
      (congruent_trans (congruent_equal p (omega arith)) (reduced_zero W positive v F.one M.is_linear F.satisfies))
      (others_cancel p n t _ (reduced p K) (sum_weight p (reduced p K) t) v (λ s. opposite_scaled (reduced p K s) _ positive))) in
      omega (arith, others_bounded)
