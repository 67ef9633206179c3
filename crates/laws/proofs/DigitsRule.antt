-- The digits rule: what it asks, and that it is sound. The weighted sums of two runs over the unmarked signals are congruent
-- and below p, so equal, and digits are unique.
use Prim.Native.Nat.{ℕ, zero, suc, ◌*◌, ◌≤◌, ◌<◌}
use mathlib.Core.Path.{◌≡◌, refl, sym, ap, ◌∙◌}
use mathlib.Core.Bool.{Bool, true, false, not, ◌&&◌}
use native.Mathlib.Omega.{arith}
use native.Mathlib.Nat.{mod-lt, mul-le-mul_left, zero-mul, zero-mod}
use lib.Dec.{ltb, eqb}
use borrow.Author.Tests.{ltb-true, eqb-false, ne_eqb, not-true}
use Rattle.field.specs.Residue.{Congruent}
use Rattle.field.specs.Inverse.{inverse}
use Rattle.field.proofs.Residue.{congruent_refl, congruent_trans, congruent_mod, congruent_equal, congruent_shift, congruent_times, congruent_sym}
use Rattle.field.proofs.Residue.{congruent_below}
use Rattle.circuit.specs.Circuit.{Constraint, WellFormedConstraint}
use Rattle.laws.specs.Sum.{sum, all, keep}
use Rattle.laws.specs.Rules.{linear, reduced, occurs, weight, live, differs, smaller_term, smaller_sum, separate, live_term, separated, digits_met}
use Rattle.laws.proofs.Sum.{and_left, and_right, and_both, by_test, true_or_false, implies_elim, all_at, keep_same, keep_mono}
use Rattle.laws.proofs.Sum.{none_times, sum_cong, sum_mono, sum_scale, sum_split}
use Rattle.laws.proofs.Reduced.{Fulfils, sum_congruent, reduced_zero, occurs_no}
use Rattle.laws.proofs.Digits.{digits_unique}

-- "target and reference have coefficients in the reduced form .. Among the unmarked signals in it, weights differ, each weight exceeds the
-- sum of weight times bound over the smaller weights, and the sum over all is below p"
pub record DigitsMet (p n : ℕ) (K : Constraint) (b : ℕ → ℕ) (m : ℕ → Bool) (t r : ℕ) : Type 0 where
  pub is_linear : linear K ≡ true
  pub has_target : occurs (reduced p K) t ≡ true
  pub has_reference : occurs (reduced p K) r ≡ true
  pub differ : (s u : ℕ) → s < suc n → u < suc n → live (reduced p K) m s ≡ true → live (reduced p K) m u ≡ true → (s ≡ u → ⊥)
      → weight p (reduced p K) r s ≡ weight p (reduced p K) r u → ⊥
  pub exceeds : (s : ℕ) → s < suc n → live (reduced p K) m s ≡ true
      → smaller_sum p n (reduced p K) b m r (weight p (reduced p K) r s) < weight p (reduced p K) r s
  pub total : sum (suc n) (live_term p (reduced p K) b m r) < p

pub digits_met_lem : (p n : ℕ) (K : Constraint) (b : ℕ → ℕ) (m : ℕ → Bool) (t r : ℕ) → digits_met p n K b m t r ≡ true → DigitsMet p n K b m t r
unfolding digits_met separated separate differs
digits_met_lem p n K b m t r e =
    record {
      is_linear = and_left (linear K) _ (and_left _ _ e);
      has_target = and_left _ (occurs R r) (and_right (linear K) _ (and_left _ _ e));
      has_reference = and_right (occurs R t) _ (and_right (linear K) _ (and_left _ _ e));
      differ = λ s u l a i j d.
          eqb-false (weight p R r s) (weight p R r u)
          (not-true _
          (implies_elim (live R m u && not (eqb s u)) _ (all_at (suc n) (differs p R m r s) (and_left _ (exceeds s) (apart s l i)) u a)
          (and_both (live R m u) _ j (ap not (ne_eqb s u d)))));
      exceeds = λ s l i. ltb-true _ _ (and_right (all (suc n) (differs p R m r s)) _ (apart s l i));
      total = ltb-true _ _ (and_right (all (suc n) (separate p n R b m r)) _ last);
    }
  where
    R : ℕ → ℕ
    R = reduced p K

    exceeds : ℕ → Bool
    exceeds s = ltb (smaller_sum p n R b m r (weight p R r s)) (weight p R r s)

    last : separated p n R b m r ≡ true
    last = and_right (linear K && (occurs R t && occurs R r)) _ e

    apart : (s : ℕ) → s < suc n → live R m s ≡ true → (all (suc n) (differs p R m r s) && exceeds s) ≡ true
    apart s l = implies_elim (live R m s) _ (all_at (suc n) (separate p n R b m r) (and_left _ _ last) s l)

-- a signal in the form that isn't marked is live
pub live_yes : (p : ℕ) (K : Constraint) (m : ℕ → Bool) (s : ℕ) → 1 ≤ s → occurs (reduced p K) s ≡ true → m s ≡ false
    → live (reduced p K) m s ≡ true
unfolding live
live_yes p K m zero l e g = absurd (omega arith)
live_yes p K m (suc s) l e g = and_both (occurs (reduced p K) (suc s)) _ e (ap not g)

-- a run
module _ {n p : ℕ} {K : Constraint} {b v : ℕ → ℕ} (F : Fulfils n p K b v) where
  -- its weighted sum is 0 modulo p
  weighted_zero : WellFormedConstraint n p K → 0 < p → linear K ≡ true → (r : ℕ)
      → Congruent p (sum (suc n) (λ s. weight p (reduced p K) r s * v s)) 0
  unfolding weight
  weighted_zero W h e r =
      let d = inverse p (reduced p K r) in
      congruent_trans
      (sum_congruent p (suc n) _ (λ s. d * (reduced p K s * v s))
      (λ s l. congruent_shift _ _ (congruent_times (congruent_mod p (reduced p K s * d)) (congruent_refl p (v s))) (omega arith)))
      (congruent_trans (congruent_equal p (sum_scale (suc n) d (λ s. reduced p K s * v s)))
      (congruent_shift _ _ (congruent_times (congruent_refl p d) (reduced_zero W h v F.one e F.satisfies)) (omega arith)))

  live_within : (m : ℕ → Bool) (s : ℕ) → s < suc n → live (reduced p K) m s ≡ true → v s ≤ b s
  unfolding live
  live_within m zero l e = true_or_false false e refl
  live_within m (suc s) l e = F.bounded (suc s) (omega arith) (omega arith)

  -- the bounds keep its sum over the unmarked signals below p
  live_bounded : (m : ℕ → Bool) (r : ℕ) → sum (suc n) (live_term p (reduced p K) v m r) ≤ sum (suc n) (live_term p (reduced p K) b m r)
  unfolding live_term
  live_bounded m r =
      sum_mono (suc n) _ _ (λ s l. keep_mono _ _ _ _ (λ e. e) (λ e. mul-le-mul_left (weight p (reduced p K) r s) (live_within m s l e)))

-- two runs that agree at the marked signals
module _ {n p : ℕ} {K : Constraint} {b v w : ℕ → ℕ} {m : ℕ → Bool} (F : Fulfils n p K b v) (F' : Fulfils n p K b w)
    (agree : (s : ℕ) → 1 ≤ s → s ≤ n → m s ≡ true → v s ≡ w s) where
  abbrev R : ℕ → ℕ
  R = reduced p K

  -- the constant and the marked signals give both the same
  rest_equal : (r s : ℕ) → s < suc n → keep (not (live R m s)) (weight p R r s * v s) ≡ keep (not (live R m s)) (weight p R r s * w s)
  unfolding live weight
  rest_equal r zero l = ap (λ (k : ℕ). keep true (weight p R r 0 * k)) (F.one ∙ sym F'.one)
  rest_equal r (suc s) l =
      keep_same (not (live R m (suc s))) _ _
      (λ e.
      by_test (m (suc s)) (λ i. ap (λ (k : ℕ). weight p R r (suc s) * k) (agree (suc s) (omega arith) (omega arith) i))
      (λ i.
      by_test (occurs R (suc s)) (λ j. true_or_false _ (live_yes p K m (suc s) (omega arith) j i) (not-true _ e))
      (λ j.
      let z : weight p R r (suc s) ≡ 0 = rw (occurs_no p K (suc s) j, zero-mul) (zero-mod p) in
      none_times _ (v (suc s)) z ∙ sym (none_times _ (w (suc s)) z))))

  pub digits_sound : WellFormedConstraint n p K → {t r : ℕ} → 1 ≤ t → t ≤ n → DigitsMet p n K b m t r → v t ≡ w t
  unfolding smaller_sum smaller_term live_term weight
  digits_sound W {t} {r} l h M =
      by_test (m t) (agree t l h)
      (λ e.
      digits_unique (suc n) (live R m) (weight p R r) (record { differ = M.differ; exceeds = M.exceeds }) v w
      (live_within F m) (live_within F' m) p (λ s l. mod-lt _ positive) equal t (omega arith) (live_yes p K m t l M.has_target e))
    where
      positive : 0 < p
      positive = omega (arith, M.total)

      equal : sum (suc n) (live_term p R v m r) ≡ sum (suc n) (live_term p R w m r)
      equal =
          congruent_below (omega (arith, M.total, live_bounded F m r)) (omega (arith, M.total, live_bounded F' m r))
          (congruent_shift _ _
          (congruent_trans (weighted_zero F W positive M.is_linear r) (congruent_sym (weighted_zero F' W positive M.is_linear r)))
          (omega (
            arith,
            sum_split (suc n) (live R m) (λ s. weight p R r s * v s),
            sum_split (suc n) (live R m) (λ s. weight p R r s * w s),
            sum_cong (suc n) _ (λ s. keep (not (live R m s)) (weight p R r s * w s)) (rest_equal r),
          )))
