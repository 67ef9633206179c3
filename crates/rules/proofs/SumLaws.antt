-- Sums that end early; the terms of the sum rule as the code makes them, over coefficients R and bounds b by place; the highest bound.
use Prim.Native.Nat.{ℕ, zero, suc, ◌+◌, ◌*◌, ◌-◌, ◌%◌, ◌≤◌, ◌<◌}
use mathlib.Core.Path.{◌≡◌, refl, sym, ap, ◌∙◌}
use mathlib.Core.Bool.{not}
use native.Mathlib.Nat.{zero-mod, zero-add, sub-zero, mul-mod_right, mul-zero, mul_comm}
use native.Mathlib.Decide.{ℕ_discrete}
use native.Mathlib.Numerals.{add-one}
use native.Mathlib.Omega.{arith}
use lib.Dec.{eqb}
use borrow.Author.Tests.{eq-eqb, ne_eqb}
use Rattle.field.specs.Residue.{opposite}
use Rattle.field.specs.Inverse.{inverse}
use Rattle.field.proofs.Residue.{opposite_times}
use Rattle.laws.specs.Sum.{sum, keep}
use Rattle.laws.specs.Rules.{sum_weight, ceiling, sum_term}
use Rattle.laws.proofs.Sum.{by_order, sum_last, keep_true, keep_false, keep_zero, none_times}
use Rattle.std.specs.Prelude.{Option, None, Some}
use Rattle.rules.specs.Steps.{Target, Highest, Scale}

-- Sums

sum_at_end : (k n : ℕ) (f : ℕ → ℕ) → k ≡ n → sum k f ≡ sum n f
sum_at_end k n f e = ap (λ (m : ℕ). sum m f) e

-- more terms give no less
pub sum_grows : (k n : ℕ) (f : ℕ → ℕ) → k ≤ n → sum k f ≤ sum n f
sum_grows k zero f h = omega (arith, sum_at_end k 0 f (omega arith))
sum_grows k (suc n) f h =
    by_order n k (λ l. omega (arith, sum_at_end k (suc n) f (omega arith))) (λ l. omega (arith, sum_grows k n f l, sum_last n f))

-- index by index
pub sum_start : (f : ℕ → ℕ) → 0 ≡ sum 0 f
unfolding sum
sum_start f = refl

pub sum_on : (f : ℕ → ℕ) (k total x : ℕ) → total ≡ sum k f → x ≡ f k → total + x ≡ sum (k + 1) f
sum_on f k total x e g = rw (add-one k) (omega (arith, sum_last k f))

pub sum_over : (f : ℕ → ℕ) (k n total x limit : ℕ) → total ≡ sum k f → x ≡ f k → k < n → limit ≤ total + x → limit ≤ sum n f
sum_over f k n total x limit e x-is h over = omega (arith, sum_on f k total x e x-is, sum_grows (k + 1) n f (omega arith))

pub sum_whole : (f : ℕ → ℕ) (k n total : ℕ) → total ≡ sum k f → k ≡ n → total ≡ sum n f
sum_whole f k n total e end = omega (arith, sum_at_end k n f end)

-- A term

pub weight_none : (p : ℕ) (R : ℕ → ℕ) (t s : ℕ) → R s ≡ 0 → sum_weight p R t s ≡ 0
unfolding sum_weight opposite
weight_none p R t s e = rw (e, zero-mod p, sub-zero) (mul-mod_right p (inverse p (R t)))

pub ceiling_signal : (b : ℕ → ℕ) (s : ℕ) → (s ≡ 0 → ⊥) → ceiling b s ≡ b s
unfolding ceiling
ceiling_signal b zero d = absurd (d refl)
ceiling_signal b (suc s) d = refl

module _ (p : ℕ) (R b : ℕ → ℕ) (t s : ℕ) where
  pub term_target : s ≡ t → 0 ≡ sum_term p R b t s
  unfolding sum_term
  term_target e = sym (keep_false _ _ (ap not (eq-eqb s t e)))

  pub term_absent : R s ≡ 0 → sum_term p R b t s ≡ 0
  unfolding sum_term
  term_absent e = ap (keep (not (eqb s t))) (none_times _ _ (weight_none p R t s e)) ∙ keep_zero (not (eqb s t))

  pub term_zero : ceiling b s ≡ 0 → 0 ≡ sum_term p R b t s
  unfolding sum_term
  term_zero e = sym (rw (e, mul-zero) (keep_zero (not (eqb s t))))

  module _ {count scale : ℕ} (S : Scale p R count t scale) (other : s ≡ t → ⊥) (w : ℕ) (w-is : w ≡ (0 + R s * scale) % p) where
    -- the target's sign is as good as the signal's
    weight_is : w ≡ sum_weight p R t s
    unfolding sum_weight
    weight_is =
        let i = inverse p (R t) in
        w-is
        ∙ rw (S.is, zero-add, mul_comm (R s) (opposite p i))
        ((opposite_times i (R s) S.modulus).is ∙ rw (mul_comm i (R s)) (sym (opposite_times (R s) i S.modulus).is))

    term_other : sum_term p R b t s ≡ w * ceiling b s
    unfolding sum_term
    term_other = keep_true _ _ (ap not (ne_eqb s t other)) ∙ ap (λ (x : ℕ). x * ceiling b s) (sym weight_is)

    pub term_is : (m r : ℕ) → m ≡ ceiling b s → r ≡ w * m → r ≡ sum_term p R b t s
    term_is m r m-is r-is = r-is ∙ rw m-is (sym term_other)

-- The highest bound

-- the place e with the highest bound is not among those below i, or found
pub data Sought (b : ℕ → ℕ) (i : ℕ) (found : Option ℕ) (top e : ℕ) : Type 0 where
  ahead : i ≤ e → top < b e → Sought b i found top e
  behind : e < i → found ≡ Some e → top ≡ b e → Sought b i found top e

pub record Seen (R b : ℕ → ℕ) (count i : ℕ) (found : Option ℕ) (top : ℕ) : Type 0 where
  pub each : (e : ℕ) → Highest R b count e → Sought b i found top e

module _ {R b : ℕ → ℕ} {count : ℕ} where
  pub seen_start : Seen R b count 1 None 0
  seen_start = record { each = λ e H. ahead H.target.least H.positive }

  pub seen_end : {i : ℕ} {found : Option ℕ} {top : ℕ} → Seen R b count i found top → count ≤ i → (e : ℕ) → Highest R b count e → found ≡ Some e
  seen_end {i} {found} {top} F h e H = go (F.each e H)
    where
      go : Sought b i found top e → found ≡ Some e
      go (ahead l t) = absurd (omega (arith, H.target.before))
      go (behind l f t) = f

  module _ {i : ℕ} {found : Option ℕ} {top : ℕ} (F : Seen R b count i found top) where
    pub seen_same : ((R i ≡ 0 → ⊥) → b i < top) → Seen R b count (i + 1) found top
    seen_same low = record { each = λ e H. go e H (F.each e H) (ℕ_discrete i e) }
      where
        go : (e : ℕ) → Highest R b count e → Sought b i found top e → Dec (i ≡ e) → Sought b (i + 1) found top e
        go e H (ahead l t) (yes q) = absurd (omega (arith, low (rw q H.target.present), ap b q))
        go e H (ahead l t) (no d) = ahead (omega arith) t
        go e H (behind l f t) d = behind (omega arith) f t

    module _ (T : Target R count i) where
      pub seen_new : top < b i → Seen R b count (i + 1) (Some i) (b i)
      seen_new high = record { each = λ e H. go e H (F.each e H) (ℕ_discrete i e) }
        where
          go : (e : ℕ) → Highest R b count e → Sought b i found top e → Dec (i ≡ e) → Sought b (i + 1) (Some i) (b i) e
          go e H s (yes q) = behind (omega arith) (ap Some q) (ap b q)
          go e H (ahead l t) (no d) = ahead (omega arith) (H.above i T d)
          go e H (behind l f t) (no d) = absurd (omega (arith, H.above i T d))

      pub seen_tied : b i ≡ top → Seen R b count (i + 1) None top
      seen_tied tied = record { each = λ e H. go e H (F.each e H) (ℕ_discrete i e) }
        where
          go : (e : ℕ) → Highest R b count e → Sought b i found top e → Dec (i ≡ e) → Sought b (i + 1) None top e
          go e H (ahead l t) (yes q) = absurd (omega (arith, ap b q))
          go e H (ahead l t) (no d) = ahead (omega arith) t
          go e H (behind l f t) (yes q) = absurd (omega arith)
          go e H (behind l f t) (no d) = absurd (omega (arith, H.above i T d))

      -- where p - 1 stands twice, no bound below p is above all others
      pub seen_full : b i ≡ top → {p : ℕ} → p - 1 ≤ b i → (e : ℕ) → Highest R b count e → b e < p → None ≡ Some e
      seen_full tied {p} full e H below = go ((seen_tied tied).each e H)
        where
          go : Sought b (i + 1) None top e → None ≡ Some e
          go (ahead l t) = absurd (omega arith)
          go (behind l f t) = f
