-- The quotient rule is sound: at two runs that agree at the marked signals C has equal values, and so has the factor that is one term on the
-- reference, which isn't 0. So the other factor has, and the target's coefficient in it can be divided out.
use Prim.Native.Nat.{ℕ, ◌*◌, ◌≤◌}
use mathlib.Core.Path.{◌≡◌, sym, ap, ◌∙◌}
use mathlib.Core.Bool.{Bool, true, false, not, ◌&&◌}
use native.Mathlib.Omega.{arith}
use lib.Dec.{eqb}
use borrow.Author.Tests.{ne_eqb, eqb-false, not-true}
use Rattle.field.specs.Residue.{Congruent}
use Rattle.field.specs.Prime.{Prime}
use Rattle.field.proofs.Residue.{congruent_trans, congruent_sym, congruent_equal, congruent_shift, congruent_below}
use Rattle.field.proofs.Inverse.{cancel_times}
use Rattle.circuit.specs.Circuit.{Form, Constraint, Rises, WellFormedConstraint, coef, names, eval}
use Rattle.laws.specs.Rules.{others_marked, single, divisor, divides, quotient_met}
use Rattle.laws.proofs.Sum.{and_left, and_right, and_both, or_cases}
use Rattle.laws.proofs.Forms.{single_says, eval_out}
use Rattle.laws.proofs.Reduced.{Fulfils, nonzero_mod, named_nonzero}
use Rattle.laws.proofs.ProductRule.{rest_equal, eval_equal}

-- what `quotient_met` says
pub record QuotientMet (K : Constraint) (m z : ℕ → Bool) (t r : ℕ) : Type 0 where
  pub marked : m r ≡ true
  pub nonzero : z r ≡ true
  pub apart : r ≡ t → ⊥
  pub divided : divides K.a K.b t r ≡ true
  pub not_in_c : names K.c t ≡ false
  pub marked_a : others_marked m t K.a ≡ true
  pub marked_b : others_marked m t K.b ≡ true
  pub marked_c : others_marked m t K.c ≡ true

pub quotient_met_lem : (K : Constraint) (m z : ℕ → Bool) (t r : ℕ) → quotient_met K m z t r ≡ true → QuotientMet K m z t r
unfolding quotient_met divisor
quotient_met_lem K m z t r e =
    let first : (divisor m z t r && (divides K.a K.b t r && not (names K.c t))) ≡ true = and_left _ _ e in
    let reference : (m r && z r && not (eqb r t)) ≡ true = and_left _ _ first in
    let forms : (divides K.a K.b t r && not (names K.c t)) ≡ true = and_right (divisor m z t r) _ first in
    let marks : (others_marked m t K.a && others_marked m t K.b && others_marked m t K.c) ≡ true =
    and_right (divisor m z t r && (divides K.a K.b t r && not (names K.c t))) _ e in
    record {
      marked = and_left (m r) _ (and_left _ _ reference);
      nonzero = and_right (m r) _ (and_left _ _ reference);
      apart = eqb-false r t (not-true _ (and_right (m r && z r) _ reference));
      divided = and_left _ _ forms;
      not_in_c = not-true _ (and_right (divides K.a K.b t r) _ forms);
      marked_a = and_left _ _ (and_left _ _ marks);
      marked_b = and_right (others_marked m t K.a) _ (and_left _ _ marks);
      marked_c = and_right (others_marked m t K.a && others_marked m t K.b) _ marks;
    }

pub quotient_met_from : {K : Constraint} {m z : ℕ → Bool} {t r : ℕ} → QuotientMet K m z t r → quotient_met K m z t r ≡ true
unfolding quotient_met divisor
quotient_met_from {t = t} {r} M =
    and_both _ _
    (and_both _ _ (and_both _ _ (and_both _ _ M.marked M.nonzero) (ap not (ne_eqb r t M.apart))) (and_both _ _ M.divided (ap not M.not_in_c)))
    (and_both _ _ (and_both _ _ M.marked_a M.marked_b) M.marked_c)

-- two runs that agree at the marked signals
module _ {n p : ℕ} {K : Constraint} {b v w : ℕ → ℕ} {m : ℕ → Bool} (F : Fulfils n p K b v) (F' : Fulfils n p K b w)
    (agree : (s : ℕ) → 1 ≤ s → s ≤ n → m s ≡ true → v s ≡ w s) (P : Prime p) where
  -- where products of forms are equal modulo p, of which one is a single term on a reference that isn't 0, the target of the other is equal
  divide : {f g : Form} → Rises n p 0 f → Rises n p 0 g → {t r : ℕ} → 1 ≤ t → t ≤ n → 1 ≤ r → r ≤ n → m r ≡ true → (v r ≡ 0 → ⊥)
      → (single r f && names g t) ≡ true → others_marked m t g ≡ true
      → Congruent p (eval f v * eval g v) (eval f w * eval g w) → v t ≡ w t
  divide {f} {g} rf rg {t} {r} l h lr hr marked nonzero e others products =
      let S = single_says rf (and_left (single r f) _ e) in
      let second : eval f w ≡ S.factor * v r = S.value w ∙ ap (λ (x : ℕ). S.factor * x) (sym (agree r lr hr marked)) in
      let scaled : Congruent p (S.factor * v r * eval g v) (S.factor * v r * eval g w) = rw (S.value v, second) at products in
      let by_reference : Congruent p (v r * eval g v) (v r * eval g w) =
      cancel_times S.factor P (nonzero_mod S.factor S.below (λ (z : S.factor ≡ 0). omega (arith, S.positive)))
      (congruent_shift _ _ scaled (omega arith)) in
      let values : Congruent p (eval g v) (eval g w) = cancel_times (v r) P (nonzero_mod (v r) (F.below r lr hr) nonzero) by_reference in
      congruent_below (F.below t l h) (F'.below t l h)
      (cancel_times (coef g t) P (named_nonzero (omega (arith, P.above)) rg t (and_right (single r f) _ e))
      (congruent_shift _ _ values
      (omega (arith, eval_out rg v t h, eval_out rg w t h, rest_equal F F' agree rg t others))))

  pub quotient_sound : WellFormedConstraint n p K → {z : ℕ → Bool} {t r : ℕ} → 1 ≤ t → t ≤ n → 1 ≤ r → r ≤ n → (v r ≡ 0 → ⊥)
      → QuotientMet K m z t r → v t ≡ w t
  unfolding divides
  quotient_sound W {t = t} {r} l h lr hr nonzero M =
      let products : Congruent p (eval K.a v * eval K.b v) (eval K.a w * eval K.b w) =
      congruent_trans F.satisfies
      (congruent_trans (congruent_equal p (eval_equal F F' agree W.rises_c t h M.marked_c M.not_in_c)) (congruent_sym F'.satisfies)) in
      or_cases (single r K.a && names K.b t) (single r K.b && names K.a t) M.divided
      (λ e. divide W.rises_a W.rises_b l h lr hr M.marked nonzero e M.marked_b products)
      (λ e. divide W.rises_b W.rises_a l h lr hr M.marked nonzero e M.marked_a (congruent_shift _ _ products (omega arith)))
