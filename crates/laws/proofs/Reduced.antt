-- The reduced form of a linear constraint: it is 0 modulo p exactly at the runs that satisfy the constraint.
use Prim.Native.Nat.{ℕ, zero, suc, ◌+◌, ◌*◌, ◌%◌, ◌≤◌, ◌<◌}
use mathlib.Core.Path.{◌≡◌, sym, ap, ◌∙◌}
use mathlib.Core.Bool.{true, false}
use native.Mathlib.Omega.{arith}
use native.Mathlib.Nat.{mod-lt, mod-eq_of_lt}
use borrow.Author.Tests.{eqb-true, eqb-false, not-true, not-false}
use Rattle.field.specs.Residue.{Congruent, opposite}
use Rattle.field.specs.Inverse.{IsInverse}
use Rattle.field.proofs.Residue.{congruent_refl, congruent_sym, congruent_trans, congruent_plus, congruent_times, congruent_mod, congruent_shift}
use Rattle.field.proofs.Residue.{congruent_below, opposite_plus}
use Rattle.circuit.specs.Circuit.{Form, Constraint, Rises, WellFormedConstraint, Satisfies, coef, names, eval}
use Rattle.laws.specs.Sum.{sum}
use Rattle.laws.specs.Rules.{names_none, linear, constant, reduced, occurs}
use Rattle.laws.proofs.Sum.{or_cases, none_times, sum_cong, sum_plus, sum_scale, sum_zeros, sum_first}
use Rattle.laws.proofs.Forms.{unnamed_coef, coef_below, named_coef, eval_sum, signals, eval_parts, signals_none}

-- Sums modulo p

pub sum_congruent : (p n : ℕ) (f g : ℕ → ℕ) → ((s : ℕ) → s < n → Congruent p (f s) (g s)) → Congruent p (sum n f) (sum n g)
unfolding sum
sum_congruent p zero f g h = congruent_refl p 0
sum_congruent p (suc n) f g h =
    congruent_plus (h 0 (omega arith)) (sum_congruent p n (λ s. f (suc s)) (λ s. g (suc s)) (λ s l. h (suc s) (omega arith)))

-- an equation with one unknown u: with d the inverse of c, c·u + f = 0 is solved by r = -d·f
pub solve : {p c d u r : ℕ} (f : ℕ) → IsInverse p c d → Congruent p (f + c * u) 0 → Congruent p (r + d * f) 0 → Congruent p u r
solve {p} {d = d} {u = u} f inverted equation result =
    congruent_shift _ _
    (congruent_plus (congruent_times (congruent_sym inverted.one) (congruent_refl p u))
    (congruent_plus (congruent_times equation (congruent_refl p d)) (congruent_sym result)))
    (omega arith)

pub opposite_scaled : {p : ℕ} (x d : ℕ) → 0 < p → Congruent p (opposite p x * d % p + d * x) 0
opposite_scaled {p} x d h =
    congruent_shift _ _ (congruent_plus (congruent_mod p (opposite p x * d)) (congruent_times (opposite_plus x h) (congruent_refl p d)))
    (omega arith)

-- a number from 1 to p - 1 is not 0 modulo p
pub nonzero_mod : {p : ℕ} (c : ℕ) → c < p → (c ≡ 0 → ⊥) → c % p ≡ 0 → ⊥
nonzero_mod c h d e = d (sym (mod-eq_of_lt h) ∙ e)

-- nor is the coefficient of a signal that a form names
pub named_nonzero : {n p least : ℕ} {f : Form} → 0 < p → Rises n p least f → (s : ℕ) → names f s ≡ true → coef f s % p ≡ 0 → ⊥
named_nonzero {f = f} h r s e = nonzero_mod (coef f s) (coef_below h r s) (λ (z : coef f s ≡ 0). omega (arith, named_coef r s e))

-- What a rule may know of a run: values below p and within the bounds, and the constraint satisfied
pub record Fulfils (n p : ℕ) (K : Constraint) (b v : ℕ → ℕ) : Type 0 where
  pub one : v 0 ≡ 1
  pub below : (s : ℕ) → 1 ≤ s → s ≤ n → v s < p
  pub bounded : (s : ℕ) → 1 ≤ s → s ≤ n → v s ≤ b s
  pub satisfies : Satisfies p K v

-- The form

pub reduced_below : (p : ℕ) (K : Constraint) (s : ℕ) → 0 < p → reduced p K s < p
unfolding reduced
reduced_below p K s h = mod-lt _ h

pub occurs_yes : (p : ℕ) (K : Constraint) (s : ℕ) → occurs (reduced p K) s ≡ true → reduced p K s ≡ 0 → ⊥
unfolding occurs
occurs_yes p K s e = eqb-false (reduced p K s) 0 (not-true _ e)

pub occurs_no : (p : ℕ) (K : Constraint) (s : ℕ) → occurs (reduced p K) s ≡ false → reduced p K s ≡ 0
unfolding occurs
occurs_no p K s e = eqb-true (reduced p K s) 0 (not-false _ e)

pub occurs_nonzero : {p : ℕ} (K : Constraint) (s : ℕ) → 0 < p → occurs (reduced p K) s ≡ true → reduced p K s % p ≡ 0 → ⊥
occurs_nonzero {p} K s h e = nonzero_mod (reduced p K s) (reduced_below p K s h) (occurs_yes p K s e)

-- a0·b0 at the constant
abbrev constants : Constraint → ℕ
constants K = coef K.a 0 * coef K.b 0

-- the reduced form, with its negative parts on the other side
reduced_at : (p : ℕ) (K : Constraint) (s : ℕ) → 0 < p
    → Congruent p (reduced p K s + constant (constants K) s + coef K.c s)
    (coef K.a 0 * coef K.b s + coef K.b 0 * coef K.a s)
unfolding reduced
reduced_at p K s h =
    let positive = coef K.a 0 * coef K.b s + coef K.b 0 * coef K.a s in
    congruent_shift _ _
    (congruent_plus (congruent_mod p (positive + opposite p (constant (constants K) s) + opposite p (coef K.c s)))
    (congruent_plus (opposite_plus (constant (constants K) s) h) (opposite_plus (coef K.c s) h)))
    (omega arith)

constant_sum : (n x : ℕ) (v : ℕ → ℕ) → v 0 ≡ 1 → sum (suc n) (λ s. constant x s * v s) ≡ x
unfolding constant
constant_sum n x v one =
    sum_first n (λ s. constant x s * v s)
    ∙ omega (arith, ap (λ (k : ℕ). x * k) one, sum_zeros n (λ s. 0 * v (suc s)) (λ s l. omega arith))

module _ {n p : ℕ} {K : Constraint} (W : WellFormedConstraint n p K) (h : 0 < p) (v : ℕ → ℕ) (one : v 0 ≡ 1) where
  left_side :
      sum (suc n) (λ s. (reduced p K s + constant (constants K) s + coef K.c s) * v s)
      ≡ sum (suc n) (λ s. reduced p K s * v s) + constants K + eval K.c v
  left_side =
      sum_cong (suc n) _ (λ s. reduced p K s * v s + (constant (constants K) s * v s + coef K.c s * v s)) (λ s l. omega arith)
      ∙ sum_plus (suc n) (λ s. reduced p K s * v s) (λ s. constant (constants K) s * v s + coef K.c s * v s)
      ∙ omega (
        arith,
        sum_plus (suc n) (λ s. constant (constants K) s * v s) (λ s. coef K.c s * v s),
        constant_sum n (constants K) v one,
        eval_sum W.rises_c v,
      )

  right_side :
      sum (suc n) (λ s. (coef K.a 0 * coef K.b s + coef K.b 0 * coef K.a s) * v s)
      ≡ coef K.a 0 * eval K.b v + coef K.b 0 * eval K.a v
  right_side =
      sum_cong (suc n) _ (λ s. coef K.a 0 * (coef K.b s * v s) + coef K.b 0 * (coef K.a s * v s)) (λ s l. omega arith)
      ∙ sum_plus (suc n) (λ s. coef K.a 0 * (coef K.b s * v s)) (λ s. coef K.b 0 * (coef K.a s * v s))
      ∙ omega (
        arith,
        sum_scale (suc n) (coef K.a 0) (λ s. coef K.b s * v s),
        sum_scale (suc n) (coef K.b 0) (λ s. coef K.a s * v s),
        ap (λ (k : ℕ). coef K.a 0 * k) (eval_sum W.rises_b v),
        ap (λ (k : ℕ). coef K.b 0 * k) (eval_sum W.rises_a v),
      )

  -- the law of the reduced form, linear or not: A-as-B - C = form + A'·B', where A' and B' are the parts without constants
  whole_product :
      coef K.a 0 * eval K.b v + coef K.b 0 * eval K.a v + signals n K.a v * signals n K.b v
      ≡ eval K.a v * eval K.b v + constants K
  whole_product = rw (eval_parts W.rises_a v one, eval_parts W.rises_b v one) (omega arith)

  pub reduced_value :
      Congruent p (sum (suc n) (λ s. reduced p K s * v s) + eval K.c v + signals n K.a v * signals n K.b v) (eval K.a v * eval K.b v)
  reduced_value =
      congruent_shift _ _
      (sum_congruent p (suc n) (λ s. (reduced p K s + constant (constants K) s + coef K.c s) * v s) _
      (λ s l. congruent_times (reduced_at p K s h) (congruent_refl p (v s))))
      (omega (arith, left_side, right_side, whole_product))

  -- of a linear constraint
  module _ (e : linear K ≡ true) where
    no_product : signals n K.a v * signals n K.b v ≡ 0
    unfolding linear
    no_product =
        or_cases (names_none K.a) (names_none K.b) e (λ i. none_times _ _ (signals_none n K.a v i))
        (λ i. ap (λ (k : ℕ). signals n K.a v * k) (signals_none n K.b v i) ∙ omega arith)

    pub reduced_zero : Satisfies p K v → Congruent p (sum (suc n) (λ s. reduced p K s * v s)) 0
    reduced_zero sat = congruent_shift _ _ (congruent_trans reduced_value sat) (omega (arith, no_product))

-- a signal that no form names does not occur
pub reduced_unnamed : (p : ℕ) (K : Constraint) (s : ℕ) → 0 < p
    → names K.a (suc s) ≡ false → names K.b (suc s) ≡ false → names K.c (suc s) ≡ false → reduced p K (suc s) ≡ 0
unfolding constant
reduced_unnamed p K s h a b c =
    congruent_below (reduced_below p K (suc s) h) h
    (congruent_shift _ _ (reduced_at p K (suc s) h)
    (omega (
      arith,
      ap (λ (k : ℕ). coef K.a 0 * k) (unnamed_coef K.b (suc s) b),
      ap (λ (k : ℕ). coef K.b 0 * k) (unnamed_coef K.a (suc s) a),
      unnamed_coef K.c (suc s) c,
    )))
