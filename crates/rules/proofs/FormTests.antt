-- Tests on the forms of a constraint as the code asks them: what a form names, linear, root, product and quotient, a form's one term, and the roots.
use Prim.Native.Nat.{ℕ, ◌+◌, ◌-◌, ◌*◌, ◌%◌, ◌<◌}
use mathlib.Core.Path.{◌≡◌, refl, sym, ap, ◌∙◌}
use mathlib.Core.Bool.{Bool, true, false, not, ◌&&◌, ◌||◌, or_self}
use mathlib.Core.List.{[], ◌∷◌}
use native.Mathlib.Nat.{zero-add, zero-mod, mul-zero, mod-mod}
use native.Mathlib.Omega.{arith}
use lib.Dec.{eqb}
use Rattle.std.specs.Prelude.{None, Some}
use Rattle.std.specs.Option.{option_eq}
use Rattle.std.specs.Cmp.{both_ways}
use borrow.Author.Tests.{le-ltb, eqb-true, eqb-false, ne_eqb, not-true}
use Rattle.field.specs.Residue.{opposite}
use Rattle.field.specs.Inverse.{inverse}
use Rattle.circuit.specs.Circuit.{Form, Constraint, coef, names}
use Rattle.laws.specs.Rules.{names_none, linear, is_zero, names_only, root, others_marked, product_met, single, divisor, divides, quotient_met}
use Rattle.laws.proofs.Sum.{and_left, and_right, and_both, or_cases, and-true, or_left, or_right, or_false, true_or_false, by_test}
use Rattle.laws.proofs.QuotientRule.{QuotientMet, quotient_met_lem, quotient_met_from}
use Rattle.rules.specs.View.{mark_in}
use Rattle.rules.specs.Steps.{sole}

-- where nothing is marked, the signals but t are marked if none but t is named
pub unmarked_only : (t : ℕ) (f : Form) → others_marked (mark_in []) t f ≡ names_only t f
unfolding others_marked names_only mark_in
unmarked_only t [] = refl
unmarked_only t (x ∷ f) = rw (or_false (eqb x.signal 0 || eqb x.signal t), unmarked_only t f)

-- .. and all but the constant, if no signal is named
pub unmarked_none : (f : Form) → others_marked (mark_in []) 0 f ≡ names_none f
unfolding others_marked names_none mark_in
unmarked_none [] = refl
unmarked_none (x ∷ f) = rw (or_false (eqb x.signal 0 || eqb x.signal 0), or_self (eqb x.signal 0), unmarked_none f)

-- a form has no terms if it names neither the constant nor a signal
pub unmarked_zero : (f : Form) → (not (names f 0) && others_marked (mark_in []) 0 f) ≡ is_zero f
unfolding is_zero names others_marked mark_in
unmarked_zero [] = refl
unmarked_zero (x ∷ f) = rw (or_false (eqb x.signal 0 || eqb x.signal 0), or_self (eqb x.signal 0)) (go (eqb x.signal 0) (names f 0) (others_marked (mark_in []) 0 f))
  where
    go : (a b c : Bool) → (not (a || b) && (a && c)) ≡ false
    go true b c = refl
    go false true c = refl
    go false false c = refl

-- the product rule, form by form
pub product_is : (K : Constraint) (m : ℕ → Bool) (t : ℕ)
    → product_met K m t
    ≡ (not (linear K) && (names K.c t && others_marked m t K.c)
    && (not (names K.a t) && others_marked m t K.a) && (not (names K.b t) && others_marked m t K.b))
unfolding product_met
product_is K m t =
    go (linear K) (names K.a t) (names K.b t) (names K.c t) (others_marked m t K.a) (others_marked m t K.b) (others_marked m t K.c)
  where
    go : (l a b c x y z : Bool) → (not l && (c && not a && not b) && (x && y && z)) ≡ (not l && (c && z) && (not a && x) && (not b && y))
    go true a b c x y z = refl
    go false a b false x y z = refl
    go false true b true x y true = refl
    go false true b true x y false = refl
    go false false true true true y true = refl
    go false false true true false y true = refl
    go false false true true x y false = refl
    go false false false true true true true = refl
    go false false false true true true false = refl
    go false false false true true false true = refl
    go false false false true true false false = refl
    go false false false true false y true = refl
    go false false false true false y false = refl

-- the quotient rule, form by form: where a form is a single term on r, which is marked, its other signals are
single_marked : (m : ℕ → Bool) (t r : ℕ) (f : Form) → m r ≡ true → single r f ≡ true → others_marked m t f ≡ true
unfolding single is_zero others_marked
single_marked m t r [] i e = cc
single_marked m t r (x ∷ []) i e =
    let on : x.signal ≡ r = eqb-true x.signal r (and_left (eqb x.signal r) true e) in
    and_both _ true (or_right (eqb x.signal 0 || eqb x.signal t) (m x.signal) (ap m on ∙ i)) refl
single_marked m t r (x ∷ y ∷ f) i e = true_or_false false (and_right (eqb x.signal r) false e) refl

module _ (K : Constraint) (m z : ℕ → Bool) (t r : ℕ) where
  abbrev by_divisor : Form → Form → Bool
  by_divisor f g = single r f && (names g t && others_marked m t g)

  abbrev as_asked : Bool
  as_asked = divisor m z t r && (by_divisor K.a K.b || by_divisor K.b K.a) && (not (names K.c t) && others_marked m t K.c)

  asked_from : QuotientMet K m z t r → as_asked ≡ true
  unfolding divides divisor
  asked_from M =
      and_both _ _
      (and_both _ _ (and_both _ _ (and_both _ _ M.marked M.nonzero) (ap not (ne_eqb r t M.apart)))
      (or_cases (single r K.a && names K.b t) (single r K.b && names K.a t) M.divided
      (λ i. or_left _ _ (and_both _ _ (and_left (single r K.a) _ i) (and_both _ _ (and_right (single r K.a) _ i) M.marked_b)))
      (λ i. or_right (by_divisor K.a K.b) _ (and_both _ _ (and_left (single r K.b) _ i) (and_both _ _ (and_right (single r K.b) _ i) M.marked_a)))))
      (and_both _ _ (ap not M.not_in_c) M.marked_c)

  -- .. and back, where the forms are known
  met_from : as_asked ≡ true → divides K.a K.b t r ≡ true → others_marked m t K.a ≡ true
      → others_marked m t K.b ≡ true → QuotientMet K m z t r
  unfolding divisor
  met_from e v a b =
      let d = and_left (divisor m z t r) _ (and_left (divisor m z t r && (by_divisor K.a K.b || by_divisor K.b K.a)) _ e) in
      let out = and_right (divisor m z t r && (by_divisor K.a K.b || by_divisor K.b K.a)) _ e in
      record {
        marked = and_left (m r) (z r) (and_left (m r && z r) _ d);
        nonzero = and_right (m r) (z r) (and_left (m r && z r) _ d);
        apart = eqb-false r t (not-true _ (and_right (m r && z r) _ d));
        divided = v;
        not_in_c = not-true _ (and_left _ (others_marked m t K.c) out);
        marked_a = a;
        marked_b = b;
        marked_c = and_right (not (names K.c t)) _ out;
      }

  asked_says : as_asked ≡ true → QuotientMet K m z t r
  unfolding divides divisor
  asked_says e =
      let first = and_left (divisor m z t r && (by_divisor K.a K.b || by_divisor K.b K.a)) _ e in
      let marked : m r ≡ true = and_left (m r) (z r) (and_left (m r && z r) _ (and_left (divisor m z t r) _ first)) in
      or_cases (by_divisor K.a K.b) (by_divisor K.b K.a) (and_right (divisor m z t r) _ first)
      (λ i.
      let one = and_left (single r K.a) _ i in
      let other = and_right (single r K.a) _ i in
      met_from e (or_left _ _ (and_both _ _ one (and_left (names K.b t) _ other))) (single_marked m t r K.a marked one) (and_right (names K.b t) _ other))
      (λ i.
      let one = and_left (single r K.b) _ i in
      let other = and_right (single r K.b) _ i in
      met_from e (or_right (single r K.a && names K.b t) _ (and_both _ _ one (and_left (names K.a t) _ other))) (and_right (names K.a t) _ other)
      (single_marked m t r K.b marked one))

  pub quotient_is : quotient_met K m z t r ≡ as_asked
  quotient_is = both_ways _ as_asked (λ e. asked_from (quotient_met_lem K m z t r e)) (λ e. quotient_met_from (asked_says e))

-- the signal of a form's one term
pub sole_single : (s : ℕ) (f : Form) → single s f ≡ option_eq eqb (sole f) (Some s)
unfolding single is_zero sole
sole_single s [] = refl
sole_single s (x ∷ []) = and-true (eqb x.signal s)
sole_single s (x ∷ y ∷ f) = by_test (eqb x.signal s) (λ e. rw e refl) (λ e. rw e refl)

pub sole_none : (f : Form) → None ≡ sole f → (s : ℕ) → single s f ≡ false
sole_none f e s = sole_single s f ∙ rw (sym e) refl

pub sole_some : (f : Form) (t : ℕ) → Some t ≡ sole f → (s : ℕ) → single s f ≡ eqb t s
sole_some f t e s = sole_single s f ∙ rw (sym e) refl

-- Roots

-- modulo 0 and 1 no inverse is found
inverse_small : (p c : ℕ) → p < 2 → 0 ≡ inverse p c
unfolding inverse
inverse_small p c h = rw (le-ltb 1 p (omega arith))

pub root_small : (p : ℕ) (f : Form) (t : ℕ) → p < 2 → 0 ≡ root p f t
unfolding root
root_small p f t h = rw (sym (inverse_small p (coef f t) h), mul-zero, zero-mod)

pub inverse_residue : (p c : ℕ) → inverse p (c % p) ≡ inverse p c
unfolding inverse
inverse_residue p c = rw (mod-mod c p)

pub root_made : (p : ℕ) (f : Form) (t c d scale r : ℕ) → c ≡ coef f 0 % p → d ≡ coef f t % p → scale ≡ inverse p d
    → r ≡ (0 + (p - c) * scale) % p → r ≡ root p f t
unfolding root opposite
root_made p f t c d scale r c-is d-is scale-is r-is = r-is ∙ rw (zero-add, scale-is, d-is, inverse_residue p (coef f t), c-is)
