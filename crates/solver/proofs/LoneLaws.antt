-- Where a constraint isn't linear, what a product or a quotient step says of its target: it is lone. And the step that a lone signal has.
use Prim.Native.Nat.{ℕ, zero, suc, ◌+◌, ◌≤◌}
use mathlib.Core.Path.{◌≡◌, refl, sym, ap, ◌∙◌}
use mathlib.Core.Bool.{Bool, true, false, not, ◌&&◌, ◌||◌}
use native.Mathlib.Omega.{arith}
use lib.Dec.{eqb}
use borrow.Author.Tests.{eq-eqb, eqb-true}
use Rattle.circuit.specs.Circuit.{Form, Constraint, WellFormedConstraint, names}
use Rattle.laws.specs.Sum.{keep}
use Rattle.laws.specs.Rules.{names_none, linear, others_marked, product_met, single, divides, quotient_met}
use Rattle.laws.proofs.Sum.{and_left, and_right, and_both, or_left, or_right, or_cases, or_neither, true_or_false, true_by, false_by, by_test}
use Rattle.laws.proofs.Forms.{none_at, others_at, others_from, single_names, single_only}
use Rattle.laws.proofs.ProductRule.{product_met_lem}
use Rattle.laws.proofs.QuotientRule.{QuotientMet, quotient_met_lem, quotient_met_from}
use Rattle.rules.specs.Rows.{involves, forms_of}
use Rattle.solver.specs.Search.{one_form, Lone, factor}
use Rattle.solver.proofs.KeyWays.{named_within}

-- The forms that name a signal

-- which they are where one alone does
pub record Bits (a b c : Bool) (forms : ℕ) : Type 0 where
  pub in_a : forms ≡ 1 → (a ≡ true) × (b ≡ false) × (c ≡ false)
  pub in_b : forms ≡ 2 → (a ≡ false) × (b ≡ true) × (c ≡ false)
  pub in_c : forms ≡ 4 → (a ≡ false) × (b ≡ false) × (c ≡ true)

no : {A : Type 0} (x y : ℕ) → eqb x y ≡ false → x ≡ y → A
no x y e h = true_or_false _ (eq-eqb x y h) e

bits : (a b c : Bool) → Bits a b c (keep a 1 + keep b 2 + keep c 4)
unfolding keep
bits true true true = record { in_a = no 7 1 refl; in_b = no 7 2 refl; in_c = no 7 4 refl }
bits true true false = record { in_a = no 3 1 refl; in_b = no 3 2 refl; in_c = no 3 4 refl }
bits true false true = record { in_a = no 5 1 refl; in_b = no 5 2 refl; in_c = no 5 4 refl }
bits true false false = record { in_a = λ e. (refl, refl, refl); in_b = no 1 2 refl; in_c = no 1 4 refl }
bits false true true = record { in_a = no 6 1 refl; in_b = no 6 2 refl; in_c = no 6 4 refl }
bits false true false = record { in_a = no 2 1 refl; in_b = λ e. (refl, refl, refl); in_c = no 2 4 refl }
bits false false true = record { in_a = no 4 1 refl; in_b = no 4 2 refl; in_c = λ e. (refl, refl, refl) }
bits false false false = record { in_a = no 0 1 refl; in_b = no 0 2 refl; in_c = no 0 4 refl }

pub by_form : {A : Type 0} (forms : ℕ) → one_form forms ≡ true → (forms ≡ 1 → A) → (forms ≡ 2 → A) → (forms ≡ 4 → A) → A
unfolding one_form
by_form forms e f g h =
    or_cases (eqb forms 1 || eqb forms 2) (eqb forms 4) e
    (λ i. or_cases (eqb forms 1) (eqb forms 2) i (λ j. f (eqb-true forms 1 j)) (λ j. g (eqb-true forms 2 j)))
    (λ i. h (eqb-true forms 4 i))

module _ (K : Constraint) (s : ℕ) where
  pub form_bits : Bits (names K.a s) (names K.b s) (names K.c s) (forms_of K s)
  unfolding forms_of
  form_bits = bits (names K.a s) (names K.b s) (names K.c s)

  -- a signal that one form names is named
  pub one_involved : one_form (forms_of K s) ≡ true → involves K s ≡ true
  unfolding involves
  one_involved e =
      by_form (forms_of K s) e (λ f. or_left _ (names K.c s) (or_left _ (names K.b s) (form_bits.in_a f).0))
      (λ f. or_left _ (names K.c s) (or_right (names K.a s) _ (form_bits.in_b f).1))
      (λ f. or_right (names K.a s || names K.b s) _ (form_bits.in_c f).2)

-- A step says that its target is lone

module _ (K : Constraint) (m : ℕ → Bool) (u : ℕ) where
  -- no other signal that is named is unmarked
  only_free : others_marked m u K.a ≡ true → others_marked m u K.b ≡ true → others_marked m u K.c ≡ true
      → (s : ℕ) → 1 ≤ s → involves K s ≡ true → m s ≡ false → s ≡ u
  unfolding involves
  only_free a b c s l i free =
      or_cases (names K.a s || names K.b s) (names K.c s) i (λ h. or_cases (names K.a s) (names K.b s) h (there K.a a) (there K.b b)) (there K.c c)
    where
      there : (f : Form) → others_marked m u f ≡ true → names f s ≡ true → s ≡ u
      there f g h =
          or_cases (eqb s 0 || eqb s u) (m s) (others_at m u f g s h)
          (λ q. or_cases (eqb s 0) (eqb s u) q (λ z. absurd (omega (arith, eqb-true s 0 z))) (λ z. eqb-true s u z))
          (λ q. true_or_false _ q free)

  module _ (e : product_met K m u ≡ true) where
    pub product_four : forms_of K u ≡ 4
    unfolding forms_of keep
    product_four = let X = product_met_lem K m u e in rw (X.in_c, X.not_in_a, X.not_in_b) refl

    pub product_lone : Lone K m u
    unfolding one_form
    product_lone =
        let X = product_met_lem K m u e in
        record { others = only_free X.marked_a X.marked_b X.marked_c; by_one = rw product_four refl }

  module _ (nz : ℕ → Bool) (r : ℕ) (e : quotient_met K m nz u r ≡ true) where
    X : QuotientMet K m nz u r
    X = quotient_met_lem K m nz u r e

    not_beside : (f : Form) → single r f ≡ true → names f u ≡ false
    not_beside f i = false_by _ (λ h. X.apart (sym (single_only r u f i h)))

    -- its target is in the other factor alone
    pub quotient_forms : {A : Type 0} → (forms_of K u ≡ 2 → single r K.a ≡ true → names K.b u ≡ true → A)
        → (forms_of K u ≡ 1 → single r K.b ≡ true → names K.a u ≡ true → A) → A
    unfolding forms_of keep divides
    quotient_forms f g =
        or_cases (single r K.a && names K.b u) (single r K.b && names K.a u) X.divided
        (λ i.
        let one = and_left (single r K.a) _ i in
        let named = and_right (single r K.a) _ i in
        f (rw (not_beside K.a one, named, X.not_in_c) refl) one named)
        (λ i.
        let one = and_left (single r K.b) _ i in
        let named = and_right (single r K.b) _ i in
        g (rw (not_beside K.b one, named, X.not_in_c) refl) one named)

    pub quotient_lone : Lone K m u
    unfolding one_form
    quotient_lone =
        record {
          others = only_free X.marked_a X.marked_b X.marked_c;
          by_one = quotient_forms (λ f one named. rw f refl) (λ f one named. rw f refl);
        }

    pub quotient_factor : single r (factor (forms_of K u) K) ≡ true
    unfolding factor
    quotient_factor = quotient_forms (λ f one named. rw f one) (λ f one named. rw f one)

    pub quotient_names : involves K r ≡ true
    unfolding involves
    quotient_names =
        quotient_forms (λ f one named. or_left _ (names K.c r) (or_left _ (names K.b r) (single_names r K.a one)))
        (λ f one named. or_left _ (names K.c r) (or_right (names K.a r) _ (single_names r K.b one)))

    -- C doesn't name it, and neither factor is a constant
    pub quotient_not_four : forms_of K u ≡ 4 → ⊥
    quotient_not_four h = quotient_forms (λ f one named. omega arith) (λ f one named. omega arith)

    pub quotient_nonlinear : 1 ≤ u → 1 ≤ r → linear K ≡ false
    unfolding linear
    quotient_nonlinear l lr =
        quotient_forms (λ f one named. or_neither _ _ (names_one K.a r lr (single_names r K.a one)) (names_one K.b u l named))
        (λ f one named. or_neither _ _ (names_one K.a u l named) (names_one K.b r lr (single_names r K.b one)))
      where
        names_one : (f : Form) (s : ℕ) → 1 ≤ s → names f s ≡ true → names_none f ≡ false
        names_one f s l h = false_by _ (λ z. absurd (omega (arith, none_at f z s h)))

-- a factor's signals are at most n
pub factor_within : {n p : ℕ} {K : Constraint} → WellFormedConstraint n p K → (forms s : ℕ) → names (factor forms K) s ≡ true → s ≤ n
unfolding factor
factor_within {K = K} W forms s h =
    by_test (eqb forms 2) (λ e. named_within W.rises_a s (rw e at h)) (λ e. named_within W.rises_b s (rw e at h))

-- A lone signal has a step

module _ {K : Constraint} {m : ℕ → Bool} {t : ℕ} (L : Lone K m t) where
  others : (f : Form) → ((s : ℕ) → names f s ≡ true → involves K s ≡ true) → others_marked m t f ≡ true
  others f named = others_from m t f go
    where
      go : (s : ℕ) → names f s ≡ true → (eqb s 0 || eqb s t || m s) ≡ true
      go zero h = refl
      go (suc s) h =
          by_test (m (suc s)) (λ q. or_right (eqb (suc s) 0 || eqb (suc s) t) _ q)
          (λ q. or_left _ (m (suc s)) (or_right (eqb (suc s) 0) _ (eq-eqb (suc s) t (L.others (suc s) (omega arith) (named (suc s) h) q))))

  all_others : (others_marked m t K.a && others_marked m t K.b && others_marked m t K.c) ≡ true
  unfolding involves
  all_others =
      and_both _ _
      (and_both _ _ (others K.a (λ s h. or_left _ _ (or_left _ _ h))) (others K.b (λ s h. or_left _ _ (or_right (names K.a s) _ h))))
      (others K.c (λ s h. or_right (names K.a s || names K.b s) _ h))

  pub lone_met : forms_of K t ≡ 4 → linear K ≡ false → product_met K m t ≡ true
  unfolding product_met
  lone_met f nonlinear =
      let w = (form_bits K t).in_c f in
      and_both _ _ (and_both _ _ (ap not nonlinear) (and_both _ _ (and_both _ _ w.2 (ap not w.0)) (ap not w.1))) all_others

  pub lone_divided : (nz : ℕ → Bool) (r : ℕ) → (forms_of K t ≡ 4 → ⊥) → 1 ≤ r → single r (factor (forms_of K t) K) ≡ true → nz r ≡ true
      → quotient_met K m nz t r ≡ true
  unfolding factor divides involves
  lone_divided nz r d l i e =
      by_form (forms_of K t) L.by_one
      (λ f.
      let w = (form_bits K t).in_a f in
      let one : single r K.b ≡ true = rw f at i in
      met w.2 (or_right (single r K.a && names K.b t) _ (and_both _ _ one w.0)) (named_apart K.b one w.1)
      (or_left _ (names K.c r) (or_right (names K.a r) _ (single_names r K.b one))))
      (λ f.
      let w = (form_bits K t).in_b f in
      let one : single r K.a ≡ true = rw f at i in
      met w.2 (or_left _ _ (and_both _ _ one w.1)) (named_apart K.a one w.0) (or_left _ (names K.c r) (or_left _ (names K.b r) (single_names r K.a one))))
      (λ f. absurd (d f))
    where
      named_apart : (f : Form) → single r f ≡ true → names f t ≡ false → r ≡ t → ⊥
      named_apart f one out q = true_or_false _ (ap (names f) (sym q) ∙ single_names r f one) out

      met : names K.c t ≡ false → divides K.a K.b t r ≡ true → (r ≡ t → ⊥) → involves K r ≡ true → quotient_met K m nz t r ≡ true
      met out v apart named =
          quotient_met_from
          (record {
            marked = true_by (m r) (λ free. apart (L.others r l named free));
            nonzero = e;
            apart = apart;
            divided = v;
            not_in_c = out;
            marked_a = and_left _ _ (and_left _ _ all_others);
            marked_b = and_right (others_marked m t K.a) _ (and_left _ _ all_others);
            marked_c = and_right (others_marked m t K.a && others_marked m t K.b) _ all_others;
          })
