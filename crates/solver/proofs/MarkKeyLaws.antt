-- The first step by which a constraint marks an unmarked signal, as a key: loose and exact, and while the marks of its signals stay.
use Prim.Native.Nat.{ℕ, zero, suc, ◌+◌, ◌≤◌, ◌<◌}
use mathlib.Core.Path.{◌≡◌, refl, sym, ap, ◌∙◌}
use mathlib.Core.Bool.{Bool, true, false, not, ◌&&◌, ◌||◌}
use mathlib.Core.Logic.{inl, inr, ⊎_elim}
use native.Mathlib.Numerals.{add-one}
use native.Mathlib.Omega.{arith}
use lib.Dec.{eqb}
use borrow.Author.Tests.{eqb-true, eq-eqb, not-true}
use Rattle.circuit.specs.Circuit.{Constraint, Form, WellFormedConstraint, names}
use Rattle.circuit.specs.Runs.{first_from, found}
use Rattle.laws.specs.Rules.{linear, reduced, occurs, zero_met, others_marked, product_met, live, separated, digits_met, single, quotient_met}
use Rattle.laws.specs.Step.{Kind, Zero, Product, Digits, Quotient, kind_number}
use Rattle.laws.proofs.KindLaws.{number_is}
use Rattle.laws.proofs.Sum.{and_left, and_right, and_both, or_left, or_right, true_or_false, false_by, by_equal, by_order}
use Rattle.laws.proofs.Forms.{others_at, others_from, single_names, single_only}
use Rattle.laws.proofs.ProductRule.{product_met_lem}
use Rattle.laws.proofs.QuotientRule.{quotient_met_lem, quotient_met_from}
use Rattle.laws.proofs.DigitsRule.{DigitsMet, digits_met_lem, live_yes}
use Rattle.laws.proofs.Monotone.{digits_met_from}
use Rattle.rules.specs.Rows.{involves, forms_of}
use Rattle.rules.specs.declared.rows.Entry.{Entry}
use Rattle.rules.specs.Weights.{LowestLive, FirstReference}
use Rattle.std.specs.Prelude.{Option, None, Some}
use Rattle.solver.specs.Search.{Lone, LoneEntry, SomeLone, factor, SomeDivisor}
use Rattle.solver.specs.Bounds.{key_of, no_key}
use Rattle.solver.specs.Marks.{Unmarked, MarksBy, product, digits, quotient, MarksZero, zero_at, First, mark_key, FirstKey, Loose, Known, loose, exact, reference_in}
use Rattle.solver.specs.Marks as marks
use Rattle.solver.proofs.KeyLaws.{occurs_involves}
use Rattle.solver.proofs.Choice.{key_number, kind_small}
use Rattle.solver.proofs.LoneLaws.{
  one_involved,
  product_four,
  product_lone,
  quotient_lone,
  quotient_names,
  quotient_factor,
  quotient_not_four,
  quotient_nonlinear,
  factor_within,
  lone_met,
  lone_divided,
}

-- Keys of any steps

no_step : {Q : Kind → ℕ → ℕ → Type 0} → ((q : Kind) (t r : ℕ) → Q q t r → ⊥) → FirstKey Q no_key 0
no_step h = record { low = λ q t r M. absurd (h q t r M); held = inl refl }

pub key_map : {Q Q' : Kind → ℕ → ℕ → Type 0} {key reference : ℕ} → ((q : Kind) (t r : ℕ) → Q q t r → Q' q t r)
    → ((q : Kind) (t r : ℕ) → Q' q t r → Q q t r) → FirstKey Q key reference → FirstKey Q' key reference
key_map f g F =
    record {
      low = λ q t r M. F.low q t r (g q t r M);
      held = ⊎_elim inl (λ H. inr (record { kind = H.kind; target = H.target; is = f _ _ _ H.is; is_key = H.is_key })) F.held;
    }

key_order : (q : Kind) (t u : ℕ) → t ≤ u → mark_key q t ≤ mark_key q u
unfolding key_of
key_order q t u h = omega arith

-- The zero steps

-- none of the signals 1 to s passes
pub record Passed (test : ℕ → Bool) (s : ℕ) : Type 0 where
  pub fails : (u : ℕ) → 1 ≤ u → u ≤ s → test u ≡ false

counted_start : (test : ℕ → Bool) {s : ℕ} → s ≡ 0 → Passed test s
counted_start test z = record { fails = λ u l h. absurd (omega arith) }

module _ {test : ℕ → Bool} {s : ℕ} (Q : Passed test s) where
  counted_on : {t : ℕ} → t ≡ s + 1 → test t ≡ false → Passed test t
  counted_on {t} n e = record { fails = λ u l h. by_equal u t (λ z. rw z e) (λ d. Q.fails u l (omega arith)) }

  past : (u : ℕ) → 1 ≤ u → test u ≡ true → s < u
  past u l e = by_order s u (λ h. h) (λ h. true_or_false _ e (Q.fails u l h))

  counted_found : {n t : ℕ} → t ≡ s + 1 → t ≤ n → test t ≡ true → First test n (Some t)
  counted_found z h e = (omega arith, h, e, λ u l i. omega (arith, past u l i))

  counted_none : {n : ℕ} → n ≤ s → First test n None
  counted_none h u l g e = omega (arith, past u l e)

-- what a search from k on finds, where the numbers before k fail, is the first that passes
module _ (test : ℕ → Bool) (n : ℕ) where
  unfoldable pub failing : ℕ → Bool
  failing s = not (test s)

  first_is_from : (s left : ℕ) → Passed test s → n ≡ s + left → First test n (found (first_from failing (s + 1) left))
  unfolding first_from failing
  first_is_from s zero Q e = counted_none Q (omega (arith, e))
  first_is_from s (suc left) Q e = go (test (s + 1)) refl (λ y. first_is_from (s + 1) left (counted_on Q refl y) (omega (arith, e)))
    where
      go : (b : Bool) → test (s + 1) ≡ b → (test (s + 1) ≡ false → First test n (found (first_from failing (s + 1 + 1) left)))
          → First test n (found (first_from failing (s + 1) (suc left)))
      go true y later =
          let one : s + 1 ≡ suc s = omega arith in
          let here : first_from failing (s + 1) (suc left) ≡ suc s = rw y one in
          rw here (counted_found Q (sym one) (omega (arith, e)) (rw (sym one) y))
      go false y later = rw (y, ← add-one (s + 1)) (later y)

  pub first_is : {r : Option ℕ} → r ≡ found (first_from failing 1 n) → First test n r
  first_is e = rw e (first_is_from 0 n (counted_start test refl) (omega arith))

module _ (b : ℕ → ℕ) (m : ℕ → Bool) (s : ℕ) where
  pub zero_yes : b s ≡ 0 → m s ≡ false → zero_at b m s ≡ true
  unfolding zero_at zero_met
  zero_yes e f = and_both _ _ (eq-eqb (b s) 0 e) (ap not f)

  pub zero_marked : m s ≡ true → zero_at b m s ≡ false
  unfolding zero_at
  zero_marked f = false_by _ (λ e. true_or_false _ f (not-true _ (and_right (zero_met b s) _ e)))

  pub zero_bound : (b s ≡ 0 → ⊥) → zero_at b m s ≡ false
  unfolding zero_at zero_met
  zero_bound d = false_by _ (λ e. d (eqb-true (b s) 0 (and_left _ (not (m s)) e)))

module _ {n : ℕ} {b : ℕ → ℕ} {m : ℕ → Bool} where
  pub zero_none : First (zero_at b m) n None → FirstKey (MarksZero n b m) no_key 0
  unfolding zero_at
  zero_none F = no_step none
    where
      none : (q : Kind) (u r : ℕ) → MarksZero n b m q u r → ⊥
      none q u r (marks.zero U e) = F u U.least U.most (and_both _ _ e (ap not U.free))

  pub zero_some : {t : ℕ} → First (zero_at b m) n (Some t) → {key : ℕ} → key ≡ mark_key Zero t → FirstKey (MarksZero n b m) key 0
  unfolding zero_at
  zero_some {t} F {key} e =
      record {
        low = λ q u r M. let z = zero_low M in (rw (e, z.0) (key_order Zero t u z.1), λ k. omega arith);
        held = inr (record {
          kind = Zero;
          target = t;
          is =
              marks.zero {t = t} (record { least = F.0; most = F.1; free = not-true _ (and_right (zero_met b t) _ F.2) })
              (and_left _ (not (m t)) F.2);
          is_key = e;
        });
      }
    where
      zero_low : {q : Kind} {u r : ℕ} → MarksZero n b m q u r → (q ≡ Zero) × (t ≤ u)
      zero_low (marks.zero U e) = (refl, F.3 _ U.least (and_both _ _ e (ap not U.free)))

-- The digits rule

digits_separated : (p n : ℕ) (K : Constraint) (b : ℕ → ℕ) (m : ℕ → Bool) (t r : ℕ) → digits_met p n K b m t r ≡ true → separated p n (reduced p K) b m r ≡ true
unfolding digits_met
digits_separated p n K b m t r e = and_right (linear K && (occurs (reduced p K) t && occurs (reduced p K) r)) _ e

live_occurs : (R : ℕ → ℕ) (m : ℕ → Bool) (s : ℕ) → live R m s ≡ true → occurs R s ≡ true
unfolding live
live_occurs R m zero e = true_or_false false e refl
live_occurs R m (suc s) e = and_left _ _ e

live_free : (R : ℕ → ℕ) (m : ℕ → Bool) (s : ℕ) → live R m s ≡ true → m s ≡ false
unfolding live
live_free R m zero e = true_or_false false e refl
live_free R m (suc s) e = not-true _ (and_right (occurs R (suc s)) _ e)

record ByDigits (p n : ℕ) (K : Constraint) (b : ℕ → ℕ) (m : ℕ → Bool) (q : Kind) (u r : ℕ) : Type 0 where
  is : q ≡ Digits
  unmarked : Unmarked m n u
  met : DigitsMet p n K b m u r
  separates : separated p n (reduced p K) b m r ≡ true
  least : 1 ≤ r
  most : r ≤ n

lone_unmarked : {p n : ℕ} {K : Constraint} {m : ℕ → Bool} {x : Entry} → LoneEntry p n K m x → Unmarked m n x.signal
lone_unmarked A = record { least = A.least; most = A.most; free = A.free }

-- One constraint

module _ {p n : ℕ} {K : Constraint} {b : ℕ → ℕ} {m nz : ℕ → Bool} where
  -- not linear: a product or a quotient at the lone signal
  module _ (nonlinear : linear K ≡ false) where
    lone_by : {q : Kind} {u r : ℕ} → MarksBy p n K b m nz q u r → Unmarked m n u × Lone K m u
    lone_by (digits N l h e) = true_or_false _ (digits_met_lem p n K b m _ _ e).is_linear nonlinear
    lone_by (product N e) = (N, product_lone K m _ e)
    lone_by (quotient N l h e) = (N, quotient_lone K m _ nz _ e)

    pub lone_none : SomeLone p n K m None → Known p n K b m nz no_key None
    lone_none A = exact (no_step (λ q u r M. let w = lone_by M in A u w.0.least w.0.most w.0.free w.1))

    module _ {x : Entry} (A : LoneEntry p n K m x) where
      same_target : {q : Kind} {u r : ℕ} → MarksBy p n K b m nz q u r → u ≡ x.signal
      same_target {u = u} M = let w = lone_by M in A.lone.others u w.0.least (one_involved K u w.1.by_one) w.0.free

      four_product : x.forms ≡ 4 → {q : Kind} {u r : ℕ} → MarksBy p n K b m nz q u r → q ≡ Product
      four_product f (product N e) = refl
      four_product f (digits N l h e) = true_or_false _ (digits_met_lem p n K b m _ _ e).is_linear nonlinear
      four_product f {u = u} (quotient N l h e) =
          absurd (quotient_not_four K m u nz _ e (ap (forms_of K) (same_target (quotient N l h e)) ∙ sym A.forms ∙ f))

      pub lone_product : x.forms ≡ 4 → {key : ℕ} → key ≡ mark_key Product x.signal → Known p n K b m nz key None
      lone_product f is =
          exact
          (record {
            low = λ q u r M. (rw (is, four_product f M, same_target M) (omega arith), λ k. omega arith);
            held = inr (record { kind = Product; target = x.signal; is = product (lone_unmarked A) (lone_met A.lone (sym A.forms ∙ f) nonlinear); is_key = is });
          })

      -- the other factor
      module _ (d : x.forms ≡ 4 → ⊥) where
        divided : {q : Kind} {u r : ℕ} → MarksBy p n K b m nz q u r
            → (q ≡ Quotient) × (1 ≤ r) × (single r (factor x.forms K) ≡ true) × (nz r ≡ true)
        divided {u = u} (product N e) = absurd (d (A.forms ∙ sym (ap (forms_of K) (same_target (product N e))) ∙ product_four K m u e))
        divided (digits N l h e) = true_or_false _ (digits_met_lem p n K b m _ _ e).is_linear nonlinear
        divided {u = u} {r = r} (quotient N l h e) = (
          refl,
          l,
          ap (λ (k : ℕ). single r (factor k K)) (A.forms ∙ sym (ap (forms_of K) (same_target (quotient N l h e)))) ∙ quotient_factor K m u nz r e,
          (quotient_met_lem K m nz u r e).nonzero,
        )

        pub lone_undivided : SomeDivisor (factor x.forms K) nz None → Known p n K b m nz no_key None
        lone_undivided D = exact (no_step (λ q u r M. let w = divided M in D r w.1 w.2 w.3))

        pub lone_quotient : WellFormedConstraint n p K → {r : ℕ} → SomeDivisor (factor x.forms K) nz (Some r) → {key : ℕ} → key ≡ mark_key Quotient x.signal
            → Known p n K b m nz key (Some r)
        lone_quotient W {r} D is =
            exact
            (record {
              low = λ q u r' M.
                  let w = divided M in
                  let same : r' ≡ r = single_only r r' (factor x.forms K) D.1 (single_names r' (factor x.forms K) w.2) in
                  (rw (is, w.0, same_target M) (omega arith), λ k. omega (arith, same));
              held = inr (record {
                kind = Quotient;
                target = x.signal;
                is =
                    quotient {r = r} (lone_unmarked A) D.0 (factor_within W x.forms r (single_names r (factor x.forms K) D.1))
                    (lone_divided A.lone nz r (λ f. d (A.forms ∙ f)) D.0 (ap (λ (k : ℕ). single r (factor k K)) (sym A.forms) ∙ D.1) D.2);
                is_key = is;
              });
            })

  -- linear: digits at the lowest unmarked signal with a coefficient, by the lowest reference that separates
  module _ (is_linear : linear K ≡ true) where
    digits_only : {q : Kind} {u r : ℕ} → MarksBy p n K b m nz q u r → ByDigits p n K b m q u r
    digits_only {u = u} (product N e) = true_or_false _ is_linear (product_met_lem K m u e).not_linear
    digits_only {u = u} {r = r} (quotient N l h e) = true_or_false _ is_linear (quotient_nonlinear K m u nz r e N.least l)
    digits_only (digits N l h e) =
        record { is = refl; unmarked = N; met = digits_met_lem p n K b m _ _ e; separates = digits_separated p n K b m _ _ e; least = l; most = h }

    digits_live : {q : Kind} {u r : ℕ} → MarksBy p n K b m nz q u r → live (reduced p K) m u ≡ true
    digits_live M = let w = digits_only M in live_yes p K m _ w.unmarked.least w.met.has_target w.unmarked.free

    pub digits_none : ((s : ℕ) → 1 ≤ s → s ≤ n → live (reduced p K) m s ≡ false) → Known p n K b m nz no_key None
    digits_none F =
        exact (no_step (λ q u r M. let w = digits_only M in true_or_false _ (digits_live M) (F u w.unmarked.least w.unmarked.most)))

    pub digits_loose : {t : ℕ} → LowestLive n (reduced p K) m t → {key : ℕ} → key ≡ mark_key Digits t → Known p n K b m nz key None
    digits_loose {t} F e = loose refl (record { is_linear = is_linear; target = t; first = F; is_key = e })

  module _ {key : ℕ} (L : Loose p n K m key) where
    loose_low : {q : Kind} {u r : ℕ} → MarksBy p n K b m nz q u r → key ≤ mark_key q u
    loose_low {u = u} M =
        let w = digits_only L.is_linear M in
        rw (L.is_key, w.is)
        (key_order Digits L.target u (L.first.low u w.unmarked.least w.unmarked.most (digits_live L.is_linear M)))

    module _ {reference : ℕ} (F : FirstReference p n (reduced p K) b m reference) where
      pub loose_none : reference ≡ 0 → FirstKey (MarksBy p n K b m nz) no_key 0
      loose_none z =
          no_step
          (λ q u r M.
          let w = digits_only L.is_linear M in
          true_or_false _ w.separates (F.none z _ w.least w.most w.met.has_reference))

      pub loose_exact : (reference ≡ 0 → ⊥) → FirstKey (MarksBy p n K b m nz) key reference
      unfolding digits_met
      loose_exact d =
          let R = F.found (omega arith) in
          record {
            low = λ q u r M.
                let w = digits_only L.is_linear M in
                (loose_low M, λ k. by_order r reference (λ h. true_or_false _ w.separates (F.first r w.least h w.met.has_reference)) (λ h. h));
            held = inr (record {
              kind = Digits;
              target = L.target;
              is =
                  digits {r = reference} (record { least = L.first.least; most = L.first.most; free = live_free (reduced p K) m L.target L.first.is }) (omega arith) R.0
                  (and_both _ _ (and_both _ _ L.is_linear (and_both _ _ (live_occurs (reduced p K) m L.target L.first.is) R.1)) R.2);
              is_key = L.is_key;
            });
          }

  -- what is known

  pub known_low : {key : ℕ} {reference : Option ℕ} → Known p n K b m nz key reference → {q : Kind} {t r : ℕ} → MarksBy p n K b m nz q t r → key ≤ mark_key q t
  known_low (loose z L) M = loose_low L M
  known_low (exact F) M = (F.low _ _ _ M).0

  module _ {key : ℕ} {reference : Option ℕ} where
    loose_by : (x t : ℕ) → key ≡ key_of x t 5 → reference ≡ None → Known p n K b m nz key reference → Loose p n K m key
    unfolding key_of
    loose_by x t five z (loose e L) = L
    loose_by x t five z (exact F) = ⊎_elim (λ e. absurd (none e)) (λ H. absurd (held H.target (sym five ∙ H.is_key) (rw z refl) H.is)) F.held
      where
        none : key ≡ no_key → ⊥
        none e = omega arith

        held : {q : Kind} (u : ℕ) {r : ℕ} → key_of x t 5 ≡ mark_key q u → r ≡ 0 → MarksBy p n K b m nz q u r → ⊥
        held u k e (product N f) = omega (arith, key_number x t 5 0 u 4 (omega arith) (omega arith) k)
        held u k e (digits N l h f) = omega arith
        held u k e (quotient N l h f) = omega (arith, key_number x t 5 0 u 7 (omega arith) (omega arith) k)

    -- a digits step without a reference
    pub known_loose : (b' t' : ℕ) {k : Kind} → key ≡ key_of b' t' (kind_number k) → (k ≡ Digits) × (reference ≡ None)
        → Known p n K b m nz key reference → Loose p n K m key
    known_loose b' t' e d N = loose_by b' t' (e ∙ ap (λ (q : Kind). key_of b' t' (kind_number q)) d.0) d.1 N

    exact_by : (reference ≡ None → (t : ℕ) → key ≡ mark_key Digits t → ⊥) → Known p n K b m nz key reference
        → FirstKey (MarksBy p n K b m nz) key (reference_in reference)
    exact_by d (exact F) = F
    exact_by d (loose z L) = absurd (d z L.target L.is_key)

    pub known_exact : (b' t' : ℕ) {k : Kind} → key ≡ key_of b' t' (kind_number k) → ((k ≡ Digits) × (reference ≡ None) → ⊥)
        → Known p n K b m nz key reference → FirstKey (MarksBy p n K b m nz) key (reference_in reference)
    known_exact b' t' {k} e d N =
        exact_by (λ z t h. d (number_is (key_number b' t' (kind_number k) 0 t 5 (kind_small k) (omega arith) (sym e ∙ h)), z)) N

-- While the marks of the signals that the constraint names stay

abbrev Same : Constraint → (ℕ → Bool) → (ℕ → Bool) → Type 0
Same K m m' = (s : ℕ) → 1 ≤ s → involves K s ≡ true → m s ≡ m' s

module _ (p n : ℕ) (K : Constraint) (b : ℕ → ℕ) (positive : 0 < p) where
  module _ {m m' : ℕ → Bool} (same : Same K m m') where
    back : Same K m' m
    back s l e = sym (same s l e)

    others_kept : (t : ℕ) (f : Form) → ((s : ℕ) → names f s ≡ true → involves K s ≡ true) → others_marked m t f ≡ true → others_marked m' t f ≡ true
    others_kept t f inside e = others_from m' t f (λ s h. go s h (others_at m t f e s h))
      where
        go : (s : ℕ) → names f s ≡ true → (eqb s 0 || eqb s t || m s) ≡ true → (eqb s 0 || eqb s t || m' s) ≡ true
        go zero h g = refl
        go (suc s) h g = rw (← (same (suc s) (omega arith) (inside (suc s) h))) g

    all_kept : (t : ℕ) → others_marked m t K.a ≡ true → others_marked m t K.b ≡ true → others_marked m t K.c ≡ true
        → (others_marked m' t K.a && others_marked m' t K.b && others_marked m' t K.c) ≡ true
    unfolding involves
    all_kept t a b c =
        and_both _ _
        (and_both _ _ (others_kept t K.a (λ s h. or_left _ _ (or_left _ _ h)) a) (others_kept t K.b (λ s h. or_left _ _ (or_right (names K.a s) _ h)) b))
        (others_kept t K.c (λ s h. or_right (names K.a s || names K.b s) _ h) c)

    product_kept : (t : ℕ) → product_met K m t ≡ true → product_met K m' t ≡ true
    unfolding product_met
    product_kept t e =
        let X = product_met_lem K m t e in
        let stands = names K.c t && not (names K.a t) && not (names K.b t) in
        and_both _ _ (and_left (not (linear K) && stands) _ e)
        (all_kept t X.marked_a X.marked_b X.marked_c)

    quotient_kept : (nz : ℕ → Bool) (t r : ℕ) → 1 ≤ r → quotient_met K m nz t r ≡ true → quotient_met K m' nz t r ≡ true
    quotient_kept nz t r l e =
        let X = quotient_met_lem K m nz t r e in
        let all = all_kept t X.marked_a X.marked_b X.marked_c in
        quotient_met_from
        (record {
          marked = sym (same r l (quotient_names K m t nz r e)) ∙ X.marked;
          nonzero = X.nonzero;
          apart = X.apart;
          divided = X.divided;
          not_in_c = X.not_in_c;
          marked_a = and_left _ _ (and_left _ _ all);
          marked_b = and_right (others_marked m' t K.a) _ (and_left _ _ all);
          marked_c = and_right (others_marked m' t K.a && others_marked m' t K.b) _ all;
        })

    live_kept : (s : ℕ) → live (reduced p K) m s ≡ true → live (reduced p K) m' s ≡ true
    unfolding live
    live_kept zero e = e
    live_kept (suc s) e =
        rw (← (same (suc s) (omega arith) (occurs_involves p K (suc s) positive (omega arith) (and_left _ _ e)))) e

    free_kept : {t : ℕ} → Unmarked m n t → involves K t ≡ true → Unmarked m' n t
    free_kept {t} U e = record { least = U.least; most = U.most; free = sym (same t U.least e) ∙ U.free }

  module _ {m m' nz : ℕ → Bool} (same : Same K m m') where
    marks_kept : {q : Kind} {t r : ℕ} → MarksBy p n K b m nz q t r → MarksBy p n K b m' nz q t r
    unfolding involves
    marks_kept {t = t} (product U e) =
        product (free_kept same U (or_right (names K.a t || names K.b t) _ (product_met_lem K m t e).in_c)) (product_kept same t e)
    marks_kept {t = t} {r = r} (digits U l h e) =
        digits (free_kept same U (occurs_involves p K t positive U.least (digits_met_lem p n K b m t r e).has_target)) l h
        (digits_met_from p K b b m m' (λ s. omega arith) (live_kept (back same)) n t r e)
    marks_kept {t = t} {r = r} (quotient U l h e) =
        quotient (free_kept same U (one_involved K t (quotient_lone K m t nz r e).by_one)) l h (quotient_kept same nz t r l e)

  module _ {m m' nz : ℕ → Bool} (same : Same K m m') where
    pub known_kept : {key : ℕ} {reference : Option ℕ} → Known p n K b m nz key reference → Known p n K b m' nz key reference
    known_kept (exact F) = exact (key_map (λ q t r M. marks_kept same M) (λ q t r M. marks_kept (back same) M) F)
    known_kept (loose z L) =
        loose z
        (record {
          is_linear = L.is_linear;
          target = L.target;
          first =
              record {
                least = L.first.least;
                most = L.first.most;
                is = live_kept same L.target L.first.is;
                low = λ s l h e. L.first.low s l h (live_kept (back same) s e);
              };
          is_key = L.is_key;
        })
