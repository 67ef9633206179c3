-- Sums by a row are those by the constraint's reduced form: signals and their places, the sum for a target, the bound that a step gives,
-- and the one sum that lowers a bound.
use Prim.Native.Nat.{ℕ, zero, suc, ◌≤◌, ◌<◌}
use mathlib.Core.Path.{◌≡◌, refl, sym, ap, ◌∙◌}
use mathlib.Core.Bool.{Bool, true, false, cond}
use mathlib.Core.List.{List}
use Rattle.std.specs.Prelude.{Option, None, Some, nat_eq, position}
use Rattle.std.specs.List.{position_or_len}
use Rattle.std.proofs.lemmas.List.Sums.{fails_before_first}
use Rattle.std.proofs.lemmas.List.Quantifiers.{position-Some}
use Rattle.rules.specs.declared.rows.Entry.{Entry}
use Rattle.rules.specs.declared.sums.Lowering.{Lowering}
use native.Mathlib.Omega.{arith}
use lib.Dec.{eqb}
use lib.ListN.{length}
use borrow.Author.Tests.{eq-eqb, ne_eqb, lt-ltb, eqb-true, ltb-false}
use Rattle.field.specs.Prime.{Prime}
use Rattle.circuit.specs.Circuit.{Constraint}
use Rattle.laws.specs.Sum.{sum}
use Rattle.laws.specs.Rules.{linear, reduced, occurs, ceiling, sum_weight, sum_term, sum_bound, sum_met}
use Rattle.laws.proofs.Sum.{and_both, by_equal, by_order, true_by, false_by, true_or_false}
use Rattle.laws.proofs.Reduced.{occurs_yes, occurs_no}
use Rattle.laws.proofs.SumRule.{sum_met_lem}
use Rattle.laws.proofs.Maximum.{strict_maximum}
use Rattle.rules.specs.View.{bound_in}
use Rattle.rules.specs.Rows.{entries, entry_at, nothing, rank, stands, signal_on, coef_on, bound_on, Row}
use Rattle.rules.specs.Steps.{sum_step, OneSum, Target, Highest, Total, Summed}
use Rattle.rules.proofs.Ranks.{rank_zero, rank_grows, rank_below, sum_rank}
use Rattle.rules.proofs.RowLaws.{uninvolved, constant_stands, rank_distinct, entries_are, row_entry}
use Rattle.rules.proofs.SumLaws.{term_absent, ceiling_signal}
use Rattle.rules.proofs.Outcomes.{none_given}

-- Places

abbrev signal_is : ℕ → Entry → Bool
signal_is t x = nat_eq x.signal t

-- t stands nowhere
pub place_none : (row : List Entry) (t : ℕ) → position (signal_is t) row ≡ None → (i : ℕ) → i < entries row → signal_on row i ≡ t → ⊥
unfolding signal_on entry_at
place_none row t none i h e =
    let past = ltb-false (position_or_len (signal_is t) row) (length row) (none_given _ _ (sym none)) in
    true_or_false _ (eq-eqb (entry_at row i).signal t e) (fails_before_first (signal_is t) row i nothing (omega arith))

-- t stands at place e
pub place_some : (row : List Entry) (t e : ℕ) → position (signal_is t) row ≡ Some e → (e < entries row) × (signal_on row e ≡ t)
unfolding signal_on entry_at
place_some row t e some =
    let found = position-Some (signal_is t) row e nothing some in
    (found.0, eqb-true (entry_at row e).signal t found.1)

-- The bound that a step gives

given_none : {A : Type 0} (b : Bool) (x : A) → b ≡ false → None ≡ cond b (Some x) None
given_none b x e = rw e refl

given_some : {A : Type 0} (b : Bool) (x y : A) → b ≡ true → x ≡ y → Some x ≡ cond b (Some y) None
given_some b x y e q = rw (e, q) refl

-- a constraint that isn't linear
pub step_crooked : (p n : ℕ) (K : Constraint) (b : ℕ → ℕ) (t : ℕ) → linear K ≡ false → None ≡ sum_step p n K b t
unfolding sum_met
step_crooked p n K b t e = given_none _ _ (rw e refl)

sum_meets : (p n : ℕ) (K : Constraint) (b : ℕ → ℕ) (t : ℕ) → linear K ≡ true → occurs (reduced p K) t ≡ true
    → sum_bound p n (reduced p K) b t < p → sum_met p n K b t ≡ true
unfolding sum_met
sum_meets p n K b t i o h = and_both _ _ (and_both _ _ i o) (lt-ltb _ _ h)

-- Signals and places

-- the signal of a target's place
record Signal (p n : ℕ) (K : Constraint) (i s : ℕ) : Type 0 where
  least : 1 ≤ s
  most : s ≤ n
  standing : stands K s ≡ true
  present : occurs (reduced p K) s ≡ true
  place : rank (stands K) s ≡ i

module _ {p n : ℕ} {K : Constraint} {row : List Entry} (P : Prime p) (L : Row p n K row) (bounds : List ℕ) where
  abbrev R : ℕ → ℕ
  R = reduced p K

  abbrev b : ℕ → ℕ
  b = bound_in p bounds

  abbrev R' : ℕ → ℕ
  R' = coef_on row

  abbrev b' : ℕ → ℕ
  b' = bound_on p bounds row

  abbrev place : ℕ → ℕ
  place = rank (stands K)

  target_signal : (i : ℕ) → Target R' (entries row) i → Signal p n K i (signal_on row i)
  target_signal i T =
      let E = row_entry L i T.before in
      record {
        least =
            by_order 0 (signal_on row i) (λ l. l) (λ l. absurd (omega (arith, T.least, E.place, rank_zero (stands K), rank_grows (stands K) _ 0 l)));
        most = E.within;
        standing = E.standing;
        present = true_by _ (λ z. T.present (E.coef ∙ occurs_no p K _ z));
        place = E.place;
      }

  module _ (t : ℕ) (l : 1 ≤ t) (m : t ≤ n) (o : occurs R t ≡ true) where
    named : stands K t ≡ true
    named = true_by _ (λ e. occurs_yes p K t o (uninvolved p K t (omega (arith, P.above)) e))

    signal_target : Target R' (entries row) (place t)
    signal_target =
        record {
          least = omega (arith, rank_zero (stands K), rank_below (stands K) 0 t (omega arith) (constant_stands K));
          before = omega (arith, entries_are L, rank_below (stands K) t (suc n) (omega arith) named);
          present = λ z. occurs_yes p K t o (sym (L.coef t m named) ∙ z);
        }

    -- a sum that lowers its bound
    highest_at : sum_bound p n R b t < b t → Highest R' b' (entries row) (place t)
    unfolding bound_on
    highest_at less =
        let same : b' (place t) ≡ b t = ap b (L.signal t m named) in
        record { target = signal_target; positive = omega arith; above = λ i T d. rw same (above i (target_signal i T) d) }
      where
        above : (i : ℕ) → Signal p n K i (signal_on row i) → (i ≡ place t → ⊥) → b (signal_on row i) < b t
        above i S d =
            strict_maximum P n K b t o less (signal_on row i) S.present S.least S.most (λ q. d (sym S.place ∙ ap place q))

  -- The sum for a target
  module _ (i : ℕ) (T : Target R' (entries row) i) where
    abbrev t : ℕ
    t = signal_on row i

    S : Signal p n K i t
    S = target_signal i T

    test_same : (u : ℕ) → stands K u ≡ true → eqb u t ≡ eqb (place u) i
    test_same u e =
        by_equal u t (λ q. eq-eqb u t q ∙ sym (eq-eqb (place u) i (ap place q ∙ S.place)))
        (λ d. ne_eqb u t d ∙ sym (ne_eqb (place u) i (λ z. d (rank_distinct (stands K) u t e S.standing (z ∙ sym S.place)))))

    ceiling_same : (u : ℕ) → u ≤ n → stands K u ≡ true → ceiling b u ≡ ceiling b' (place u)
    unfolding ceiling bound_on
    ceiling_same zero h e = ap (ceiling b') (sym (rank_zero (stands K)))
    ceiling_same (suc u) h e =
        ap b (sym (L.signal (suc u) h e))
        ∙ sym (ceiling_signal b' (place (suc u))
        (λ (z : place (suc u) ≡ 0). omega (arith, rank_below (stands K) 0 (suc u) (omega arith) (constant_stands K))))

    term_same : (u : ℕ) → u ≤ n → stands K u ≡ true → sum_term p R b t u ≡ sum_term p R' b' i (place u)
    unfolding sum_term sum_weight
    term_same u h e =
        let target : R' i ≡ R t = rw S.place at (L.coef t S.most S.standing) in
        rw (test_same u e, ceiling_same u h e, L.coef u h e, target)

    sum_same : sum (entries row) (sum_term p R' b' i) ≡ sum_bound p n R b t
    unfolding sum_bound
    sum_same =
        ap (λ (k : ℕ). sum k (sum_term p R' b' i)) (entries_are L)
        ∙ sym (sum_rank (stands K) (suc n) (sum_term p R b t) (sum_term p R' b' i) (λ u h. term_same u (omega arith))
        (λ u h e. term_absent p R b t u (uninvolved p K u (omega (arith, P.above)) e)))

    sum_is : {limit x : ℕ} → Total p R' b' (entries row) i limit x → x ≡ sum_bound p n R b t
    sum_is F = F.is ∙ sum_same

    sum_over : {limit : ℕ} → (0 < p → Target R' (entries row) i → limit ≤ sum (entries row) (sum_term p R' b' i)) → limit ≤ sum_bound p n R b t
    sum_over h = omega (arith, sum_same, h (omega (arith, P.above)) T)

  -- The bound that a step gives
  module _ {t : ℕ} (is_linear : linear K ≡ true) (l : 1 ≤ t) (m : t ≤ n) where
    unmet : (occurs R t ≡ true → sum_bound p n R b t < p → ⊥) → None ≡ sum_step p n K b t
    unmet d =
        given_none _ _
        (false_by _ (λ g. let M = sum_met_lem p n K b t g in d M.has_target M.below))

    pub step_absent : position (signal_is t) row ≡ None → None ≡ sum_step p n K b t
    step_absent none =
        unmet (λ o h. place_none row t none (place t) (signal_target t l m o).before (L.signal t m (named t l m o)))

    module _ {e : ℕ} (before : e < entries row) (signal : signal_on row e ≡ t) where
      target_there : occurs R t ≡ true → Target R' (entries row) e
      target_there o =
          let placed : e ≡ place t = sym (row_entry L e before).place ∙ ap place signal in
          rw placed (signal_target t l m o)

      -- t stands at place e
      pub step_is : (x : Option ℕ) → Summed p R' b' (entries row) e p x → x ≡ sum_step p n K b t
      step_is None h = unmet (λ o below. omega (arith, rw signal at (sum_over e (target_there o) h)))
      step_is (Some x) F =
          let is : x ≡ sum_bound p n R b t = rw signal at (sum_is e F.target F) in
          let present : occurs R t ≡ true = rw signal at (target_signal e F.target).present in
          given_some _ _ _ (sum_meets p n K b t is_linear present (omega (arith, F.below))) is

  -- The one sum that lowers a bound
  module _ (low : (s : ℕ) → b s < p) where
    -- such a sum is that of the place with the highest bound
    module _ (t : ℕ) (l : 1 ≤ t) (m : t ≤ n) (o : occurs R t ≡ true) (less : sum_bound p n R b t < b t) where
      signal_there : signal_on row (place t) ≡ t
      signal_there = L.signal t m (named t l m o)

      pub lowers_highest : {found : Option ℕ} → ((e : ℕ) → Highest R' b' (entries row) e → b' e < p → found ≡ Some e) → found ≡ Some (place t)
      unfolding bound_on
      lowers_highest H = H (place t) (highest_at t l m o less) (low _)

    pub lowering_none : ((e : ℕ) → Highest R' b' (entries row) e → b' e < p → None ≡ Some e) → OneSum p n R b None
    lowering_none H =
        record { only = λ t l m o below less. absurd (none_some _ (lowers_highest t l m o less H)); held = tt }
      where
        none_some : (e : ℕ) → None ≡ Some e → ⊥
        none_some e q = cc

    module _ {found : ℕ} (H : (e : ℕ) → Highest R' b' (entries row) e → b' e < p → Some found ≡ Some e) where
      there : (t : ℕ) → 1 ≤ t → t ≤ n → occurs R t ≡ true → sum_bound p n R b t < b t → found ≡ place t
      there t l m o less = same _ _ (lowers_highest t l m o less H)
        where
          same : (x y : ℕ) → Some x ≡ Some y → x ≡ y
          same x y q = cc

      pub lowering_over : {limit : ℕ} → b (signal_on row found) ≤ limit
          → (0 < p → Target R' (entries row) found → limit ≤ sum (entries row) (sum_term p R' b' found)) → OneSum p n R b None
      lowering_over {limit} least h =
          record {
            only = λ t l m o below less. absurd (omega (arith, over t l m o less));
            held = tt;
          }
        where
          over : (t : ℕ) → 1 ≤ t → t ≤ n → occurs R t ≡ true → sum_bound p n R b t < b t → b t ≤ sum_bound p n R b t
          over t l m o less =
              let q = there t l m o less in
              let signal : signal_on row found ≡ t = rw q (signal_there t l m o less) in
              let T : Target R' (entries row) found = rw q (signal_target t l m o) in
              omega (arith, rw signal at least, rw signal at (sum_over found T h))

      pub lowering_found : {limit x : ℕ} → limit ≤ b (signal_on row found) → Total p R' b' (entries row) found limit x
          → OneSum p n R b (Some (record { target = signal_on row found; bound = x }))
      lowering_found {limit} {x} most F =
          let S = target_signal found F.target in
          let is = sum_is found F.target F in
          record {
            only = λ t l m o below less. only t (rw (there t l m o less) (signal_there t l m o less));
            held = record {
              least = S.least;
              most = S.most;
              present = S.present;
              is = sym is;
              below = omega (arith, F.below, low (signal_on row found));
              lower = omega (arith, F.below);
            };
          }
        where
          given_by : ℕ → ℕ → Option Lowering
          given_by target bound = Some (record { target = target; bound = bound })

          only : (t : ℕ) → signal_on row found ≡ t
              → given_by (signal_on row found) x ≡ given_by t (sum_bound p n R b t)
          only t signal = rw signal (ap (given_by t) (rw signal at (sum_is found F.target F)))
