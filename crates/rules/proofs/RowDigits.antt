-- The digits rule by a row: its places stand for the signals, and what the code has shown of them says whether a reference separates.
use Prim.Native.Nat.{ℕ, zero, suc, ◌+◌, ◌*◌, ◌%◌, ◌≤◌, ◌<◌}
use mathlib.Core.Path.{◌≡◌, refl, sym, ap, ◌∙◌}
use mathlib.Core.Bool.{Bool, true, false, not, and-false}
use mathlib.Core.List.{List, map}
use lib.ListN.{length, take}
use Rattle.std.specs.Prelude.{Option, None, Some}
use Rattle.std.specs.List.{list_all, find, filter, position_or_len}
use Rattle.std.specs.List as list
use Rattle.std.specs.Option.{option_map, option_map_or}
use Rattle.std.proofs.lemmas.List.{take_all}
use Rattle.std.proofs.lemmas.List.Folds.{find_at}
use Rattle.std.proofs.lemmas.List.Sums.{fails_before_first, passes_at_first}
use Rattle.std.proofs.lemmas.Option.{slice_get-get_or, slice_get_past}
use native.Mathlib.Nat.{mod-lt}
use native.Mathlib.Omega.{arith}
use lib.Dec.{eqb, ltb}
use borrow.Author.Count.{below_more}
use borrow.Author.Tests.{eq-eqb, eqb-true}
use Rattle.field.specs.Prime.{Prime}
use Rattle.field.specs.Inverse.{inverse}
use Rattle.circuit.specs.Circuit.{Constraint}
use Rattle.laws.specs.Sum.{sum, keep}
use Rattle.laws.specs.Rules.{linear, reduced, occurs, live, separated, digits_met}
use Rattle.laws.proofs.Sum.{and_left, and_right, and_both, by_test, by_order, true_or_false, true_by, false_by}
use Rattle.laws.proofs.Reduced.{reduced_below, occurs_yes, occurs_no, occurs_nonzero}
use Rattle.rules.specs.View.{coef_in, bound_in, mark_in}
use Rattle.rules.specs.Rows.{entries, entry_at, nothing, rank, stands, signal_on, coef_on, bound_on, Row}
use Rattle.rules.specs.Live.{is_live, live_on, live_bound, bounds_on, Differ}
use Rattle.rules.specs.Added.{below, scaled, form_terms, weight_by, share, terms, is_digit, digits_of, Holds}
use Rattle.rules.specs.Weights.{Gathers, Hopeless, Prepared, smaller, smaller_at, exceeds}
use Rattle.rules.specs.Weights.{Tells, FirstReference, FirstLive, LowestLive}
use Rattle.rules.specs.declared.rows.Entry.{Entry}
use Rattle.rules.specs.declared.added.DigitTerms.{DigitTerms}
use Rattle.rules.specs.declared.gathered.Few.{Few}
use Rattle.rules.specs.declared.gathered.Weighed.{Weighed}
use Rattle.rules.proofs.Ranks.{rank_zero, rank_passed, rank_failed, rank_below}
use Rattle.rules.proofs.RowLaws.{uninvolved, entries_are, row_entry, row_first, row_rising}
use Rattle.rules.proofs.WeightLaws.{live_entry, live_least, live_some, live_absent, weight_back, weight_some, differ_two}
use Rattle.rules.proofs.AddedLaws.{mapped_yes, mapped_no, terms_yes, terms_no, sum_filtered, length_filtered, pair_filtered}
use Rattle.rules.proofs.DigitsLaws.{all_is, total_sum, separated_by, separated_by_lem, parts, by_places, total_over, bounds_over, many_over, stands_end}

live_here : (marks : List Bool) (row : List Entry) (i : ℕ) → live_on marks row i ≡ is_live marks (entry_at row i)
unfolding live_on
live_here marks row i = refl

module _ {p n : ℕ} {K : Constraint} {row : List Entry} (L : Row p n K row) where
  pub live_at : (marks : List Bool) (s : ℕ) → s ≤ n → stands K s ≡ true
      → live (reduced p K) (mark_in marks) s ≡ live_on marks row (rank (stands K) s)
  unfolding live_on signal_on coef_on
  live_at marks s h e = live_entry (reduced p K) marks s _ (L.signal s h e) (L.coef s h e)

  pub live_off : (m : ℕ → Bool) (s : ℕ) → 0 < p → stands K s ≡ false → live (reduced p K) m s ≡ false
  live_off m s pos e = live_absent _ _ s (uninvolved p K s pos e)

  -- the numbers of the form's signals are those of the row's entries
  module _ (pos : 0 < p) (bounds : List ℕ) (marks : List Bool) (scale : ℕ) where
    abbrev number : ℕ → ℕ
    number s = scaled p (reduced p K) scale s * bound_in p bounds s

    abbrev unmarked_one : ℕ → Bool
    unmarked_one = live (reduced p K) (mark_in marks)

    share_is : (s : ℕ) → s ≤ n → stands K s ≡ true → share p bounds scale (entry_at row (rank (stands K) s)) ≡ number s
    unfolding share weight_by scaled signal_on coef_on
    share_is s h e = rw (L.signal s h e, L.coef s h e) refl

    numbers_before : (k : ℕ) → k ≤ suc n
        → terms p bounds marks scale (take (rank (stands K) k) row) ≡ map number (filter unmarked_one (below k))
    unfolding below terms
    numbers_before zero h = rw (rank_zero (stands K)) refl
    numbers_before (suc k) h =
        let lower = numbers_before k (omega arith) in
        by_test (stands K k)
        (λ e.
        let i = rank (stands K) k in
        let room : i < length row = omega (arith, entries_are L, rank_below (stands K) k (suc n) (omega arith) e) in
        let on : rank (stands K) (suc k) ≡ i + 1 = omega (arith, rank_passed (stands K) k e) in
        let same : unmarked_one k ≡ is_live marks (entry_at row i) = rw (live_at marks k (omega arith) e) (live_here marks row i) in
        by_test (unmarked_one k)
        (λ g.
        rw on
        (terms_yes p bounds marks scale row i room (sym same ∙ g)
        ∙ rw (lower, share_is k (omega arith) e) (sym (mapped_yes unmarked_one number (below k) k g))))
        (λ g. rw on (terms_no p bounds marks scale row i room (sym same ∙ g) ∙ lower ∙ sym (mapped_no unmarked_one number (below k) k g))))
        (λ e.
        rw (rank_failed (stands K) k e) (lower ∙ sym (mapped_no unmarked_one number (below k) k (live_off (mark_in marks) k pos e))))

    pub numbers_are : terms p bounds marks scale row ≡ form_terms p n (reduced p K) (bound_in p bounds) (mark_in marks) scale
    unfolding form_terms
    numbers_are = ap (terms p bounds marks scale) (sym (take_all _ row (omega (arith, entries_are L)))) ∙ numbers_before (suc n) (omega arith)

  module _ (P : Prime p) (bounds : List ℕ) (marks : List Bool) (r : ℕ) (er : occurs (reduced p K) r ≡ true)
      (scale : ℕ) (scale-is : scale ≡ inverse p (reduced p K r)) where
    abbrev R : ℕ → ℕ
    R = coef_on row

    abbrev Q : ℕ → Bool
    Q = live_on marks row

    abbrev B : ℕ → ℕ
    B = bound_on p bounds row

    abbrev answer : Bool
    answer = separated p n (reduced p K) (bound_in p bounds) (mark_in marks) r

    above : 0 < p
    above = omega (arith, P.above)

    -- the rule over the places of the row
    answer_is : answer ≡ separated_by p (entries row) Q (scaled p R scale) B
    unfolding scaled bound_on
    answer_is =
        separated_by_lem p n (reduced p K) (bound_in p bounds) (mark_in marks) r scale scale-is
        ∙ by_places p (suc n) (stands K) _ Q _ (scaled p R scale) _ B (λ s l. live_off (mark_in marks) s above)
        (λ s l e. record {
          test = live_at marks s (omega arith) e;
          weight = ap (λ (c : ℕ). c * scale % p) (sym (L.coef s (omega arith) e));
          bound = ap (bound_in p bounds) (sym (L.signal s (omega arith) e));
        })
        ∙ ap (λ (e : ℕ). separated_by p e Q (scaled p R scale) B) (sym (entries_are L))

    coef_below : (i : ℕ) → i < entries row → R i < p
    coef_below i h = let E = row_entry L i h in rw E.coef (reduced_below p K _ above)

    reference : reduced p K r % p ≡ 0 → ⊥
    reference = occurs_nonzero K r above er

    -- weights differ as coefficients do
    weights_differ : Differ R Q (entries row) → (s u : ℕ) → s < entries row → u < entries row → Q s ≡ true → Q u ≡ true → (s ≡ u → ⊥)
        → scaled p R scale s ≡ scaled p R scale u → ⊥
    unfolding scaled
    weights_differ D s u l h e g d same =
        differ_two R Q (entries row) s u D l h e g d
        (weight_back p (reduced p K r) (R s) (R u) P reference (coef_below s l) (coef_below u h) (rw scale-is at same))

    pub fails_crowded : p ≤ sum (entries row) (bounds_on p bounds marks row) → answer ≡ false
    unfolding bounds_on live_bound live_on bound_on signal_on scaled
    fails_crowded h =
        answer_is
        ∙ bounds_over p (entries row) Q (scaled p R scale) B
        (λ u l e. rw scale-is (weight_some p (reduced p K r) (R u) P reference (coef_below u l) (live_some marks row u e))) h

    pub fails_alike : (Differ R Q (entries row) → ⊥) → answer ≡ false
    unfolding scaled
    fails_alike d =
        false_by _
        (λ e.
        let W = parts p (entries row) Q (scaled p R scale) B (sym answer_is ∙ e) in
        d (record {
          alone = λ s l i.
              record { apart = λ u h j same. W.differ u s (omega arith) l j i (λ z. omega arith) (ap (λ (c : ℕ). c * scale % p) same) };
        }))

    pub fails_many : p < 4294967296 → 32 ≤ length (digits_of p bounds marks row) → answer ≡ false
    unfolding live_bound live_on bound_on signal_on scaled digits_of is_digit entry_at
    fails_many fits many =
        answer_is
        ∙ many_over p (entries row) Q (scaled p R scale) B fits (λ s. mod-lt _ above)
        (omega (arith, many, length_filtered (is_digit p bounds marks) nothing row))

    total_is : list.sum (terms p bounds marks scale row) ≡ total_sum (entries row) Q (scaled p R scale) B
    unfolding live_on bound_on signal_on coef_on scaled terms share weight_by entry_at
    total_is = sum_filtered (is_live marks) nothing (share p bounds scale) row

    pub fails_total : p ≤ list.sum (terms p bounds marks scale row) → answer ≡ false
    fails_total h = answer_is ∙ total_over p (entries row) Q (scaled p R scale) B (omega (arith, h, total_is))

    -- by what was kept of the digits
    module _ (count : ℕ) (room : DigitTerms) (G : Holds p bounds scale (digits_of p bounds marks row) count room) (few : count ≤ 31) where
      low : ℕ → ℕ
      low x = sum (length (take count room.weights)) (smaller_at (coef_in (take count room.weights)) (coef_in (take count room.products)) x)

      low_is : (x : ℕ) → sum (entries row) (λ u. keep (ltb 0 (keep (Q u) (B u))) (smaller (scaled p R scale u) (scaled p R scale u * B u) x)) ≡ low x
      unfolding low live_bound live_on bound_on signal_on coef_on scaled digits_of is_digit entry_at share weight_by smaller_at coef_in
      low_is x =
          rw (G.weighed few, G.multiplied few)
          (sym (sum_filtered (is_digit p bounds marks) nothing (λ e. smaller (weight_by p scale e) (share p bounds scale e) x) row)
          ∙ sym (pair_filtered (is_digit p bounds marks) (weight_by p scale) (share p bounds scale) (λ a b. smaller a b x) row))

      pub stand_end : Differ R Q (entries row) → list.sum (terms p bounds marks scale row) < p → (weighed : Weighed)
          → weighed.weights.now ≡ take count room.weights → weighed.products.now ≡ take count room.products → weighed.scale ≡ scale → weighed.p ≡ p
          → list_all (exceeds weighed marks) row ≡ answer
      unfolding exceeds low live_on scaled weight_by coef_on entry_at
      stand_end D short weighed by_weights by_products by_scale modulo =
          all_is (exceeds weighed marks) row nothing
          ∙ rw (by_weights, by_products, by_scale, modulo)
          (stands_end p (entries row) Q (scaled p R scale) B low low_is (omega (arith, short, total_is)) (weights_differ D))
          ∙ sym answer_is

-- What the code says of a row

module _ (p : ℕ) (row : List Entry) (bounds : List ℕ) (marks : List Bool) where
  hopeless_many : p < 4294967296 → 32 ≤ length (digits_of p bounds marks row) → Hopeless p row bounds marks
  hopeless_many fits many = record { fails = λ n K P L r er. fails_many L P bounds marks r er _ refl fits many }

  -- what is gathered where coefficients differ
  pub prepared : p < 4294967296 → Differ (coef_on row) (live_on marks row) (entries row) → (x : Option Few) → Gathers p row bounds marks x
      → Prepared p row bounds marks x
  prepared fits D None M = hopeless_many fits M
  prepared fits D (Some few) G = record { differ = D; gathered = G }

-- Walks along a row

module _ {p n : ℕ} {K : Constraint} {row : List Entry} (L : Row p n K row) where
  -- what holds of the entries passed and of signals off the row holds of all signals, or of those before an entry
  module _ (Q : ℕ → Type 0) (off : (u : ℕ) → stands K u ≡ false → Q u) where
    pub row_before : (i u : ℕ) → i < entries row → ((j : ℕ) → j < i → Q (signal_on row j)) → u < signal_on row i → Q u
    row_before i u h passed l =
        by_test (stands K u)
        (λ e.
        let E = row_entry L i h in
        let place : rank (stands K) u < i = omega (arith, rank_below (stands K) u (signal_on row i) l e, E.place) in
        rw (L.signal u (omega (arith, E.within)) e) at (passed _ place))
        (off u)

    pub row_all : (u : ℕ) → ((j : ℕ) → j < entries row → Q (signal_on row j)) → u ≤ n → Q u
    row_all u passed h =
        by_test (stands K u)
        (λ e. rw (L.signal u h e) at (passed (rank (stands K) u) (omega (arith, entries_are L, rank_below (stands K) u (suc n) (omega arith) e)))) (off u)

  -- Unmarked signals

  module _ (pos : 0 < p) (marks : List Bool) where
    abbrev unmarked : ℕ → Bool
    unmarked = live (reduced p K) (mark_in marks)

    live_there : (i : ℕ) → i < entries row → unmarked (signal_on row i) ≡ live_on marks row i
    live_there i h = let E = row_entry L i h in rw E.place at (live_at L marks (signal_on row i) E.within E.standing)

    dead_off : (u : ℕ) → stands K u ≡ false → unmarked u ≡ false
    dead_off u = live_off L (mark_in marks) u pos

    dead_before : (i : ℕ) → i ≤ entries row → ((j : ℕ) → j < i → live_on marks row j ≡ false)
        → (j : ℕ) → j < i → unmarked (signal_on row j) ≡ false
    dead_before i h passed j l = live_there j (omega arith) ∙ passed j l

    first_found : (i : ℕ) → i < entries row → live_on marks row i ≡ true
        → ((j : ℕ) → j < i → live_on marks row j ≡ false) → LowestLive n (reduced p K) (mark_in marks) (signal_on row i)
    first_found i h e passed =
        let here = live_there i h ∙ e in
        record { least = live_least _ _ _ here; most = (row_entry L i h).within; is = here; low = low }
      where
        low : (s : ℕ) → 1 ≤ s → s ≤ n → unmarked s ≡ true → signal_on row i ≤ s
        low s l g f =
            by_order s (signal_on row i)
            (λ a. true_or_false _ f (row_before (λ (u : ℕ). unmarked u ≡ false) dead_off i s h (dead_before i (omega arith) passed) a))
            (λ a. a)

    first_none : ((j : ℕ) → j < entries row → live_on marks row j ≡ false) → (s : ℕ) → 1 ≤ s → s ≤ n → unmarked s ≡ false
    first_none passed s l h =
        row_all (λ (u : ℕ). unmarked u ≡ false) dead_off s (dead_before (entries row) (omega arith) passed) h

    abbrev first : ℕ
    first = position_or_len (is_live marks) row

    fails_before : (j : ℕ) → j < first → live_on marks row j ≡ false
    unfolding live_on entry_at nothing
    fails_before j l = fails_before_first (is_live marks) row j nothing l

    -- what a search of the row finds
    pub first_live : (x : Option ℕ) → x ≡ option_map (λ e. e.signal) (find (is_live marks) row) → FirstLive n (reduced p K) (mark_in marks) x
    unfolding live_on signal_on entry_at nothing
    first_live x is =
        by_order first (entries row)
        (λ l.
        let found : x ≡ Some (signal_on row first) =
        is ∙ ap (option_map (λ (e : Entry). e.signal)) (find_at (is_live marks) row ∙ slice_get-get_or row first nothing l) in
        rw found (first_found first l (passes_at_first (is_live marks) row nothing l) fails_before))
        (λ h.
        let absent : x ≡ None = is ∙ ap (option_map (λ (e : Entry). e.signal)) (find_at (is_live marks) row ∙ slice_get_past row first h) in
        rw absent (first_none (λ j l. fails_before j (omega arith))))

  -- Coefficients

  coef_found : (s i : ℕ) → i < entries row → signal_on row i ≡ s → coef_on row i ≡ reduced p K s
  coef_found s i h e = (row_entry L i h).coef ∙ ap (reduced p K) e

  coef_missed : (s : ℕ) → 0 < p → s ≤ n → ((i : ℕ) → i < entries row → signal_on row i ≡ s → ⊥) → 0 ≡ reduced p K s
  coef_missed s pos h none =
      row_all (λ (u : ℕ). u ≡ s → 0 ≡ reduced p K s) (λ u g e. sym (uninvolved p K s pos (ap (stands K) (sym e) ∙ g))) s (λ j a e. absurd (none j a e))
      h refl

  -- what a search of the row for signal s reads
  pub coef_read : (s : ℕ) → 0 < p → s ≤ n → (x : ℕ) → x ≡ option_map_or (λ e. e.coefficient) (find (λ e. eqb e.signal s) row) 0 → x ≡ reduced p K s
  unfolding signal_on coef_on entry_at nothing
  coef_read s pos h x is =
      let on_s = λ (e : Entry). eqb e.signal s in
      let first = position_or_len on_s row in
      let read = λ (o : Option Entry). option_map_or (λ (e : Entry). e.coefficient) o 0 in
      by_order first (entries row)
      (λ l. is ∙ ap read (find_at on_s row ∙ slice_get-get_or row first nothing l) ∙ coef_found s first l (eqb-true _ s (passes_at_first on_s row nothing l)))
      (λ a. is ∙ ap read (find_at on_s row ∙ slice_get_past row first a)
      ∙ coef_missed s pos h (λ i l e. true_or_false _ (eq-eqb _ s e) (fails_before_first on_s row i nothing (omega arith))))

-- References

-- signal u is no reference that separates
abbrev Fails : ℕ → ℕ → Constraint → List ℕ → List Bool → ℕ → Type 0
Fails p n K bounds marks u =
    1 ≤ u → occurs (reduced p K) u ≡ true → separated p n (reduced p K) (bound_in p bounds) (mark_in marks) u ≡ false

-- none of the first i entries separates
pub record Tried (p : ℕ) (row : List Entry) (bounds : List ℕ) (marks : List Bool) (i : ℕ) : Type 0 where
  pub fails : (n : ℕ) (K : Constraint) → Prime p → Row p n K row → (j : ℕ) → j < i → Fails p n K bounds marks (signal_on row j)

module _ (p : ℕ) (row : List Entry) (bounds : List ℕ) (marks : List Bool) where
  pub tried_start : Tried p row bounds marks 1
  tried_start =
      record {
        fails = λ n K P L j l g. let z : j ≡ 0 = omega arith in absurd (omega (arith, row_first L, ap (signal_on row) z));
      }

  fails_off : (n : ℕ) (K : Constraint) → Prime p → (u : ℕ) → stands K u ≡ false → Fails p n K bounds marks u
  fails_off n K P u e l g = absurd (occurs_yes p K u g (uninvolved p K u (omega (arith, P.above)) e))

  module _ (i : ℕ) (T : Tried p row bounds marks i) where
    module _ (h : i < entries row) (x : Bool) (tells : Tells p row bounds marks i x) where
      pub tried_on : x ≡ false → Tried p row bounds marks (i + 1)
      tried_on e =
          record {
            fails = λ n K P L. below_more _ i (T.fails n K P L)
                (λ l g. false_by _ (λ s. true_or_false _ (and_both _ _ g s) (sym (tells n K P L) ∙ e)));
          }

      pub tried_found : x ≡ true → 1 ≤ i → (t : ℕ) → t ≡ signal_on row i → (n : ℕ) (K : Constraint) → Prime p → Row p n K row
          → FirstReference p n (reduced p K) (bound_in p bounds) (mark_in marks) t
      tried_found e l t t-is n K P L =
          let both = sym (tells n K P L) ∙ e in
          record {
            none = λ z. absurd (omega (arith, t-is, row_rising L 0 i l (omega (arith, entries_are L))));
            found = λ a. rw t-is ((row_entry L i h).within, and_left _ _ both, and_right (occurs (reduced p K) (signal_on row i)) _ both);
            first = λ u a b.
                row_before L (Fails p n K bounds marks) (fails_off n K P) i u h (T.fails n K P L) (omega (arith, t-is)) a;
          }

    pub tried_none : entries row ≤ i → (n : ℕ) (K : Constraint) → Prime p → Row p n K row
        → FirstReference p n (reduced p K) (bound_in p bounds) (mark_in marks) 0
    tried_none h n K P L =
        record {
          none = λ z u l g. row_all L (Fails p n K bounds marks) (fails_off n K P) u (λ j a. T.fails n K P L j (omega arith)) g l;
          found = λ a. absurd (omega arith);
          first = λ u a b. absurd (omega arith);
        }

  pub hopeless_none : Hopeless p row bounds marks → (n : ℕ) (K : Constraint) → Prime p → Row p n K row
      → FirstReference p n (reduced p K) (bound_in p bounds) (mark_in marks) 0
  hopeless_none H n K P L =
      record { none = λ z u l g. H.fails n K P L u; found = λ a. absurd (omega arith); first = λ u a b. absurd (omega arith) }

  -- what the code says of entry i
  module _ (i : ℕ) where
    module _ (h : i < entries row) (c : ℕ) (c-is : c ≡ coef_on row i) where
      pub tells_absent : c ≡ 0 → Tells p row bounds marks i false
      tells_absent z n K P L =
          sym (false_by _ (λ e. absurd (occurs_yes p K _ (and_left _ _ e) (sym (row_entry L i h).coef ∙ sym c-is ∙ z))))

      pub tells_by : (c ≡ 0 → ⊥) → (x : Bool)
          → ((n : ℕ) (K : Constraint) (r : ℕ) → Prime p → Row p n K row → c ≡ reduced p K r → occurs (reduced p K) r ≡ true
          → x ≡ separated p n (reduced p K) (bound_in p bounds) (mark_in marks) r)
          → Tells p row bounds marks i x
      tells_by some x x-is n K P L =
          let here = true_by _ (λ z. some (c-is ∙ (row_entry L i h).coef ∙ occurs_no p K (signal_on row i) z)) in
          x-is n K _ P L (c-is ∙ (row_entry L i h).coef) here ∙ sym (rw here)

-- The whole rule

module _ (p n : ℕ) (K : Constraint) (b : ℕ → ℕ) (m : ℕ → Bool) (t r : ℕ) where
  pub digits_crooked : linear K ≡ false → false ≡ digits_met p n K b m t r
  unfolding digits_met
  digits_crooked e = sym (rw e)

  pub digits_targetless : reduced p K t ≡ 0 → false ≡ digits_met p n K b m t r
  unfolding digits_met occurs
  digits_targetless e = sym (rw (eq-eqb (reduced p K t) 0 e, and-false))

  pub digits_unreferred : reduced p K r ≡ 0 → false ≡ digits_met p n K b m t r
  unfolding digits_met occurs
  digits_unreferred e = sym (rw (eq-eqb (reduced p K r) 0 e, and-false (not (eqb (reduced p K t) 0)), and-false (linear K)))

  pub digits_by : linear K ≡ true → (reduced p K t ≡ 0 → ⊥) → (reduced p K r ≡ 0 → ⊥)
      → (x : Bool) → (occurs (reduced p K) r ≡ true → x ≡ separated p n (reduced p K) b m r) → x ≡ digits_met p n K b m t r
  unfolding digits_met
  digits_by e some-t some-r x x-is =
      let on-t = true_by (occurs (reduced p K) t) (λ z. some-t (occurs_no p K t z)) in
      let on-r = true_by (occurs (reduced p K) r) (λ z. some-r (occurs_no p K r z)) in
      x-is on-r ∙ sym (rw (e, on-t, on-r))
