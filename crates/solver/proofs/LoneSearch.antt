-- The lone signal of a row: what a walk over its entries has seen, and that it is found.
use Prim.Native.Nat.{ℕ, suc, ◌+◌, ◌≤◌, ◌<◌}
use mathlib.Core.Path.{◌≡◌, refl, sym, ap, ◌∙◌}
use mathlib.Core.Bool.{Bool, true, false, ◌||◌}
use mathlib.Core.List.{List}
use native.Mathlib.Omega.{arith}
use borrow.Author.Count.{below_more}
use Rattle.circuit.specs.Circuit.{Constraint, WellFormedConstraint, names}
use Rattle.laws.proofs.Sum.{or_cases, true_or_false, by_equal}
use Rattle.rules.specs.View.{mark_in}
use Rattle.rules.specs.Rows.{entries, entry_at, rank, involves, stands, forms_of, signal_on, forms_on, coef_on, mark_on, Row}
use Rattle.rules.specs.declared.rows.Entry.{Entry}
use Rattle.rules.proofs.Ranks.{rank_zero, rank_below}
use Rattle.rules.proofs.RowLaws.{stands_is, constant_stands, EntryIs, entries_are, row_entry, row_rising}
use Rattle.std.specs.Prelude.{Option, None, Some, is_some}
use Rattle.solver.specs.Search.{one_form, Lone, LoneEntry, SomeLone}
use Rattle.solver.proofs.KeyWays.{named_within}
use Rattle.solver.proofs.LoneLaws.{one_involved}

-- The walk

-- of the entries before i all are marked, but one that one form alone names, if there is a place
pub record Seen (marks : List Bool) (row : List Entry) (i place : ℕ) : Type 0 where
  pub each : (j : ℕ) → j < i → 1 ≤ j → (j ≡ place → ⊥) → mark_on marks row j ≡ true
  pub held : 1 ≤ place → (place < i) × (one_form (forms_on row place) ≡ true) × (mark_on marks row place ≡ false)

pub seen_start : (marks : List Bool) (row : List Entry) → Seen marks row 1 0
seen_start marks row = record { each = λ j h l d. absurd (omega arith); held = λ l. absurd (omega arith) }

module _ {marks : List Bool} {row : List Entry} {i place : ℕ} (S : Seen marks row i place) where
  pub seen_marked : mark_on marks row i ≡ true → Seen marks row (i + 1) place
  seen_marked e =
      record {
        each = below_more _ i S.each (λ l d. e);
        held = λ l. (let H = S.held l in (omega (arith, H.0), H.1, H.2));
      }

  pub seen_found : place ≡ 0 → mark_on marks row i ≡ false → one_form (forms_on row i) ≡ true → Seen marks row (i + 1) i
  seen_found z e f =
      record {
        each = below_more _ i (λ j h l d. S.each j h l (λ (q : j ≡ place). omega arith)) (λ l d. absurd (d refl));
        held = λ l. (omega arith, f, e);
      }

module _ {p n : ℕ} {K : Constraint} (W : WellFormedConstraint n p K) {row : List Entry} (R : Row p n K row) (marks : List Bool) where
  abbrev m : ℕ → Bool
  m = mark_in marks

  some_signal : (i : ℕ) → 1 ≤ i → i < entries row → 1 ≤ signal_on row i
  some_signal i l h = omega (arith, row_rising R 0 i l (omega (arith, entries_are R)))

  -- an unmarked entry is that of every lone signal
  only_at : (i : ℕ) → 1 ≤ i → i < entries row → mark_on marks row i ≡ false → (u : ℕ) → Lone K m u → signal_on row i ≡ u
  unfolding mark_on
  only_at i l h free u e =
      let some = some_signal i l h in
      e.others (signal_on row i) some (sym (stands_is K _ some) ∙ (row_entry R i h).standing) free

  pub lone_shared : {i : ℕ} → 1 ≤ i → i < entries row → mark_on marks row i ≡ false → one_form (forms_on row i) ≡ false → SomeLone p n K m None
  lone_shared {i} l h free d u a b f e =
      true_or_false _ e.by_one (sym (ap one_form ((row_entry R i h).forms ∙ ap (forms_of K) (only_at i l h free u e))) ∙ d)

  pub lone_two : {i place : ℕ} → Seen marks row i place → (place ≡ 0 → ⊥) → i < entries row → mark_on marks row i ≡ false → SomeLone p n K m None
  lone_two {i} {place} S d h free u a b f e =
      let first : 1 ≤ place = omega arith in
      let H = S.held first in
      omega (
        arith,
        only_at place first (omega (arith, H.0)) H.2 u e,
        only_at i (omega (arith, H.0)) h free u e,
        row_rising R place i H.0 (omega (arith, entries_are R)),
      )

  module _ {i place : ℕ} (S : Seen marks row i place) (all : entries row ≤ i) where
    -- every unmarked signal that is named is that of the place
    at_place : (s : ℕ) → 1 ≤ s → s ≤ n → involves K s ≡ true → m s ≡ false → (1 ≤ place) × (s ≡ signal_on row place)
    unfolding mark_on
    at_place s l h named free =
        let e = stands_is K s l ∙ named in
        let j = rank (stands K) s in
        let is = R.signal s h e in
        let first : 1 ≤ j = omega (arith, rank_zero (stands K), rank_below (stands K) 0 s l (constant_stands K)) in
        by_equal j place (λ q. (omega arith, sym is ∙ ap (signal_on row) q))
        (λ d.
        true_or_false _ (ap m (sym is) ∙ S.each j (omega (arith, all, entries_are R, rank_below (stands K) s (suc n) (omega arith) e)) first d) free)

    pub lone_missing : place ≡ 0 → SomeLone p n K m None
    lone_missing z u a b f e = omega (arith, (at_place u a b (one_involved K u e.by_one) f).0)

    module _ (d : place ≡ 0 → ⊥) (inside : place < entries row) where
      abbrev t : ℕ
      t = signal_on row place

      H : (place < i) × (one_form (forms_on row place) ≡ true) × (mark_on marks row place ≡ false)
      H = S.held (omega arith)

      E : EntryIs p n K row place
      E = row_entry R place inside

      -- a signal that is named is at most n
      involved_within : (s : ℕ) → 1 ≤ s → involves K s ≡ true → s ≤ n
      unfolding involves
      involved_within s l i =
          or_cases (names K.a s || names K.b s) (names K.c s) i
          (λ h. or_cases (names K.a s) (names K.b s) h (named_within W.rises_a s) (named_within W.rises_b s))
          (named_within W.rises_c s)

      pub lone_found : LoneEntry p n K m (entry_at row place)
      unfolding mark_on signal_on forms_on coef_on
      lone_found =
          record {
            least = some_signal place (omega arith) inside;
            most = E.within;
            free = H.2;
            lone =
                record {
                  others = λ s l i free. (at_place s l (involved_within s l i) i free).1;
                  by_one = sym (ap one_form E.forms) ∙ H.1;
                };
            forms = E.forms;
            coefficient = E.coef;
          }

-- The walk in the code's terms

-- the entry of the place, if there is one
pub record Walked (marks : List Bool) (row : List Entry) (i : ℕ) (found : Option Entry) : Type 0 where
  pub place : ℕ
  pub seen : Seen marks row i place
  pub absent : place ≡ 0 → found ≡ None
  pub present : 1 ≤ place → (found ≡ Some (entry_at row place)) × (place < entries row)

pub walked_start : (marks : List Bool) (row : List Entry) → Walked marks row 1 None
walked_start marks row = record { place = 0; seen = seen_start marks row; absent = λ z. refl; present = λ l. absurd (omega arith) }

module _ {marks : List Bool} {row : List Entry} {i : ℕ} {found : Option Entry} (S : Walked marks row i found) where
  pub walked_marked : mark_on marks row i ≡ true → Walked marks row (i + 1) found
  walked_marked e = record { place = S.place; seen = seen_marked S.seen e; absent = S.absent; present = S.present }

  no_place : is_some found ≡ false → S.place ≡ 0
  no_place e = by_equal S.place 0 (λ z. z) (λ d. true_or_false (is_some found) (ap is_some (S.present (omega arith)).0) e)

  pub walked_found : 1 ≤ i → i < entries row → is_some found ≡ false → mark_on marks row i ≡ false → one_form (forms_on row i) ≡ true
      → Walked marks row (i + 1) (Some (entry_at row i))
  walked_found l h e free f =
      record {
        place = i;
        seen = seen_found S.seen (no_place e) free f;
        absent = λ z. absurd (omega arith);
        present = λ a. (refl, h);
      }

  module _ {p n : ℕ} {K : Constraint} (W : WellFormedConstraint n p K) (R : Row p n K row) where
    pub walked_two : is_some found ≡ true → i < entries row → mark_on marks row i ≡ false → SomeLone p n K (mark_in marks) None
    walked_two e h free = lone_two W R marks S.seen (λ z. true_or_false (is_some found) e (ap is_some (S.absent z))) h free

    pub walked_end : entries row ≤ i → SomeLone p n K (mark_in marks) found
    walked_end all =
        by_equal S.place 0 (λ z. rw (S.absent z) (lone_missing W R marks S.seen all z))
        (λ d. let P = S.present (omega arith) in rw P.0 (lone_found W R marks S.seen all d P.1))
