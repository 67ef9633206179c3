-- Rows as a reader meets them: what each place holds, sums over a row, and what signals off the row are.
use Prim.Native.Nat.{ℕ, zero, suc, ◌≤◌, ◌<◌}
use mathlib.Core.Path.{◌≡◌, refl}
use mathlib.Core.Bool.{Bool, true, false, ◌||◌}
use mathlib.Core.List.{List}
use native.Mathlib.Omega.{arith}
use Rattle.circuit.specs.Circuit.{Constraint, names}
use Rattle.laws.specs.Rules.{reduced}
use Rattle.laws.proofs.Sum.{true_or_false, by_test, by_order, or_false_left, or_false_right}
use Rattle.laws.proofs.Reduced.{reduced_unnamed}
use Rattle.rules.specs.declared.rows.Entry.{Entry}
use Rattle.rules.specs.Rows.{entries, rank, involves, stands, forms_of, signal_on, forms_on, coef_on, Row}
use Rattle.rules.proofs.Ranks.{rank_zero, rank_passed, rank_failed, rank_grows, rank_below}

-- a signal that isn't named has no coefficient
pub uninvolved_reduced : (p : ℕ) (K : Constraint) (s : ℕ) → 0 < p → 1 ≤ s → involves K s ≡ false → reduced p K s ≡ 0
unfolding involves
uninvolved_reduced p K zero h l e = absurd (omega arith)
uninvolved_reduced p K (suc s) h l e =
    let a = names K.a (suc s) in
    let b = names K.b (suc s) in
    let ab = or_false_left (a || b) _ e in
    reduced_unnamed p K s h (or_false_left a b ab) (or_false_right a b ab) (or_false_right (a || b) _ e)

pub uninvolved : (p : ℕ) (K : Constraint) (s : ℕ) → 0 < p → stands K s ≡ false → reduced p K s ≡ 0
unfolding stands
uninvolved p K zero h e = true_or_false _ refl e
uninvolved p K (suc s) h e = uninvolved_reduced p K (suc s) h (omega arith) e

pub stands_is : (K : Constraint) (s : ℕ) → 1 ≤ s → stands K s ≡ involves K s
unfolding stands
stands_is K zero l = absurd (omega arith)
stands_is K (suc s) l = refl

pub constant_stands : (K : Constraint) → stands K 0 ≡ true
unfolding stands
constant_stands K = refl

-- Ranks and indices

-- the index below k that passes and has rank i
pub record Ranked (q : ℕ → Bool) (k i : ℕ) : Type 0 where
  pub index : ℕ
  pub below : index < k
  pub passes : q index ≡ true
  pub is : rank q index ≡ i

module _ (q : ℕ → Bool) where
  pub rank_onto : (k i : ℕ) → i < rank q k → Ranked q k i
  rank_onto zero i h = absurd (omega (arith, rank_zero q))
  rank_onto (suc k) i h =
      by_order i (rank q k)
      (λ l. let r = rank_onto k i l in record { index = r.index; below = omega (arith, r.below); passes = r.passes; is = r.is })
      (λ l.
      by_test (q k) (λ e. record { index = k; below = omega arith; passes = e; is = omega (arith, rank_passed q k e) })
      (λ e. absurd (omega (arith, rank_failed q k e))))

  -- ranks rise with the indices that pass
  pub rank_rises : (s u : ℕ) → rank q s < rank q u → s < u
  rank_rises s u h = by_order s u (λ l. l) (λ l. absurd (omega (arith, rank_grows q u s l)))

  pub rank_distinct : (s u : ℕ) → q s ≡ true → q u ≡ true → rank q s ≡ rank q u → s ≡ u
  rank_distinct s u e g same =
      by_order s u (λ l. absurd (omega (arith, rank_below q s u l e)))
      (λ l. by_order u s (λ m. absurd (omega (arith, rank_below q u s m g))) (λ m. omega arith))

-- Entries

-- what stands at place i
pub record EntryIs (p n : ℕ) (K : Constraint) (row : List Entry) (i : ℕ) : Type 0 where
  pub within : signal_on row i ≤ n
  pub standing : stands K (signal_on row i) ≡ true
  pub place : rank (stands K) (signal_on row i) ≡ i
  pub forms : forms_on row i ≡ forms_of K (signal_on row i)
  pub coef : coef_on row i ≡ reduced p K (signal_on row i)

module _ {p n : ℕ} {K : Constraint} {row : List Entry} (R : Row p n K row) where
  pub entries_are : entries row ≡ rank (stands K) (suc n)
  entries_are = omega (arith, R.counted)

  pub row_entry : (i : ℕ) → i < entries row → EntryIs p n K row i
  row_entry i h =
      let r = rank_onto (stands K) (suc n) i (omega (arith, entries_are)) in
      let near : r.index ≤ n = omega (arith, r.below) in
      let is : signal_on row i ≡ r.index = rw r.is at (R.signal r.index near r.passes) in
      let forms : forms_on row i ≡ forms_of K r.index = rw r.is at (R.forms r.index near r.passes) in
      let coef : coef_on row i ≡ reduced p K r.index = rw r.is at (R.coef r.index near r.passes) in
      record { within = rw is near; standing = rw is r.passes; place = rw is r.is; forms = rw is forms; coef = rw is coef }

  pub row_rising : (i j : ℕ) → i < j → j < rank (stands K) (suc n) → signal_on row i < signal_on row j
  row_rising i j l h =
      rank_rises (stands K) (signal_on row i) (signal_on row j)
      (omega (arith, (row_entry i (omega (arith, entries_are))).place, (row_entry j (omega (arith, entries_are))).place))

  -- the constant stands first
  pub row_first : signal_on row 0 ≡ 0
  row_first = rw (rank_zero (stands K)) at (R.signal 0 (omega arith) (constant_stands K))
