-- What the digits test asks of a row: how the rule runs, not what it means. R, b and m give the coefficient, the bound and the mark of a signal;
-- the weight of an entry is its coefficient times a scale, modulo p.
use Rattle.std.specs.Prelude.{ℕ, ◌≤◌, ◌<◌, ◌≡◌, Bool, true, false, ◌&&◌, List, Option, MatchOption, ltb, length, take}
use Rattle.field.specs.Prime.{Prime}
use Rattle.circuit.specs.Circuit.{Constraint}
use Rattle.laws.specs.Sum.{sum, keep, implies}
use Rattle.laws.specs.Rules.{reduced, occurs, live, separated}
use Rattle.rules.specs.View.{coef_in, bound_in, mark_in}
use Rattle.rules.specs.Rows.{entries, signal_on, coef_on, Row}
use Rattle.rules.specs.Live.{is_live, live_on, Differ}
use Rattle.rules.specs.Added.{weight_by, digits_of}
use Rattle.rules.specs.declared.rows.Entry.{Entry}
use Rattle.rules.specs.declared.gathered.Few.{Few}
use Rattle.rules.specs.declared.gathered.Weighed.{Weighed}

-- Gathering

-- the entries of a list, 31 at most
pub record Gathered (digits : List Entry) (few : Few) : Type 0 where
  pub held : take few.count few.entries ≡ digits
  pub room : few.count ≤ 31

-- all digits are gathered, unless they are 32 or more
abbrev pub Gathers : ℕ → List Entry → List ℕ → List Bool → Option Few → Type 0
Gathers p row bounds marks x =
    MatchOption x (32 ≤ length (digits_of p bounds marks row)) (λ few. Gathered (digits_of p bounds marks row) few)

-- what is known where references are tried
pub record Ready (p : ℕ) (row : List Entry) (bounds : List ℕ) (marks : List Bool) (few : Few) : Type 0 where
  pub differ : Differ (coef_on row) (live_on marks row) (entries row)
  pub gathered : Gathered (digits_of p bounds marks row) few

-- no reference separates the unmarked signals of the row
pub record Hopeless (p : ℕ) (row : List Entry) (bounds : List ℕ) (marks : List Bool) : Type 0 where
  pub fails : (n : ℕ) (K : Constraint) → Prime p → Row p n K row → (r : ℕ) → occurs (reduced p K) r ≡ true
      → separated p n (reduced p K) (bound_in p bounds) (mark_in marks) r ≡ false

abbrev pub Prepared : ℕ → List Entry → List ℕ → List Bool → Option Few → Type 0
Prepared p row bounds marks x = MatchOption x (Hopeless p row bounds marks) (λ few. Ready p row bounds marks few)

-- Weighing

-- the product, if its weight is below w
unfoldable pub smaller : ℕ → ℕ → ℕ → ℕ
smaller weight product w = keep (ltb weight w) product

-- of weights and products by place
unfoldable pub smaller_at : (ℕ → ℕ) → (ℕ → ℕ) → ℕ → ℕ → ℕ
smaller_at weights products w j = smaller (weights j) (products j) w

-- a weight exceeds the sum of the products of smaller weights
abbrev pub exceeds_sum : ℕ → (ℕ → ℕ) → (ℕ → ℕ) → ℕ → Bool
exceeds_sum count weights products w = ltb (sum count (smaller_at weights products w)) w

-- an entry is marked, or its weight exceeds that sum
unfoldable pub exceeds : Weighed → List Bool → Entry → Bool
exceeds weighed marks x =
    implies (is_live marks x)
    (exceeds_sum (length weighed.weights.now) (coef_in weighed.weights.now) (coef_in weighed.products.now) (weight_by weighed.p weighed.scale x))

-- The answers for a row

-- x tells whether the reference at entry i separates the unmarked signals
abbrev pub Tells : ℕ → List Entry → List ℕ → List Bool → ℕ → Bool → Type 0
Tells p row bounds marks i x =
    (n : ℕ) (K : Constraint) → Prime p → Row p n K row
    → x ≡ (occurs (reduced p K) (signal_on row i) && separated p n (reduced p K) (bound_in p bounds) (mark_in marks) (signal_on row i))

-- r is the lowest reference that separates the unmarked signals, 0 where none does
pub record FirstReference (p n : ℕ) (R b : ℕ → ℕ) (m : ℕ → Bool) (r : ℕ) : Type 0 where
  pub none : r ≡ 0 → (u : ℕ) → 1 ≤ u → u ≤ n → occurs R u ≡ true → separated p n R b m u ≡ false
  pub found : 1 ≤ r → (r ≤ n) × (occurs R r ≡ true) × (separated p n R b m r ≡ true)
  pub first : (u : ℕ) → 1 ≤ u → u < r → occurs R u ≡ true → separated p n R b m u ≡ false

-- t is the lowest unmarked signal with a coefficient
pub record LowestLive (n : ℕ) (R : ℕ → ℕ) (m : ℕ → Bool) (t : ℕ) : Type 0 where
  pub least : 1 ≤ t
  pub most : t ≤ n
  pub is : live R m t ≡ true
  pub low : (s : ℕ) → 1 ≤ s → s ≤ n → live R m s ≡ true → t ≤ s

-- the lowest unmarked signal with a coefficient, None where there is none
abbrev pub FirstLive : ℕ → (ℕ → ℕ) → (ℕ → Bool) → Option ℕ → Type 0
FirstLive n R m x = MatchOption x ((s : ℕ) → 1 ≤ s → s ≤ n → live R m s ≡ false) (λ t. LowestLive n R m t)
