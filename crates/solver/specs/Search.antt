-- What a search for a signal in a form, for an unmarked one in a row, or for a divisor finds.
-- How the solver runs, not what it means.
use Rattle.std.specs.Prelude.{ℕ, ◌≤◌, ◌≡◌, Bool, true, false, cond, ◌||◌, eqb, Option, None, Some}
use Rattle.circuit.specs.Circuit.{Form, Constraint, names}
use Rattle.laws.specs.Rules.{reduced, single}
use Rattle.rules.specs.Rows.{involves, forms_of}
use Rattle.rules.specs.declared.rows.Entry.{Entry}

-- a signal that the form names, or none where it names none
abbrev pub SomeNamed : Form → Option ℕ → Type 0
SomeNamed f None = (s : ℕ) → 1 ≤ s → names f s ≡ true → ⊥
SomeNamed f (Some t) = (1 ≤ t) × (names f t ≡ true)

-- one form alone names a signal that these forms name
unfoldable pub one_form : ℕ → Bool
one_form forms = eqb forms 1 || eqb forms 2 || eqb forms 4

-- no unmarked signal but u is named, and one form alone names u
pub record Lone (K : Constraint) (m : ℕ → Bool) (u : ℕ) : Type 0 where
  pub others : (s : ℕ) → 1 ≤ s → involves K s ≡ true → m s ≡ false → s ≡ u
  pub by_one : one_form (forms_of K u) ≡ true

-- the entry of such a signal
pub record LoneEntry (p n : ℕ) (K : Constraint) (m : ℕ → Bool) (x : Entry) : Type 0 where
  pub least : 1 ≤ x.signal
  pub most : x.signal ≤ n
  pub free : m x.signal ≡ false
  pub lone : Lone K m x.signal
  pub forms : x.forms ≡ forms_of K x.signal
  pub coefficient : x.coefficient ≡ reduced p K x.signal

-- that entry, or none where there is no such signal
abbrev pub SomeLone : (p n : ℕ) → Constraint → (ℕ → Bool) → Option Entry → Type 0
SomeLone p n K m None = (u : ℕ) → 1 ≤ u → u ≤ n → m u ≡ false → Lone K m u → ⊥
SomeLone p n K m (Some x) = LoneEntry p n K m x

-- the factor beside B, where the forms are B alone (2), else beside A
unfoldable pub factor : ℕ → Constraint → Form
factor forms K = cond (eqb forms 2) K.a K.b

-- the signal by which a form that is one term can be divided out: it has a nonzero mark
abbrev pub SomeDivisor : Form → (ℕ → Bool) → Option ℕ → Type 0
SomeDivisor f nz None = (r : ℕ) → 1 ≤ r → single r f ≡ true → nz r ≡ true → ⊥
SomeDivisor f nz (Some r) = (1 ≤ r) × (single r f ≡ true) × (nz r ≡ true)
