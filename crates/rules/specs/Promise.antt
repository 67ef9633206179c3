-- What a step on the arrays of a standing promises: what it is asked with, and what it gives. How it runs, not what it means.
use Rattle.std.specs.Prelude.{ℕ, ◌≤◌, ◌≡◌, Bool, true, false, cond, List, set, Option, None, Some}
use Rattle.field.specs.Prime.{Prime}
use Rattle.circuit.specs.Reader.{signals_most, constraint_in}
use Rattle.laws.specs.Problem.{Subject, a_constraint}
use Rattle.laws.specs.Standing as laws
use Rattle.laws.specs.Step as step
use Rattle.rules.specs.View.{mark_in, view_of}
use Rattle.rules.specs.Rows.{Row}
use Rattle.rules.specs.declared.rows.Entry.{Entry}
use Rattle.rules.specs.declared.standing.Standing.{Standing}
use Rattle.rules.specs.declared.standing.Outcome.{Outcome}
use Rattle.rules.specs.declared.standing.Kind.{Kind}
use Rattle.rules.specs.declared.standing.Kind.TheVariants.{Root, Sum, Zero, Product, Digits, Nonzero, Quotient}

-- the struct's three arrays as a standing of the rules
abbrev pub view : ℕ → Standing → laws.Standing
view p st = view_of p st.bounds st.marks st.nonzeros

-- what a step looks at whose constraint starts a part of the circuit bytes
abbrev pub subject_in : ℕ → ℕ → List ℕ → Subject
subject_in p n part = record { p = p; n = n; equation = constraint_in part }

-- Rules 3.3 and 3.4: the step meets the rule, target t has its change, and it is told whether the step is idle.
pub record Taken (told : Bool) (next before : laws.Standing) (t : ℕ) (x : step.Rule) : Type 0 where
  pub met : x.met ≡ true
  pub idle : told ≡ laws.idle x.change before t
  pub after : next ≡ laws.apply x.change before t

-- whether a step is idle, None where its rule isn't met, and the standing after it
abbrev pub Told : Option Bool → laws.Standing → laws.Standing → ℕ → step.Rule → Type 0
Told None next before t x = (x.met ≡ false) × (next ≡ before)
Told (Some idle) next before t x = Taken idle next before t x

-- Rule 3.3: one flag of an array is set, if the rule is met, and it is told whether it was set before.
abbrev pub Flagged : Option Bool → (next before : List Bool) → ℕ → Bool → Type 0
Flagged None next before t met = (met ≡ false) × (next ≡ before)
Flagged (Some was) next before t met = (met ≡ true) × (was ≡ mark_in before t) × (next ≡ set before t true)

-- what a step gives
abbrev pub Gives : ℕ → Outcome → laws.Standing → ℕ → step.Rule → Type 0
Gives p outcome before t x = Told outcome.idle (view p outcome.next) before t x

-- the bound that a rule of bounds gives, None where it isn't met
abbrev pub bound_given : step.Rule → Option ℕ
bound_given x = cond x.met (Some (laws.value x.change)) None

-- the enum's cases as the kinds of the rules
abbrev pub kind_of : Kind → step.Kind
kind_of Root = step.Root
kind_of Sum = step.Sum
kind_of Zero = step.Zero
kind_of Product = step.Product
kind_of Digits = step.Digits
kind_of Nonzero = step.Nonzero
kind_of Quotient = step.Quotient

-- the rule looks at the constraint's reduced form
abbrev pub reduces : step.Kind → Bool
reduces step.Root = false
reduces step.Sum = true
reduces step.Zero = false
reduces step.Product = false
reduces step.Digits = true
reduces step.Nonzero = false
reduces step.Quotient = false

-- what a step is asked with: a prime, target and reference in range, and the row of the constraint that it names where its rule looks at the reduced form
pub record Asked (q : step.Kind) (p n : ℕ) (part : List ℕ) (row : List Entry) (t r : ℕ) : Type 0 where
  pub prime : Prime p
  pub few : n ≤ signals_most
  pub least : 1 ≤ t
  pub most : t ≤ n
  pub reference : step.refers q ≡ true → (1 ≤ r) × (r ≤ n)
  pub by_row : step.names_of q ≡ a_constraint → reduces q ≡ true → Row p n (constraint_in part) row
