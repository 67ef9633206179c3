-- Steps: the one table of kinds, what a step gives, and a derivation as steps taken one after the other.
use Rattle.std.specs.Prelude.{ℕ, Bool, true, false, not, ◌&&◌, List, [], ◌∷◌, leb, eqb}
use Rattle.laws.specs.Problem.{Problem, Subject, subject, Names, nothing, a_constraint}
use Rattle.laws.specs.Standing.{Standing, Change, at_most, fixed, not_zero, apply, idle}
use Rattle.laws.specs.Rules.{reduced, root_met, root_bound, sum_met, sum_bound, zero_met, product_met, digits_met, nonzero_met, quotient_met}

-- Rule 2.2.
pub data Kind : Type 0 where
  Root Sum Zero Product Digits Nonzero Quotient : Kind

-- The table of kinds

-- in the order of their numbers
abbrev pub kinds : List Kind
kinds = Root ∷ Sum ∷ Zero ∷ Product ∷ Digits ∷ Nonzero ∷ Quotient ∷ []

abbrev pub kind_number : Kind → ℕ
kind_number Root = 1
kind_number Sum = 2
kind_number Zero = 3
kind_number Product = 4
kind_number Digits = 5
kind_number Nonzero = 6
kind_number Quotient = 7

-- Rule 2.3: what the constraint field names ..
abbrev pub names_of : Kind → Names
names_of Root = a_constraint
names_of Sum = a_constraint
names_of Zero = nothing
names_of Product = a_constraint
names_of Digits = a_constraint
names_of Nonzero = a_constraint
names_of Quotient = a_constraint

-- .. and whether the reference field names a signal
abbrev pub refers : Kind → Bool
refers Root = false
refers Sum = false
refers Zero = false
refers Product = false
refers Digits = true
refers Nonzero = false
refers Quotient = true

-- whether a rule is met, and what it then gives its target
pub record Rule : Type 0 where
  pub met : Bool
  pub change : Change

-- Rules 4.3 to 4.9, for target t and reference r.
abbrev pub rule : Kind → Subject → Standing → ℕ → ℕ → Rule
rule Root J S t r = record { met = root_met J.equation t; change = at_most (root_bound J.p J.equation t) }
rule Sum J S t r =
    record {
      met = sum_met J.p J.n J.equation S.bound t;
      change = at_most (sum_bound J.p J.n (reduced J.p J.equation) S.bound t);
    }
rule Zero J S t r = record { met = zero_met S.bound t; change = fixed }
rule Product J S t r = record { met = product_met J.equation S.marked t; change = fixed }
rule Digits J S t r = record { met = digits_met J.p J.n J.equation S.bound S.marked t r; change = fixed }
rule Nonzero J S t r = record { met = nonzero_met J.equation t; change = not_zero }
rule Quotient J S t r = record { met = quotient_met J.equation S.marked S.nonzero t r; change = fixed }

-- What follows from the table

pub record Step : Type 0 where
  pub kind : Kind
  pub target : ℕ
  pub constraint : ℕ
  pub reference : ℕ

-- from 1 to n
unfoldable pub within : ℕ → ℕ → Bool
within n s = leb 1 s && leb s n

-- the values that a field may have: 0 alone, or 1 to a number
pub data Range : Type 0 where
  only_zero : Range
  from_one : ℕ → Range

abbrev pub inside : Range → ℕ → Bool
inside only_zero k = eqb k 0
inside (from_one n) k = within n k

abbrev pub named : Names → Problem → Range
named nothing P = only_zero
named a_constraint P = from_one P.m

abbrev pub referred : Bool → Problem → Range
referred false P = only_zero
referred true P = from_one P.n

abbrev pub constraints : Kind → Problem → Range
constraints q P = named (names_of q) P

abbrev pub references : Kind → Problem → Range
references q P = referred (refers q) P

-- Rule 2.3: target, constraint and reference are in range.
unfoldable pub in_range : Problem → Step → Bool
in_range P x =
    within P.n x.target && (inside (constraints x.kind P) x.constraint && inside (references x.kind P) x.reference)

unfoldable pub rule_of : Problem → Standing → Step → Rule
rule_of P S x = rule x.kind (subject (names_of x.kind) P x.constraint) S x.target x.reference

-- the step meets its rule
unfoldable pub met : Problem → Standing → Step → Bool
met P S x = (rule_of P S x).met

unfoldable pub change : Problem → Standing → Step → Change
change P S x = (rule_of P S x).change

-- Rule 3.3: the next standing.
unfoldable pub after : Problem → Standing → Step → Standing
after P S x = apply (change P S x) S x.target

-- Rule 3.5: each step is taken on what the one before it gave.
unfoldable pub replay : Problem → Standing → List Step → Standing
replay P S [] = S
replay P S (x ∷ xs) = replay P (after P S x) xs

-- the step is in range and meets its rule
unfoldable pub fits : Problem → Standing → Step → Bool
fits P S x = in_range P x && met P S x

-- Rule 3.4: the step lowers no bound and adds no mark of either sort.
abbrev pub is_idle : Problem → Standing → Step → Bool
is_idle P S x = idle (change P S x) S x.target

-- the step is in range, meets its rule and isn't idle
unfoldable pub adds : Problem → Standing → Step → Bool
adds P S x = fits P S x && not (is_idle P S x)

-- each step passes the test where it stands
unfoldable pub each : (Problem → Standing → Step → Bool) → Problem → Standing → List Step → Bool
each test P S [] = true
each test P S (x ∷ xs) = test P S x && each test P (after P S x) xs

-- Rules 3.4 and 3.6: each step is in range, meets its rule and isn't idle where it stands.
abbrev pub accepted : Problem → Standing → List Step → Bool
accepted = each adds

-- The former rule, by which a renewal reads: each step is in range and meets its rule where it stands; it may be idle.
abbrev pub formerly : Problem → Standing → List Step → Bool
formerly = each fits

abbrev pub unless : Bool → Step → List Step → List Step
unless true x rest = rest
unless false x rest = x ∷ rest

-- Rule 6.11: the steps that aren't idle where they stand, in their order.
unfoldable pub less_idle : Problem → Standing → List Step → List Step
less_idle P S [] = []
less_idle P S (x ∷ xs) = unless (is_idle P S x) x (less_idle P (after P S x) xs)
