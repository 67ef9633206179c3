-- The solver as a list of steps: first bounds, then nonzero marks, then marks.
use Rattle.std.specs.Prelude.{ℕ, zero, suc, ◌+◌, Bool, true, false, cond, ◌&&◌, ◌||◌, List, [], ◌∷◌, ◌++◌, ltb, eqb}
use Rattle.std.proofs.Math.Option.{Option, none, some}
use Rattle.laws.specs.Sum.{keep}
use Rattle.laws.specs.Problem.{Problem}
use Rattle.laws.specs.Standing.{Standing, Change, bounds, marks, nonzeros, value, start}
use Rattle.laws.specs.Step.{
  Kind,
  Root,
  Sum,
  kinds,
  kind_number,
  Step,
  Range,
  only_zero,
  from_one,
  constraints,
  references,
  change,
  adds,
  after,
  replay,
}

abbrev pub step : Kind → ℕ → ℕ → ℕ → Step
step q t k r = record { kind = q; target = t; constraint = k; reference = r }

-- the step adds to what changes of this sort give
unfoldable pub adds_by : (Change → Bool) → Problem → Standing → Step → Bool
adds_by c P S x = adds P S x && c (change P S x)

-- Bounds

-- the bound that a step gives its target
unfoldable pub new_bound : Problem → Standing → Step → ℕ
new_bound P S x = value (change P S x)

-- the step lowers the bound of its target
abbrev pub lowers : Problem → Standing → Step → Bool
lowers P S x = adds_by bounds P S x

-- a is smaller than b, or they are equal and the rest decides
unfoldable pub first_by : ℕ → ℕ → Bool → Bool
first_by a b rest = ltb a b || (eqb a b && rest)

-- Rule 5.1: the order of steps by new bound, target, kind and constraint.
unfoldable pub precedes : Problem → Standing → Step → Step → Bool
precedes P S x y =
    first_by (new_bound P S x) (new_bound P S y)
    (first_by x.target y.target
    (first_by (kind_number x.kind) (kind_number y.kind) (ltb x.constraint y.constraint)))

abbrev pub preferred : Problem → Standing → Step → Option Step → Option Step
preferred P S x none = some x
preferred P S x (some y) = cond (precedes P S x y) (some x) (some y)

-- the better of a step, if it lowers its target's bound, and the best so far
unfoldable pub consider : Problem → Standing → Step → Option Step → Option Step
consider P S x best = cond (lowers P S x) (preferred P S x best) best

-- the best so far after targets 1 to t of constraint k
unfoldable pub best_of_targets : Problem → Standing → ℕ → ℕ → Option Step → Option Step
best_of_targets P S k zero best = best
best_of_targets P S k (suc t) best =
    consider P S (step Sum (suc t) k 0) (consider P S (step Root (suc t) k 0) (best_of_targets P S k t best))

-- the best of constraints 1 to k
unfoldable pub best_of_constraints : Problem → Standing → ℕ → Option Step
best_of_constraints P S zero = none
best_of_constraints P S (suc k) = best_of_targets P S (suc k) P.n (best_of_constraints P S k)

-- Rule 5.1: the first in that order of all steps that lower a bound.
unfoldable pub best_bound : Problem → Standing → Option Step
best_bound P S = best_of_constraints P S P.m

-- Marks of both sorts

-- the step where the test holds, else what is found later
abbrev pub pick : Bool → Step → Option Step → Option Step
pick true x later = some x
pick false x later = later

-- the first that f finds at a + 1 to a + j, else what is found later
unfoldable pub first_up : ℕ → ℕ → (ℕ → Option Step → Option Step) → Option Step → Option Step
first_up a zero f later = later
first_up a (suc j) f later = f (suc a) (first_up (suc a) j f later)

-- .. at each value that a field may have
abbrev pub first_in : Range → (ℕ → Option Step → Option Step) → Option Step → Option Step
first_in only_zero f later = f 0 later
first_in (from_one n) f later = first_up 0 n f later

unfoldable pub try : (Change → Bool) → Problem → Standing → ℕ → Kind → ℕ → ℕ → Option Step → Option Step
try c P S t q k r later = pick (adds_by c P S (step q t k r)) (step q t k r) later

unfoldable pub try_references : (Change → Bool) → Problem → Standing → ℕ → Kind → ℕ → Option Step → Option Step
try_references c P S t q k later = first_in (references q P) (try c P S t q k) later

unfoldable pub try_kind : (Change → Bool) → Problem → Standing → ℕ → Kind → Option Step → Option Step
try_kind c P S t q later = first_in (constraints q P) (try_references c P S t q) later

-- Rules 5.2 and 5.4: by kind, then constraint, then reference.
unfoldable pub try_kinds : (Change → Bool) → Problem → Standing → List Kind → ℕ → Option Step → Option Step
try_kinds c P S [] t later = later
try_kinds c P S (q ∷ qs) t later = try_kind c P S t q (try_kinds c P S qs t later)

-- Rules 5.2 and 5.4: the order of steps by target, kind, constraint and reference. That the search takes the first in this order is a theorem.
unfoldable pub earlier : Step → Step → Bool
earlier x y =
    first_by x.target y.target
    (first_by (kind_number x.kind) (kind_number y.kind) (first_by x.constraint y.constraint (ltb x.reference y.reference)))

-- Rules 5.2 and 5.4: the lowest target to which some step adds by a change of this sort.
unfoldable pub first_adding : (Change → Bool) → Problem → Standing → Option Step
first_adding c P S = first_up 0 P.n (try_kinds c P S kinds) none

-- The whole

abbrev pub taken : Option Step → (Step → List Step) → List Step
taken none rest = []
taken (some x) rest = x ∷ rest x

-- at most `fuel` turns: the steps of one phase, each chosen where the one before it led, until none is left
unfoldable pub turns : (Standing → Option Step) → Problem → ℕ → Standing → List Step
turns choose P zero S = []
turns choose P (suc fuel) S = taken (choose S) (λ x. turns choose P fuel (after P S x))

unfoldable pub bound_steps : Problem → List Step
bound_steps P = turns (best_bound P) P P.n (start P)

abbrev pub bounded : Problem → Standing
bounded P = replay P (start P) (bound_steps P)

unfoldable pub nonzero_steps : Problem → List Step
nonzero_steps P = turns (first_adding nonzeros P) P P.n (bounded P)

abbrev pub excluded : Problem → Standing
excluded P = replay P (bounded P) (nonzero_steps P)

unfoldable pub mark_steps : Problem → List Step
mark_steps P = turns (first_adding marks P) P P.n (excluded P)

-- Rules 5.1, 5.4 and 5.2: first bounds, then nonzero marks, then marks.
unfoldable pub solution : Problem → List Step
solution P = bound_steps P ++ (nonzero_steps P ++ mark_steps P)

-- how many of the steps have target t
unfoldable pub steps_for : ℕ → List Step → ℕ
steps_for t [] = 0
steps_for t (x ∷ xs) = keep (eqb x.target t) 1 + steps_for t xs
