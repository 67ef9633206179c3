-- Rule 1.9: the order of runs, and the satisfying runs of a circuit in that order.
use Rattle.std.specs.Prelude.{ℕ, zero, suc, ◌<◌, ◌≡◌, Bool, true, false, ◌&&◌, ◌||◌, List, [], ◌∷◌, ◌++◌, map, ltb, eqb}
use Rattle.std.proofs.Math.Option.{Option, none, some}
use Rattle.circuit.specs.Circuit.{Circuit}
use Rattle.circuit.specs.Runs.{unsatisfied}

-- a run with the values v comes before one with the values w: it has the smaller value at the lowest signal at which they differ (lexicographic order)
pub record Before (v w : ℕ → ℕ) : Type 0 where
  pub at : ℕ
  pub same : (s : ℕ) → s < at → v s ≡ w s
  pub less : v at < w at

-- the same as a test of two lists of values, that of signal 1 first
unfoldable pub precedes : List ℕ → List ℕ → Bool
precedes [] other = false
precedes (x ∷ run) [] = false
precedes (x ∷ run) (y ∷ other) = let later = precedes run other in ltb x y || (eqb x y && later)

-- each value below `count`, rising, before each of the lists
unfoldable pub starting_below : ℕ → List (List ℕ) → List (List ℕ)
starting_below zero lists = []
starting_below (suc value) lists = starting_below value lists ++ map (λ list. value ∷ list) lists

-- Rule 1.4: all runs of n values below p, in rising order
unfoldable pub candidates : ℕ → ℕ → List (List ℕ)
candidates p zero = [] ∷ []
candidates p (suc n) = starting_below p (candidates p n)

-- those that pass a test, in the same order
abbrev pub kept_if : Bool → List ℕ → List (List ℕ) → List (List ℕ)
kept_if true run runs = run ∷ runs
kept_if false run runs = runs

unfoldable pub passing : (List ℕ → Bool) → List (List ℕ) → List (List ℕ)
passing test [] = []
passing test (run ∷ runs) = kept_if (test run) run (passing test runs)

-- the first of a list
abbrev pub first_of : List (List ℕ) → Option (List ℕ)
first_of [] = none
first_of (run ∷ runs) = some run

-- Rule 1.5: the satisfying runs of a circuit
unfoldable pub satisfies : Circuit → List ℕ → Bool
satisfies C run = eqb (unsatisfied C run) 0

unfoldable pub runs_of : Circuit → List (List ℕ)
runs_of C = passing (satisfies C) (candidates C.p C.n)
