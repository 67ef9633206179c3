-- What a standing claims of runs, when one standing claims at least as much as another, and when no step adds to one.
use Rattle.std.specs.Prelude.{ℕ, ◌≤◌, ◌≡◌, true, false, List}
use Rattle.circuit.specs.Circuit.{value_of}
use Rattle.laws.specs.Problem.{Problem, SameInputs}
use Rattle.laws.specs.Standing.{Standing}
use Rattle.laws.specs.Step.{Step, adds}

-- Rule 7.3: no allowed run is above a bound, allowed runs that share their inputs agree at each marked signal
-- ("constrained", definition 4.4 of source document 001), and no satisfying run, allowed or not, is 0 at a signal with a nonzero mark.
pub record Sound (P : Problem) (Satisfying Allowed : List ℕ → Type 0) (S : Standing) : Type 0 where
  pub bounded : (run : List ℕ) → Allowed run → (s : ℕ) → 1 ≤ s → s ≤ P.n → value_of run s ≤ S.bound s
  pub settled : (run other : List ℕ) → Allowed run → Allowed other → SameInputs P run other
      → (s : ℕ) → 1 ≤ s → s ≤ P.n → S.marked s ≡ true → value_of run s ≡ value_of other s
  pub never_zero : (run : List ℕ) → Satisfying run → (s : ℕ) → 1 ≤ s → s ≤ P.n → S.nonzero s ≡ true → value_of run s ≡ 0 → ⊥

-- S' has bounds at least as low, at least the marks and at least the nonzero marks
pub record AtLeast (S S' : Standing) : Type 0 where
  pub bounds : (s : ℕ) → S'.bound s ≤ S.bound s
  pub marks : (s : ℕ) → S.marked s ≡ true → S'.marked s ≡ true
  pub nonzeros : (s : ℕ) → S.nonzero s ≡ true → S'.nonzero s ≡ true

-- Rules 5.1, 5.4 and 5.2: no step is left that meets its rule and lowers a bound or adds a mark of either sort.
pub record Closed (P : Problem) (S : Standing) : Type 0 where
  pub closed : (x : Step) → adds P S x ≡ false
