-- What a derivation is judged against: sizes, constraints and first bounds. What one step is judged against: its subject.
use Rattle.std.specs.Prelude.{ℕ, ◌-◌, ◌≤◌, ◌<◌, ◌≡◌, List}
use Rattle.field.specs.Prime.{Prime}
use Rattle.circuit.specs.Circuit.{Circuit, Constraint, WellFormedConstraint, Satisfies, constraint_at, no_constraint, value_of}

-- Sizes as in rule 1.1; `constraint k` is constraint k, counted from 1; `first s` is the bound of signal s at the start.
pub record Problem : Type 0 where
  pub p : ℕ
  pub n : ℕ
  pub i : ℕ
  pub o : ℕ
  pub m : ℕ
  pub constraint : ℕ → Constraint
  pub first : ℕ → ℕ

-- p - 1 at every signal
unfoldable pub largest : ℕ → ℕ → ℕ
largest p s = p - 1

-- a circuit with first bounds
abbrev pub given : Circuit → (ℕ → ℕ) → Problem
given C first = record { p = C.p; n = C.n; i = C.i; o = C.o; m = C.m; constraint = constraint_at C; first = first }

-- Rule 7.7: a circuit alone, where every first bound is p - 1.
abbrev pub problem : Circuit → Problem
problem C = given C (largest C.p)

-- What a step looks at: the prime, the number of signals, and the constraint that it names.
pub record Subject : Type 0 where
  pub p : ℕ
  pub n : ℕ
  pub equation : Constraint

-- what the constraint field of a step names
pub data Names : Type 0 where
  nothing a_constraint : Names

abbrev pub equation_at : Names → Problem → ℕ → Constraint
equation_at nothing P k = no_constraint
equation_at a_constraint P k = P.constraint k

abbrev pub subject : Names → Problem → ℕ → Subject
subject f P k = record { p = P.p; n = P.n; equation = equation_at f P k }

-- a prime, and constraints with terms in order
pub record Sensible (P : Problem) : Type 0 where
  pub prime : Prime P.p
  pub each : (k : ℕ) → WellFormedConstraint P.n P.p (P.constraint k)

-- What soundness asks of a satisfying run (a witness): values below p, and all m constraints satisfied.
pub record Solves (P : Problem) (run : List ℕ) : Type 0 where
  pub below : (s : ℕ) → 1 ≤ s → s ≤ P.n → value_of run s < P.p
  pub holds : (k : ℕ) → 1 ≤ k → k ≤ P.m → Satisfies P.p (P.constraint k) (value_of run)

-- .. and of an allowed one: that it satisfies, and is within the first bounds.
pub record Obeys (P : Problem) (Satisfying : List ℕ → Type 0) (run : List ℕ) : Type 0 where
  pub satisfies : Satisfying run
  pub within_first : (s : ℕ) → 1 ≤ s → s ≤ P.n → value_of run s ≤ P.first s

-- Rule 1.6: the runs share their inputs.
abbrev pub SameInputs : Problem → List ℕ → List ℕ → Type 0
SameInputs P run other = (s : ℕ) → 1 ≤ s → s ≤ P.i → value_of run s ≡ value_of other s
