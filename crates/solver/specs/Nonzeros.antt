-- What the phase of nonzero marks finds of each signal. How the solver runs, not what it means.
use Rattle.std.specs.Prelude.{ℕ, zero, suc, ◌≤◌, ◌<◌, ◌≡◌, Bool, cond, ◌&&◌, eqb, List, length}
use Rattle.circuit.specs.Circuit.{Circuit, constraint_at}
use Rattle.laws.specs.Rules.{nonzero_met}
use Rattle.rules.specs.Rows.{at}

-- k where the test is met and nothing is noted yet
unfoldable pub noted : Bool → ℕ → ℕ → ℕ
noted met k old = cond (eqb old 0 && met) k old

-- k is noted at each signal that meets the test and has nothing noted
pub record Noted (test : ℕ → Bool) (k : ℕ) (before after : List ℕ) : Type 0 where
  pub sized : length after ≡ length before
  pub each : (s : ℕ) → 1 ≤ s → s < length before → at after s ≡ noted (test s) k (at before s)

-- the lowest of constraints 1 to k by which the nonzero rule is met for s, 0 where there is none
unfoldable pub lowest_for : Circuit → ℕ → ℕ → ℕ
lowest_for C zero s = 0
lowest_for C (suc k) s = noted (nonzero_met (constraint_at C (suc k)) s) (suc k) (lowest_for C k s)

-- that constraint for each signal of a circuit
pub record Firsts (C : Circuit) (k : ℕ) (firsts : List ℕ) : Type 0 where
  pub sized : length firsts ≡ 257
  pub each : (s : ℕ) → 1 ≤ s → s < 257 → at firsts s ≡ lowest_for C k s
