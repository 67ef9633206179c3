-- `rules::digits::is_among`: unless x is found, no entry passed has it.
use Rattle.std.proofs.Common.{◌≡◌, ℕ, ◌<◌, false}
use Rattle.rules.specs.Rows.{coef_on}
use Rattle.rules.proofs.digits.is_among.Given as goal

abbrev pub invariant-loop-entry : goal.invariant-loop-entry
invariant-loop-entry l = l.found ≡ false → (u : ℕ) → u < l.entry-index → coef_on l.some u ≡ l.x → ⊥
