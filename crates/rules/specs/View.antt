-- Arrays of the code as functions of the signal: how it runs, not what it means. Past the end a coefficient is 0, a bound p - 1, and a
-- signal has no mark of either sort.
use Rattle.std.specs.Prelude.{ℕ, ◌-◌, Bool, false, List, get_or}
use Rattle.laws.specs.Standing.{Standing}

unfoldable pub coef_in : List ℕ → ℕ → ℕ
coef_in form s = get_or form s 0

unfoldable pub bound_in : ℕ → List ℕ → ℕ → ℕ
bound_in p bounds s = get_or bounds s (p - 1)

unfoldable pub mark_in : List Bool → ℕ → Bool
mark_in marks s = get_or marks s false

-- three arrays as a standing
unfoldable pub view_of : ℕ → List ℕ → (marks nonzeros : List Bool) → Standing
view_of p bounds marks nonzeros = record { bound = bound_in p bounds; marked = mark_in marks; nonzero = mark_in nonzeros }
