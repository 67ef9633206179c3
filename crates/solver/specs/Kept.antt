-- What a phase keeps of each constraint, whatever it is. How the solver runs, not what it means.
use Rattle.std.specs.Prelude.{ℕ, ◌≡◌, List, get_or, set, Option, None, Some}

-- what is known of constraint k is r: it was kept, or nothing was, and it was found as Q says and is kept now
pub data LookedUp {A : Type 0} (Q : Option A → Type 0) (k : ℕ) (r : Option A) (before : List (Option (Option A))) : List (Option (Option A)) → Type 0 where
  kept : get_or before k None ≡ Some r → LookedUp Q k r before before
  sought : get_or before k None ≡ None → Q r → LookedUp Q k r before (set before k (Some r))
