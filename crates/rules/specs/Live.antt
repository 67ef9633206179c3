-- The unmarked entries of a row, and coefficients R of those that pass a test q, by place. How the rules run, not what they mean.
use Rattle.std.specs.Prelude.{ℕ, ◌≤◌, ◌<◌, ◌≡◌, Bool, true, not, ◌&&◌, List, eqb}
use Rattle.laws.specs.Sum.{keep}
use Rattle.rules.specs.View.{bound_in, mark_in}
use Rattle.rules.specs.Rows.{entry_at}
use Rattle.rules.specs.declared.rows.Entry.{Entry}

-- an unmarked signal with a coefficient
unfoldable pub is_live : List Bool → Entry → Bool
is_live marks x = not (eqb x.signal 0) && (not (eqb x.coefficient 0) && not (mark_in marks x.signal))

unfoldable pub live_on : List Bool → List Entry → ℕ → Bool
live_on marks row i = is_live marks (entry_at row i)

-- its bound, 0 of other entries
unfoldable pub live_bound : ℕ → List ℕ → List Bool → Entry → ℕ
live_bound p bounds marks x = keep (is_live marks x) (bound_in p bounds x.signal)

unfoldable pub bounds_on : ℕ → List ℕ → List Bool → List Entry → ℕ → ℕ
bounds_on p bounds marks row i = live_bound p bounds marks (entry_at row i)

-- an unmarked signal with this coefficient
abbrev pub has_coefficient : List Bool → ℕ → Entry → Bool
has_coefficient marks c x = eqb x.coefficient c && is_live marks x

-- none below k that passes has coefficient x
pub record Unlike (R : ℕ → ℕ) (q : ℕ → Bool) (k x : ℕ) : Type 0 where
  pub apart : (u : ℕ) → u < k → q u ≡ true → R u ≡ x → ⊥

-- the coefficients of those below n that pass differ
pub record Differ (R : ℕ → ℕ) (q : ℕ → Bool) (n : ℕ) : Type 0 where
  pub alone : (s : ℕ) → s < n → q s ≡ true → Unlike R q s (R s)

-- they are `least` to `most`
pub record Between (R : ℕ → ℕ) (q : ℕ → Bool) (k least most : ℕ) : Type 0 where
  pub low : (u : ℕ) → u < k → q u ≡ true → least ≤ R u
  pub high : (u : ℕ) → u < k → q u ≡ true → R u ≤ most
