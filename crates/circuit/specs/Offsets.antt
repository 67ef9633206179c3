-- A table of offsets: where the bytes of each constraint start, so that one is found without a walk over those before it.
-- How calls run, not what they mean.
use Rattle.std.specs.Prelude.{ℕ, ◌-◌, ◌≤◌, ◌<◌, ◌≡◌, List, get_or, drop}
use Rattle.circuit.specs.Reader.{offset_at}

-- entry k is the offset of constraint k, counted from 1; entry 0 and those above m are 0
pub record Offsets (s : List ℕ) (m : ℕ) (table : List ℕ) : Type 0 where
  pub entry : (k : ℕ) → 1 ≤ k → k ≤ m → get_or table k 0 ≡ offset_at s (k - 1)
  pub zeroth : get_or table 0 0 ≡ 0
  pub above : (k : ℕ) → m < k → get_or table k 0 ≡ 0

-- the bytes from the offset in entry k on
unfoldable pub part_of : List ℕ → List ℕ → ℕ → List ℕ
part_of s table k = drop (get_or table k 0) s
