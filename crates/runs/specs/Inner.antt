-- How the functions inside the calls run: what they promise one another, not what the calls mean.
-- Values are functions of the signal, as forms are evaluated on.
use Rattle.std.specs.Prelude.{ℕ, ◌+◌, ◌*◌, ◌-◌, ◌≤◌, ◌<◌, min, max, ◌≡◌, ◌≢◌, Bool, true, false, cond, Option, None, Some, List, All, eqb, length, get_or}
use Rattle.std.specs.List.{AllPairs}
use Rattle.std.specs.List.Sorted.{IsNonDecreasingBy, IsPartitionPoint}
use Rattle.circuit.specs.Bytes.{byte_at, u16_at}
use Rattle.circuit.specs.Circuit.{Circuit, constraint_at, value_of}
use Rattle.circuit.specs.Reader.{form_size, term_size, after_form}
use Rattle.circuit.specs.Run.{holds}
use Rattle.circuit.specs.Answer.{Answer, given, ask}
use Rattle.circuit.specs.Offsets.{part_of}
use Rattle.circuit.specs.declared.reader.Sizes.{Sizes}
use Rattle.runs.specs.declared.levels.Leveled.{Leveled}
use Rattle.runs.specs.Order.{Before}
use Rattle.runs.specs.Call.{Found, few, left_by}

-- Levels: the highest signal that a constraint names, after which it holds or not whatever is still to come.

-- the signal of the last term of the form that the bytes start with; 0 where there is none
unfoldable pub last_signal : List ℕ → ℕ
last_signal s = cond (eqb (byte_at s 0) 0) 0 (u16_at s (form_size (byte_at s 0) - term_size))

-- the level of the constraint that the bytes start with, n at most whatever they are
unfoldable pub level_in : ℕ → List ℕ → ℕ
level_in n s = min n (max (last_signal s) (max (last_signal (after_form s)) (last_signal (after_form (after_form s)))))

-- that of constraint k
unfoldable pub level_at : List ℕ → List ℕ → ℕ → ℕ → ℕ
level_at s table n k = level_in n (part_of s table k)

-- an entry is one of m constraints, with its level
abbrev pub IsLeveled : (ℕ → ℕ) → ℕ → Leveled → Type 0
IsLeveled level m x = (1 ≤ x.constraint) × (x.constraint ≤ m) × (x.level ≡ level x.constraint)

-- the number that the constraints are sorted by: it rises with the level and, on one level, from the last constraint to the first
abbrev pub rank : Leveled → ℕ
rank x = 65536 * x.level + (65535 - x.constraint)

-- The m constraints by rising level, those of one level from the last to the first, none of them missing. A search looks at them in this order, and how
-- soon it meets one that is broken is what it costs; so there is just one such list.
pub record Ordered (level : ℕ → ℕ) (m : ℕ) (order : List Leveled) : Type 0 where
  pub sized : length order ≡ m
  pub each : All (IsLeveled level m) order
  pub rising : IsNonDecreasingBy (λ x. x.level) order
  pub falling : AllPairs (λ x y. x.level ≡ y.level → y.constraint < x.constraint) order
  pub whole : (k : ℕ) → 1 ≤ k → k ≤ m → All (λ x. x.constraint ≢ k) order → ⊥

-- where those of a level or a higher one begin
pub record IsStart (order : List Leveled) (level start : ℕ) : Type 0 where
  pub inside : start ≤ length order
  pub parted : IsPartitionPoint (λ x. x.level < level) (λ x. level ≤ x.level) order start

-- the same for the levels of at most 10 signals
pub record Starts (order : List Leveled) (starts : List ℕ) : Type 0 where
  pub each : (h : ℕ) → h ≤ 10 → IsStart order h (get_or starts h 0)

-- n values below p after the constant one, 0 past the end
pub record Candidate (p n : ℕ) (v : ℕ → ℕ) : Type 0 where
  pub constant : v 0 ≡ 1
  pub below : (s : ℕ) → 1 ≤ s → s ≤ n → v s < p
  pub past : (s : ℕ) → n < s → v s ≡ 0

-- values that are summed up without a remainder: each below 65,536, and 0 at the numbers that no signal has
pub record Small (v : ℕ → ℕ) : Type 0 where
  pub below : (s : ℕ) → v s < 65536
  pub past : (s : ℕ) → 256 < s → v s ≡ 0

-- the next candidate w that differs from v among the first h signals: signal j has risen, those after it are 0
pub record Rose (p n h : ℕ) (v w : ℕ → ℕ) (j : ℕ) : Type 0 where
  pub least : 1 ≤ j
  pub within : j ≤ n
  pub most : j ≤ h
  pub constant : w 0 ≡ v 0
  pub same : (s : ℕ) → s < j → w s ≡ v s
  pub risen : w j ≡ v j + 1
  pub room : w j < p
  pub top : (s : ℕ) → j < s → s ≤ h → s ≤ n → p ≤ v s + 1
  pub zeros : (s : ℕ) → j < s → s ≤ n → w s ≡ 0
  pub past : (s : ℕ) → n < s → w s ≡ v s

-- there is none: none of the first h signals can rise, and w is the candidate of zeros
pub record Ended (p n h : ℕ) (v w : ℕ → ℕ) : Type 0 where
  pub constant : w 0 ≡ v 0
  pub top : (s : ℕ) → 1 ≤ s → s ≤ h → s ≤ n → p ≤ v s + 1
  pub zeros : (s : ℕ) → 1 ≤ s → s ≤ n → w s ≡ 0
  pub past : (s : ℕ) → n < s → w s ≡ v s

-- the values v satisfy constraint k
unfoldable pub held_at : Circuit → (ℕ → ℕ) → ℕ → Bool
held_at C v k = holds C.p (constraint_at C k) v

-- a constraint of the level that v breaks
pub record Breaks (C : Circuit) (level : ℕ → ℕ) (v : ℕ → ℕ) (h : ℕ) : Type 0 where
  pub at : ℕ
  pub least : 1 ≤ at
  pub most : at ≤ C.m
  pub is_level : level at ≡ h
  pub broken : held_at C v at ≡ false

-- h is the lowest level, from one on, of which v breaks a constraint
pub record Lowest (C : Circuit) (level : ℕ → ℕ) (v : ℕ → ℕ) (from h : ℕ) : Type 0 where
  pub least : from ≤ h
  pub all : (k : ℕ) → 1 ≤ k → k ≤ C.m → from ≤ level k → level k < h → held_at C v k ≡ true
  pub some : Breaks C level v h

-- that level, where v breaks one
abbrev pub Checked : Circuit → (ℕ → ℕ) → (ℕ → ℕ) → ℕ → Option ℕ → Type 0
Checked C level v from None = (k : ℕ) → 1 ≤ k → k ≤ C.m → from ≤ level k → held_at C v k ≡ true
Checked C level v from (Some h) = Lowest C level v from h

-- a candidate that satisfies the circuit
pub record Solution (C : Circuit) (v : ℕ → ℕ) : Type 0 where
  pub candidate : Candidate C.p C.n v
  pub holds : (k : ℕ) → 1 ≤ k → k ≤ C.m → held_at C v k ≡ true

-- v is the first solution from the candidate `from` on: what is before `from` is before v, and no other solution is
pub record Reached (C : Circuit) (from v : ℕ → ℕ) : Type 0 where
  pub solution : Solution C v
  pub onward : (u : ℕ → ℕ) → Before u from → Before u v
  pub passed : (u : ℕ → ℕ) → Solution C u → Before u v → Before u from

-- what a search finds; where it finds nothing, it leaves the candidate of zeros
pub record Sought (C : Circuit) (from v : ℕ → ℕ) (found : Bool) : Type 0 where
  pub reached : found ≡ true → Reached C from v
  pub no_more : found ≡ false → (u : ℕ → ℕ) → Solution C u → Before u from
  pub zeros : found ≡ false → (v 0 ≡ 1) × ((s : ℕ) → 1 ≤ s → v s ≡ 0)

-- refusals 30 and 31 for the buffer for the answer, which both calls ask
unfoldable pub roomy : Sizes → ℕ → Answer Unit
roomy z room = ask (few z.p z.n) 30 0 (ask (eqb room z.n) 31 0 (given tt))

-- whether there is a solution from a candidate on, of which the first is left in the buffer that held `answer`
pub record Seeks (C : Circuit) (from : ℕ → ℕ) (answer : List ℕ) (found : Bool) (left : List ℕ) : Type 0 where
  pub reached : found ≡ true → (length left ≡ C.n) × Reached C from (value_of left)
  pub no_more : found ≡ false → (left ≡ answer) × ((u : ℕ → ℕ) → Solution C u → Before u from)

-- a call's answer, and what it leaves in the buffer that held `answer`
pub record Answers (call : Answer Found) (answer : List ℕ) (r : Answer Found) (left : List ℕ) : Type 0 where
  pub answered : r ≡ call
  pub written : left ≡ left_by call answer
