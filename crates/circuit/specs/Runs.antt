-- Runs (witnesses) in bytes, 32 bits a value, and searches for the first number that fails a test.
use Rattle.std.specs.Prelude.{ℕ, zero, suc, ◌*◌, ◌-◌, Bool, cond, ◌&&◌, List, [], ◌∷◌, ltb, leb, eqb, drop, Option, None, Some}
use Rattle.circuit.specs.Bytes.{u32_at}
use Rattle.circuit.specs.Circuit.{Constraint, Circuit, constraint_at, value_of}
use Rattle.circuit.specs.Run.{holds}

abbrev pub value_size : ℕ
value_size = 4

-- the value with a number, counted from 1, of those that the bytes start with
unfoldable pub value_at : List ℕ → ℕ → ℕ
value_at s number = u32_at s (value_size * (number - 1))

-- Rule 1.4: the run of n values that the bytes start with
unfoldable pub run_in : List ℕ → ℕ → List ℕ
run_in s zero = []
run_in s (suc n) = u32_at s 0 ∷ run_in (drop value_size s) n

-- values 1 to n of those that the bytes start with, and v's elsewhere
unfoldable pub filled : List ℕ → ℕ → (ℕ → ℕ) → ℕ → ℕ
filled t n v s = cond (leb 1 s && leb s n) (value_at t s) (v s)

-- the first of `left` numbers from k on that fails a test; 0 where none does
unfoldable pub first_from : (ℕ → Bool) → ℕ → ℕ → ℕ
first_from test k zero = 0
first_from test k (suc left) = let later = first_from test (suc k) left in cond (test k) later k

-- what is found by number, counted from 1; nothing where that is 0
abbrev pub found : ℕ → Option ℕ
found zero = None
found (suc k) = Some (suc k)

-- the value with a number is below p
unfoldable pub below : ℕ → List ℕ → ℕ → Bool
below p s number = ltb (value_at s number) p

-- the values v satisfy constraint k
unfoldable pub satisfied_by : ℕ → (ℕ → Constraint) → (ℕ → ℕ) → ℕ → Bool
satisfied_by p constraint v k = holds p (constraint k) v

-- the first constraint that a run doesn't satisfy; 0 where it satisfies the circuit
unfoldable pub unsatisfied : Circuit → List ℕ → ℕ
unsatisfied C run = first_from (satisfied_by C.p (constraint_at C) (value_of run)) 1 C.m

-- v and w agree at signal s
unfoldable pub agree : (ℕ → ℕ) → (ℕ → ℕ) → ℕ → Bool
agree v w s = eqb (v s) (w s)
