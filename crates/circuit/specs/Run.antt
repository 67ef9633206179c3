-- Forms and constraints on a run (a witness), as the code computes them: values modulo p, and satisfaction as a test.
use Rattle.std.specs.Prelude.{ℕ, ◌+◌, ◌*◌, ◌%◌, Bool, cond, ◌&&◌, List, ltb, leb, eqb, get_or}
use Rattle.circuit.specs.Bytes.{u16_at, u32_at}
use Rattle.circuit.specs.Circuit.{Form, Constraint, eval}
use Rattle.circuit.specs.Reader.{signals_most}

-- A run lent as a slice: the constant one and then the run, so that place s holds the value of signal s; 0 past the end.
unfoldable pub values_in : List ℕ → ℕ → ℕ
values_in values s = get_or values s 0

-- the value of a form modulo p; 0 where p is 0
unfoldable pub eval_mod : ℕ → Form → (ℕ → ℕ) → ℕ
eval_mod p f v = cond (eqb p 0) 0 (eval f v % p)

-- Rule 1.5 as a test; false where p is 0
unfoldable pub holds : ℕ → Constraint → (ℕ → ℕ) → Bool
holds p K v = ltb 0 p && eqb (eval K.a v * eval K.b v % p) (eval K.c v % p)

-- the value modulo p of the term at an offset; 0 of a signal that no circuit has
unfoldable pub term_mod : ℕ → List ℕ → ℕ → (ℕ → ℕ) → ℕ
term_mod p s at v = cond (leb (u16_at s at) signals_most) (u32_at s (at + 2) * v (u16_at s at) % p) 0
