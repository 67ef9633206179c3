-- The circuit call (rule 6.5), on all bytes, and what it says of a circuit that isn't refused.
use Rattle.std.specs.Prelude.{ℕ, ◌≤◌, ◌≡◌, List, [], length, leb, eqb}
use Rattle.field.specs.Prime.{odd_prime}
use Rattle.circuit.specs.Bytes.{u16_at, u32_at}
use Rattle.circuit.specs.Circuit.{Circuit, WellFormed}
use Rattle.circuit.specs.Reading.{Reading, whole, fault, Size, sized, faulty, size_of}
use Rattle.circuit.specs.Reader.{header_size, file_most, circuit_letter, has_mark, sizes_fit, read_body, read_circuit}
use Rattle.circuit.specs.Answer.{Answer, refused, given, ask}
use Rattle.circuit.specs.declared.reader.Sizes.{Sizes}

-- the header's numbers of a circuit
abbrev pub sizes_of : Circuit → Sizes
sizes_of C = record { p = C.p; n = C.n; i = C.i; o = C.o; m = C.m }

-- Rule 1.1: those in the bytes of a file
abbrev pub header_of : List ℕ → Sizes
header_of s = record { p = u32_at s 5; n = u16_at s 9; i = u16_at s 11; o = u16_at s 13; m = u16_at s 15 }

-- the header alone: refusals 1 to 5, or its numbers
unfoldable pub header_call : List ℕ → Answer Sizes
header_call s =
    ask (leb header_size (length s)) 1 0
    (ask (leb (length s) file_most) 1 0
    (ask (has_mark circuit_letter s) 2 0
    (ask (eqb (u16_at s 3) 1) 3 0
    (ask (odd_prime (u32_at s 5)) 4 0
    (ask (sizes_fit (u16_at s 9) (u16_at s 11) (u16_at s 13) (u16_at s 15)) 5 0
    (given (header_of s)))))))

-- the constraints alone, for a header with these numbers: refusals 6 to 10, or the numbers
abbrev pub body_answer : Sizes → Size → Answer Sizes
body_answer z (sized size) = given z
body_answer z (faulty number offset) = refused number offset

unfoldable pub body_call : List ℕ → Sizes → Answer Sizes
body_call s z = body_answer z (size_of (read_body z.n z.p z.m s))

-- every call on a circuit: refusals 1 to 10, or what is answered for the circuit that was read
abbrev pub on_circuit : {A : Type 0} → Reading Circuit → (Circuit → Answer A) → Answer A
on_circuit (whole C size) f = f C
on_circuit (fault number place) f = refused number place

-- the circuit call
unfoldable pub circuit_call : List ℕ → Answer Sizes
circuit_call s = on_circuit (read_circuit s) (λ C. given (sizes_of C))

-- the circuit in the bytes; one without signals where they are refused
abbrev pub read_as : Reading Circuit → Circuit
read_as (whole C size) = C
read_as (fault number place) = record { p = 0; n = 0; i = 0; o = 0; m = 0; constraints = [] }

unfoldable pub circuit_of : List ℕ → Circuit
circuit_of s = read_as (read_circuit s)

-- The bytes are a circuit that isn't refused, with these sizes: all of rule 1.7.
pub record Sized (s : List ℕ) (z : Sizes) : Type 0 where
  pub read : read_circuit s ≡ whole (circuit_of s) (length s)
  pub least : header_size ≤ length s
  pub most : length s ≤ file_most
  pub formed : WellFormed (circuit_of s)
  pub is_p : z.p ≡ (circuit_of s).p
  pub is_n : z.n ≡ (circuit_of s).n
  pub is_i : z.i ≡ (circuit_of s).i
  pub is_o : z.o ≡ (circuit_of s).o
  pub is_m : z.m ≡ (circuit_of s).m

-- an answer with sizes is that of a circuit with these sizes
abbrev pub SizedAnswer : List ℕ → Answer Sizes → Type 0
SizedAnswer s r = (z : Sizes) → r ≡ given z → Sized s z
