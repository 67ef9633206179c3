-- The watching call (rule 6.14) on all bytes and windows: what it answers, and what it leaves in the lent buffer.
use Rattle.std.specs.Prelude.{ℕ, zero, suc, ◌+◌, ◌*◌, ◌%◌, Bool, not, ◌&&◌, List, ◌++◌, leb, eqb, length, take, drop, Option, None, Some}
use Rattle.circuit.specs.Circuit.{Circuit}
use Rattle.circuit.specs.Reader.{pair_letter, file_start, read_circuit}
use Rattle.circuit.specs.Runs.{first_from, below}
use Rattle.circuit.specs.Answer.{Answer, refused, given, ask, ask_none, and_then}
use Rattle.circuit.specs.Call.{sizes_of, on_circuit, circuit_of}
use Rattle.circuit.specs.declared.reader.Sizes.{Sizes}
use Rattle.pair.specs.Call.{pair_header}
use Rattle.records.specs.declared.answer.Watched.{Watched}
use Rattle.records.specs.Recorded.{record_size, from_record, records_in, recorded, watched}

-- a pair, or None where no two records make one
abbrev pub Found : Type 0
Found = Option Watched

-- Rule 6.14: the window that 0 stands for
abbrev pub default_window : ℕ
default_window = 64

unfoldable pub window_of : ℕ → ℕ
window_of zero = default_window
window_of (suc w) = suc w

-- Refusal 33: each value of record k is below p
unfoldable pub fits : ℕ → ℕ → List ℕ → ℕ → Bool
fits p n s k = eqb (first_from (below p (from_record n s k)) 1 n) 0

-- Refusal 34: 1 is no window, nor is a number above 256
unfoldable pub is_window : ℕ → Bool
is_window w = not (eqb w 1) && leb w 256

-- the bytes of a pair file
abbrev pub pair_size : ℕ → ℕ
pair_size n = pair_header + 2 * record_size n

-- Refusals 32 to 34; room is the length of the output buffer
unfoldable pub allowed : Sizes → List ℕ → ℕ → ℕ → Answer Unit
allowed z s w room =
    ask (eqb (length s % record_size z.n) 0) 32 0
    (ask_none (first_from (fits z.p z.n s) 1 (records_in z.n s)) 33 0
    (ask (is_window w) 34 0
    (ask (leb (pair_size z.n) room) 34 0
    (given tt))))

-- then the pair
unfoldable pub watch_on : Circuit → List ℕ → ℕ → ℕ → Answer Found
watch_on C s w room = and_then (allowed (sizes_of C) s w room) (λ done. given (watched (recorded C s) (window_of w)))

-- the call, for a circuit c and records s: the circuit first, refusals 1 to 10
unfoldable pub watch_call : List ℕ → List ℕ → ℕ → ℕ → Answer Found
watch_call c s w room = on_circuit (read_circuit c) (λ C. watch_on C s w room)

-- Rule 2.4: the pair file of q and two records, the earlier one as its first run
unfoldable pub record_bytes : ℕ → List ℕ → ℕ → List ℕ
record_bytes n s k = take (record_size n) (from_record n s k)

unfoldable pub pair_file : ℕ → List ℕ → Watched → List ℕ
pair_file n s x = file_start pair_letter x.q ++ (record_bytes n s x.earlier ++ record_bytes n s x.later)

-- Rule 6.4: the pair file at the buffer's start, and the bytes after it as they were; a refusal writes nothing, nor does "none"
abbrev pub left_by : Answer Found → ℕ → List ℕ → List ℕ → List ℕ
left_by (refused number place) n s output = output
left_by (given None) n s output = output
left_by (given (Some x)) n s output = pair_file n s x ++ drop (pair_size n) output

-- what the call leaves in the buffer that held `output`
unfoldable pub watch_output : List ℕ → List ℕ → ℕ → List ℕ → List ℕ
watch_output c s w output = left_by (watch_call c s w (length output)) (circuit_of c).n s output
