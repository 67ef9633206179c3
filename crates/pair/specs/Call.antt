-- The pair call (rule 6.8): the circuit's refusals 1 to 10, then the sheet's, 26 and 27, then 18 to 24 in checking order with 28 before 24, or the signal q.
use Rattle.std.specs.Prelude.{ℕ, ◌+◌, ◌*◌, not, List, ltb, leb, eqb, length, drop}
use Rattle.circuit.specs.Bytes.{u16_at}
use Rattle.circuit.specs.Circuit.{Constraint, Circuit, constraint_at, value_of}
use Rattle.circuit.specs.Reader.{pair_letter, has_mark, read_circuit}
use Rattle.circuit.specs.Runs.{value_size, run_in, first_from, below, satisfied_by, agree}
use Rattle.circuit.specs.Answer.{Answer, given, ask, ask_none, and_then}
use Rattle.circuit.specs.Call.{sizes_of, on_circuit}
use Rattle.circuit.specs.declared.reader.Sizes.{Sizes}
use Rattle.tags.specs.Tag.{Sheet, kept}
use Rattle.tags.specs.Sheet.{sheet_on}

-- Rule 2.4: the mark, the version and the signal q, then the first run's values, then the second's
abbrev pub pair_header : ℕ
pair_header = 7

abbrev pub signal_of : List ℕ → ℕ
signal_of t = u16_at t 5

abbrev pub values_of : List ℕ → List ℕ
values_of t = drop pair_header t

abbrev pub first_run : ℕ → List ℕ → List ℕ
first_run n t = run_in (values_of t) n

abbrev pub second_run : ℕ → List ℕ → List ℕ
second_run n t = run_in (drop (value_size * n) (values_of t)) n

-- Refusals 18 to 21, or q
unfoldable pub file_on : Sizes → List ℕ → Answer ℕ
file_on z t =
    ask (leb pair_header (length t)) 18 0
    (ask (has_mark pair_letter t) 18 0
    (ask (eqb (u16_at t 3) 1) 19 0
    (ask (eqb (length t) (pair_header + 2 * value_size * z.n)) 20 0
    (ask (ltb z.i (signal_of t)) 20 0
    (ask (leb (signal_of t) (z.i + z.o)) 20 0
    (ask_none (first_from (below z.p (values_of t)) 1 (2 * z.n)) 21 0
    (given (signal_of t))))))))

-- Refusals 22, 23, 28 and 24 of two runs with values v and w, or q. The place of 22 is counted on from m in the second run. At 28 the runs have the same
-- inputs: those of the first are asked.
unfoldable pub runs_on : Sizes → Sheet → (ℕ → Constraint) → (ℕ → ℕ) → (ℕ → ℕ) → ℕ → Answer ℕ
runs_on z T constraint v w q =
    ask_none (first_from (satisfied_by z.p constraint v) 1 z.m) 22 0
    (ask_none (first_from (satisfied_by z.p constraint w) 1 z.m) 22 z.m
    (ask_none (first_from (agree v w) 1 z.i) 23 0
    (ask_none (first_from (kept T v) 1 z.i) 28 0
    (ask (not (agree v w q)) 24 q
    (given q)))))

-- the pair of a circuit and a sheet that aren't refused
unfoldable pub pair_on : Circuit → Sheet → List ℕ → Answer ℕ
pair_on C T t =
    and_then (file_on (sizes_of C) t)
    (runs_on (sizes_of C) T (constraint_at C) (value_of (first_run C.n t)) (value_of (second_run C.n t)))

-- the call, on all bytes of a circuit, of a sheet and of a pair
unfoldable pub pair_call : List ℕ → List ℕ → List ℕ → Answer ℕ
pair_call s h t = on_circuit (read_circuit s) (λ C. and_then (sheet_on (sizes_of C) h) (λ T. pair_on C T t))
