-- The first-run and the next-run call (rules 6.12 and 6.13) on all bytes and values: what they answer, and what they leave in the lent buffer.
use Rattle.std.specs.Prelude.{ℕ, ◌^◌, Bool, List, ltb, leb, eqb, length}
use Rattle.std.proofs.Math.Option.{Option, none, some}
use Rattle.circuit.specs.Circuit.{Circuit, value_of}
use Rattle.circuit.specs.Reader.{read_circuit}
use Rattle.circuit.specs.Runs.{first_from}
use Rattle.circuit.specs.Answer.{Answer, refused, given, ask, ask_none}
use Rattle.circuit.specs.Call.{on_circuit}
use Rattle.runs.specs.Order.{precedes, passing, first_of, runs_of}

-- A run, or none where there are no more
abbrev pub Found : Type 0
Found = Option (List ℕ)

-- Rule 6.12: the least satisfying run. Rule 6.13: the least of those that a given run comes before.
unfoldable pub first_run : Circuit → Found
first_run C = first_of (runs_of C)

unfoldable pub next_run : Circuit → List ℕ → Found
next_run C run = first_of (passing (precedes run) (runs_of C))

-- Refusal 30: at most so many candidates
abbrev pub candidates_most : ℕ
candidates_most = 65536

unfoldable pub few : ℕ → ℕ → Bool
few p n = leb (p ^ n) candidates_most

-- Refusal 31: the value of signal s in a given run is below p
unfoldable pub fits : ℕ → List ℕ → ℕ → Bool
fits p run s = ltb (value_of run s) p

-- Refusals 30 and 31, then the run; room is the length of the buffer for the answer
unfoldable pub first_on : Circuit → ℕ → Answer Found
first_on C room =
    ask (few C.p C.n) 30 0
    (ask (eqb room C.n) 31 0
    (given (first_run C)))

unfoldable pub next_on : Circuit → List ℕ → ℕ → Answer Found
next_on C run room =
    ask (few C.p C.n) 30 0
    (ask (eqb (length run) C.n) 31 0
    (ask (eqb room C.n) 31 0
    (ask_none (first_from (fits C.p run) 1 C.n) 31 0
    (given (next_run C run)))))

-- the calls: the circuit first, refusals 1 to 10
unfoldable pub first_call : List ℕ → ℕ → Answer Found
first_call s room = on_circuit (read_circuit s) (λ C. first_on C room)

unfoldable pub next_call : List ℕ → List ℕ → ℕ → Answer Found
next_call s run room = on_circuit (read_circuit s) (λ C. next_on C run room)

-- Rule 6.4: the buffer that held `answer` holds the run; a refusal writes nothing, nor does "no more"
abbrev pub left_by : Answer Found → List ℕ → List ℕ
left_by (refused number place) answer = answer
left_by (given none) answer = answer
left_by (given (some run)) answer = run
