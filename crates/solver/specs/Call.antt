-- The solver call, on all bytes: its answer, and what it leaves in the lent output buffer.
use Rattle.std.specs.Prelude.{ℕ, ◌+◌, ◌*◌, List, ◌++◌, leb, length, drop}
use Rattle.circuit.specs.Reader.{read_circuit}
use Rattle.circuit.specs.Answer.{Answer, refused, given, ask, and_then}
use Rattle.circuit.specs.Call.{sizes_of, on_circuit, circuit_of}
use Rattle.laws.specs.Problem.{Problem}
use Rattle.laws.specs.Standing.{Standing, start}
use Rattle.laws.specs.Step.{replay}
use Rattle.laws.specs.Solver.{solution}
use Rattle.tags.specs.Tag.{Sheet, tagged}
use Rattle.tags.specs.Sheet.{sheet_of, sheet_on}
use Rattle.derivation.specs.Call.{Judgement, judged}
use Rattle.derivation.specs.Encoded.{encoded}

-- Rule 6.7: the judgement of what the derivation reaches, and its length in bytes.
pub record Solved : Type 0 where
  pub judgement : Judgement
  pub bytes : ℕ

-- Rule 5.3: the solver's derivation, and the standing that it leads to.
unfoldable pub own : Problem → List ℕ
own P = encoded (solution P)

unfoldable pub reached : Problem → Standing
reached P = replay P (start P) (solution P)

-- what is answered where there is room
unfoldable pub solved : Problem → Sheet → Solved
solved P T = record { judgement = judged P T (reached P); bytes = length (own P) }

-- the room that refusal 25 asks for: the header, and three steps for each of n signals
abbrev pub room_for : ℕ → ℕ
room_for n = 7 + 21 * n

-- Refusal 25, and then the answer; room is the length of the output buffer.
unfoldable pub solver_on : Problem → Sheet → ℕ → Answer Solved
solver_on P T room = ask (leb (room_for P.n) room) 25 0 (given (solved P T))

-- The call's answer, for a circuit c and a sheet h: the circuit first, refusals 1 to 10, then the sheet, 26 and 27.
unfoldable pub solver_call : List ℕ → List ℕ → ℕ → Answer Solved
solver_call c h room = on_circuit (read_circuit c) (λ C. and_then (sheet_on (sizes_of C) h) (λ T. solver_on (tagged C T) T room))

-- Rule 6.4: the derivation at the buffer's start, and the bytes after it as they were; a refusal writes nothing.
abbrev pub left_by : Answer Solved → Problem → List ℕ → List ℕ
left_by (refused number place) P output = output
left_by (given x) P output = own P ++ drop (length (own P)) output

-- what the call leaves in the buffer that held `output`
unfoldable pub solver_output : List ℕ → List ℕ → List ℕ → List ℕ
solver_output c h output = left_by (solver_call c h (length output)) (tagged (circuit_of c) (sheet_of h)) output
