-- The renewal call (rule 6.11) on all bytes: its answer, and what it leaves in the lent output buffer.
use Rattle.std.specs.Prelude.{ℕ, true, List, ◌++◌, leb, length, drop}
use Rattle.circuit.specs.Reader.{read_circuit}
use Rattle.circuit.specs.Answer.{Answer, refused, given, ask, and_then}
use Rattle.circuit.specs.Call.{sizes_of, on_circuit, circuit_of}
use Rattle.laws.specs.Problem.{Problem}
use Rattle.laws.specs.Standing.{start}
use Rattle.laws.specs.Step.{less_idle}
use Rattle.tags.specs.Tag.{tagged}
use Rattle.tags.specs.Sheet.{sheet_of, sheet_on}
use Rattle.derivation.specs.Steps.{walked, steps_of}
use Rattle.derivation.specs.Call.{framed}
use Rattle.derivation.specs.Encoded.{encoded}

-- Rule 6.11: the derivation of the given steps that aren't idle where they stand.
unfoldable pub renewed : Problem → List ℕ → List ℕ
renewed P d = encoded (less_idle P (start P) (steps_of d))

-- Refusals 11 to 13 and 15 to 17, idle steps let pass, then 25, and then the new length; room is the length of the output buffer.
unfoldable pub renewal_on : Problem → List ℕ → ℕ → Answer ℕ
renewal_on P d room = and_then (framed d (walked true P d)) (λ S. ask (leb (length d) room) 25 0 (given (length (renewed P d))))

-- The call's answer, for a circuit c, a sheet h and a derivation d: the circuit first, refusals 1 to 10, then the sheet, 26 and 27.
unfoldable pub renewal_call : List ℕ → List ℕ → List ℕ → ℕ → Answer ℕ
renewal_call c h d room = on_circuit (read_circuit c) (λ C. and_then (sheet_on (sizes_of C) h) (λ T. renewal_on (tagged C T) d room))

-- Rule 6.4: the renewed derivation at the buffer's start, and the bytes after it as they were; a refusal writes nothing.
abbrev pub left_by : Answer ℕ → Problem → List ℕ → List ℕ → List ℕ
left_by (refused number place) P d output = output
left_by (given bytes) P d output = renewed P d ++ drop (length (renewed P d)) output

-- what the call leaves in the buffer that held `output`
unfoldable pub renewal_output : List ℕ → List ℕ → List ℕ → List ℕ → List ℕ
renewal_output c h d output = left_by (renewal_call c h d (length output)) (tagged (circuit_of c) (sheet_of h)) d output
