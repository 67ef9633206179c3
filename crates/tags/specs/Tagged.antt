-- Each call on a circuit and a sheet: the circuit's refusals 1 to 10, then the sheet's, 26 and 27, or what is answered for the two that were read.
use Rattle.std.specs.Prelude.{ℕ, List}
use Rattle.circuit.specs.Circuit.{Circuit}
use Rattle.circuit.specs.Reader.{read_circuit}
use Rattle.circuit.specs.Answer.{Answer, and_then}
use Rattle.circuit.specs.Call.{sizes_of, on_circuit}
use Rattle.tags.specs.Tag.{Sheet}
use Rattle.tags.specs.Sheet.{sheet_on}

abbrev pub on_tagged : {A : Type 0} → List ℕ → List ℕ → (Circuit → Sheet → Answer A) → Answer A
on_tagged c h f = on_circuit (read_circuit c) (λ C. and_then (sheet_on (sizes_of C) h) (f C))

-- the sheet, where neither is refused
unfoldable pub tagged_call : List ℕ → List ℕ → Answer Sheet
tagged_call c h = on_circuit (read_circuit c) (λ C. sheet_on (sizes_of C) h)
