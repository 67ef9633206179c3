-- EMPTY, renewals (rule 7.7): with the sheet that says nothing the call answers and writes what it does on the circuit alone.
use Prim.Native.Nat.{ℕ}
use mathlib.Core.Path.{◌≡◌, refl}
use mathlib.Core.List.{List}
use lib.ListN.{length}
use Rattle.circuit.specs.Circuit.{Circuit}
use Rattle.circuit.specs.Reading.{Reading, whole, fault}
use Rattle.circuit.specs.Reader.{read_circuit}
use Rattle.circuit.specs.Answer.{and_then}
use Rattle.circuit.specs.Call.{sizes_of, on_circuit, circuit_of}
use Rattle.laws.specs.Problem.{problem}
use Rattle.tags.specs.Tag.{Sheet, tagged}
use Rattle.tags.specs.Sheet.{empty_sheet, sheet_on}
use Rattle.tags.proofs.Empty.{empty_given, empty_problem}
use Rattle.renewal.specs.Call.{renewal_on, renewal_call, left_by, renewal_output}

pub empty_renewal : (c d : List ℕ) (room : ℕ) → renewal_call c empty_sheet d room ≡ on_circuit (read_circuit c) (λ C. renewal_on (problem C) d room)
unfolding renewal_call
empty_renewal c d room = go (read_circuit c)
  where
    go : (R : Reading Circuit)
        → on_circuit R (λ (C : Circuit). and_then (sheet_on (sizes_of C) empty_sheet) (λ (T : Sheet). renewal_on (tagged C T) d room))
        ≡ on_circuit R (λ C. renewal_on (problem C) d room)
    go (whole C size) = rw (empty_given (sizes_of C), empty_problem C)
    go (fault number place) = refl

-- .. and in the output buffer
pub empty_output : (c d output : List ℕ) → renewal_output c empty_sheet d output
    ≡ left_by (on_circuit (read_circuit c) (λ C. renewal_on (problem C) d (length output))) (problem (circuit_of c)) d output
unfolding renewal_output
empty_output c d output = rw (empty_renewal c d (length output), empty_problem (circuit_of c))
