-- EMPTY, the solver (rule 7.7): with the sheet that says nothing the call answers and writes what it does on the circuit alone.
use Prim.Native.Nat.{ℕ}
use mathlib.Core.Path.{◌≡◌, refl}
use mathlib.Core.List.{List}
use lib.Dec.{leb}
use lib.ListN.{length}
use Rattle.circuit.specs.Circuit.{Circuit}
use Rattle.circuit.specs.Reading.{Reading, whole, fault}
use Rattle.circuit.specs.Reader.{read_circuit}
use Rattle.circuit.specs.Answer.{Answer, given, ask, and_then}
use Rattle.circuit.specs.Call.{sizes_of, on_circuit, circuit_of}
use Rattle.laws.specs.Problem.{problem}
use Rattle.tags.specs.Tag.{Sheet, tagged}
use Rattle.tags.specs.Sheet.{empty_sheet, sheet_on}
use Rattle.tags.proofs.Empty.{no_tags, empty_given, empty_problem}
use Rattle.derivation.proofs.Empty.{plain_judged, empty_judged}
use Rattle.solver.specs.Call.{Solved, own, reached, solved, room_for, solver_on, solver_call, left_by, solver_output}

-- the call on a circuit alone
unfoldable pub plain_call : Circuit → ℕ → Answer Solved
plain_call C room =
    ask (leb (room_for C.n) room) 25 0
    (given (record { judgement = plain_judged C (reached (problem C)); bytes = length (own (problem C)) }))

empty_on : (C : Circuit) (room : ℕ) → solver_on (tagged C no_tags) no_tags room ≡ plain_call C room
unfolding solver_on solved plain_call
empty_on C room = rw (empty_problem C, empty_judged C (reached (problem C)))

pub empty_solver : (c : List ℕ) (room : ℕ) → solver_call c empty_sheet room ≡ on_circuit (read_circuit c) (λ C. plain_call C room)
unfolding solver_call
empty_solver c room = go (read_circuit c)
  where
    go : (R : Reading Circuit)
        → on_circuit R (λ (C : Circuit). and_then (sheet_on (sizes_of C) empty_sheet) (λ (T : Sheet). solver_on (tagged C T) T room))
        ≡ on_circuit R (λ C. plain_call C room)
    go (whole C size) = rw (empty_given (sizes_of C)) (empty_on C room)
    go (fault number place) = refl

-- .. and in the output buffer
pub empty_output : (c output : List ℕ) → solver_output c empty_sheet output
    ≡ left_by (on_circuit (read_circuit c) (λ C. plain_call C (length output))) (problem (circuit_of c)) output
unfolding solver_output
empty_output c output = rw (empty_solver c (length output), empty_problem (circuit_of c))
