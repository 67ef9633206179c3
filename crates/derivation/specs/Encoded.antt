-- Steps as the bytes of a derivation, and bytes stored in a buffer.
use Rattle.std.specs.Prelude.{ℕ, List, [], ◌∷◌, ◌++◌, length}
use Rattle.std.proofs.lemmas.List.Edits.{sets}
use Rattle.circuit.specs.Bytes.{low, high}
use Rattle.circuit.specs.Reader.{derivation_letter, file_start}
use Rattle.laws.specs.Step.{kind_number, Step}

-- Rule 2.2: kind, target, constraint and reference.
unfoldable pub step_bytes : Step → List ℕ
step_bytes x =
    kind_number x.kind
    ∷ low x.target
    ∷ high x.target
    ∷ low x.constraint
    ∷ high x.constraint
    ∷ low x.reference
    ∷ high x.reference
    ∷ []

unfoldable pub steps_bytes : List Step → List ℕ
steps_bytes [] = []
steps_bytes (x ∷ xs) = step_bytes x ++ steps_bytes xs

-- Rule 2.1: the mark, version 1 and the number of steps.
abbrev pub header_bytes : ℕ → List ℕ
header_bytes count = file_start derivation_letter count

-- Rule 2.1: the header, then the steps.
unfoldable pub encoded : List Step → List ℕ
encoded xs = header_bytes (length xs) ++ steps_bytes xs

-- bytes in a buffer from an offset on; those past its end are left out
unfoldable pub stored : List ℕ → ℕ → List ℕ → List ℕ
stored output at bs = sets output at bs
