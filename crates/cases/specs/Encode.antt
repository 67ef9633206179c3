-- The bytes of circuits, sheets, pairs, records and steps, for the table: the formats of Rules 1.1, 1.3, 2.1, 2.4, 2.5 and 2.7 written out.
use Rattle.std.specs.Prelude.{ℕ, ◌/◌, ◌%◌, List, [], ◌∷◌, ◌++◌, length}
use Rattle.circuit.specs.Circuit.{Form, Constraint, Circuit}
use Rattle.tags.specs.Tag.{Kind, Binary, Maxbit, Maxvalue, Tag}

-- Rule 1.1: low byte first
unfoldable pub u16_bytes : ℕ → List ℕ
u16_bytes x = x % 256 ∷ x / 256 ∷ []

unfoldable pub u32_bytes : ℕ → List ℕ
u32_bytes x = u16_bytes (x % 65536) ++ u16_bytes (x / 65536)

unfoldable pub terms_bytes : Form → List ℕ
terms_bytes [] = []
terms_bytes (t ∷ f) = u16_bytes t.signal ++ u32_bytes t.coefficient ++ terms_bytes f

unfoldable pub form_bytes : Form → List ℕ
form_bytes f = length f ∷ terms_bytes f

unfoldable pub constraints_bytes : List Constraint → List ℕ
constraints_bytes [] = []
constraints_bytes (K ∷ Ks) = form_bytes K.a ++ form_bytes K.b ++ form_bytes K.c ++ constraints_bytes Ks

unfoldable pub circuit_bytes : Circuit → List ℕ
circuit_bytes C =
    67 ∷ 81 ∷ 84 ∷ 1 ∷ 0
    ∷ u32_bytes C.p ++ u16_bytes C.n ++ u16_bytes C.i ++ u16_bytes C.o ++ u16_bytes C.m
    ++ constraints_bytes C.constraints

-- Rule 2.6: the number of a tag's kind
abbrev pub kind_byte : Kind → ℕ
kind_byte Binary = 1
kind_byte Maxbit = 2
kind_byte Maxvalue = 3

unfoldable pub entries_bytes : List Tag → List ℕ
entries_bytes [] = []
entries_bytes (t ∷ ts) = u16_bytes t.signal ++ kind_byte t.kind ∷ u32_bytes t.number ++ entries_bytes ts

-- a sheet with these tags
unfoldable pub sheet_bytes : List Tag → List ℕ
sheet_bytes ts = 84 ∷ 81 ∷ 84 ∷ 1 ∷ 0 ∷ u16_bytes (length ts) ++ entries_bytes ts

unfoldable pub values_bytes : List ℕ → List ℕ
values_bytes [] = []
values_bytes (x ∷ xs) = u32_bytes x ++ values_bytes xs

-- a file of recorded runs
unfoldable pub records_bytes : List (List ℕ) → List ℕ
records_bytes [] = []
records_bytes (run ∷ runs) = values_bytes run ++ records_bytes runs

-- a pair file: q, the first run, the second
unfoldable pub pair_bytes : ℕ → List ℕ → List ℕ → List ℕ
pair_bytes q first second = 80 ∷ 81 ∷ 84 ∷ 1 ∷ 0 ∷ u16_bytes q ++ values_bytes first ++ values_bytes second

-- a derivation of one step with any four numbers
unfoldable pub one_step : ℕ → ℕ → ℕ → ℕ → List ℕ
one_step kind target constraint reference =
    68 ∷ 81 ∷ 84 ∷ 1 ∷ 0 ∷ 1 ∷ 0 ∷ kind ∷ u16_bytes target ++ u16_bytes constraint ++ u16_bytes reference
