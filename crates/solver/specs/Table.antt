-- What the table of a call holds. How the solver runs, not what it means.
use Rattle.std.specs.Prelude.{ℕ, List, length}
use Rattle.circuit.specs.Circuit.{Circuit}
use Rattle.circuit.specs.Call.{circuit_of}
use Rattle.circuit.specs.Offsets.{part_of}
use Rattle.circuit.specs.declared.reader.Sizes.{Sizes}
use Rattle.rules.specs.Rows.{row_of}
use Rattle.rules.specs.declared.rows.Entry.{Entry}
use Rattle.rules.specs.Rows.{places}
use Rattle.solver.specs.declared.table.Table.{Table}

-- the bytes of its circuit, the numbers of their header, and the circuit in them
abbrev pub bytes_in : Table → List ℕ
bytes_in T = T.constraints.now.file.bytes.now

abbrev pub sizes_in : Table → Sizes
sizes_in T = T.constraints.now.file.sizes

abbrev pub circuit_in : Table → Circuit
circuit_in T = circuit_of (bytes_in T)

-- how many places for entries its rows lie in
abbrev pub places_in : Table → ℕ
places_in T = places (length (bytes_in T)) (sizes_in T).m

-- the part and the row of constraint k
abbrev pub part_in : Table → ℕ → List ℕ
part_in T k = part_of (bytes_in T) T.constraints.now.offsets k

abbrev pub row_in : Table → ℕ → List Entry
row_in T k = row_of T.constraints.now.offsets T.ends.now T.rows.now k
