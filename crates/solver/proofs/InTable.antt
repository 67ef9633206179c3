-- What the facts that a table keeps say of its circuit and of its rows.
use Prim.Native.Nat.{ℕ, ◌≤◌, ◌<◌}
use native.Mathlib.Omega.{arith}
use Rattle.circuit.specs.Call.{Sized}
use Rattle.circuit.proofs.Sized.{call_sized}
use Rattle.solver.specs.Links.{Prepared}
use Rattle.solver.specs.Table.{bytes_in, sizes_in}
use Rattle.solver.specs.declared.table.Table.{Table}

pub sized_in : (T : Table) → Sized (bytes_in T) (sizes_in T)
sized_in T = call_sized T.constraints.now.file.read

pub prepared_in : (T : Table) → Prepared (bytes_in T) T.constraints.now.offsets T.ends.now T.rows.now (sizes_in T)
prepared_in T = record { sized = sized_in T; offsets = T.constraints.now.placed; made = T.made }

-- the number of a constraint is a place of what is kept
pub place_in : (T : Table) {k : ℕ} → k ≤ (sizes_in T).m → k < 513
place_in T h = let Z = sized_in T in omega (arith, h, Z.is_m, Z.formed.m_most)
