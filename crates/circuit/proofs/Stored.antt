-- Reading without tests gives what was read: constraints, and the offsets at which they stand.
use Prim.Native.Nat.{ℕ, zero, suc, ◌+◌, ◌*◌, ◌≤◌, ◌<◌}
use mathlib.Core.Path.{◌≡◌, refl, ap, ◌∙◌}
use mathlib.Core.List.{List}
use native.Mathlib.Nat.{add-zero}
use native.Mathlib.Numerals.{add-one, unary_clauses}
use native.Mathlib.Omega.{arith}
use lib.ListN.{length, drop, length-drop}
use lib.Seq.{drop-drop}
use Rattle.circuit.specs.Bytes.{byte_at}
use Rattle.circuit.specs.Circuit.{Form, Constraint, Circuit, constraint_at}
use Rattle.circuit.specs.Reading.{whole}
use Rattle.circuit.specs.Reader.{read_circuit, after_form, after_constraint, constraint_in, part_from, offset_after, offset_at}
use Rattle.circuit.proofs.ByteLaws.{byte_drop}
use Rattle.circuit.proofs.WellFormed.{FormRead, ConstraintRead, circuit_whole, read_well_formed}

pub part_next : (k : ℕ) (s : List ℕ) → part_from (suc k) s ≡ after_constraint (part_from k s)
unfolding part_from
part_next zero s = refl
part_next (suc k) s = part_next k (after_constraint s)

count_at : (s : List ℕ) (at : ℕ) → byte_at (drop at s) 0 ≡ byte_at s at
count_at s at = byte_drop at s 0 ∙ ap (byte_at s) (add-zero at)

pub form_offset : (s : List ℕ) (at : ℕ) → after_form (drop at s) ≡ drop (offset_after s at) s
unfolding after_form offset_after
form_offset s at = rw (drop-drop (1 + 6 * byte_at (drop at s) 0) at s, count_at s at)

pub offset_next : (s : List ℕ) (k : ℕ) → offset_at s (k + 1) ≡ offset_after s (offset_after s (offset_after s (offset_at s k)))
unfolding offset_at
offset_next s k = rw (add-one k)

pub part_offset : (s : List ℕ) (k : ℕ) → part_from k (drop 17 s) ≡ drop (offset_at s k) s
unfolding offset_at part_from after_constraint
part_offset s zero = refl
part_offset s (suc k) = part_next k (drop 17 s) ∙ simp (part_offset s k, form_offset)

form_near : {n p : ℕ} (s : List ℕ) (at : ℕ) {f : Form} {k : ℕ} → FormRead n p (drop at s) f k → offset_after s at ≤ length s
unfolding offset_after
form_near s at {k = k} F =
    let size : k ≡ 1 + 6 * byte_at s at = rw (count_at s at) at F.sized in
    omega (arith, F.inside, length-drop at s)

-- constraint k, counted from 0, ends in the file
next_near : {n p : ℕ} (s : List ℕ) (k : ℕ) {K : Constraint} {size : ℕ} → ConstraintRead n p (part_from k (drop 17 s)) K size
    → offset_at s (suc k) ≤ length s
unfolding offset_at
next_near s k R =
    let at = offset_at s k in
    form_near s _ (rw (part_offset s k, form_offset s at, form_offset s (offset_after s at)) at R.form_c)

constraint_in_lem : {n p : ℕ} {s : List ℕ} {K : Constraint} {size : ℕ} → n ≤ 256 → ConstraintRead n p s K size → K ≡ constraint_in s
unfolding constraint_in
constraint_in_lem h R = rw (R.form_a.stored h, R.form_b.stored h, R.form_c.stored h)

module _ (s : List ℕ) (C : Circuit) (size : ℕ) (e : read_circuit s ≡ whole C size) where
  part_read : (k : ℕ) → k < C.m → (i : ℕ) × ConstraintRead C.n C.p (part_from k (drop 17 s)) (constraint_at C (suc k)) i
  unfolding constraint_at
  part_read k h = simp unary_clauses ((circuit_whole s e).read.part k h)

  pub read_part : (k : ℕ) → k < C.m → constraint_at C (suc k) ≡ constraint_in (part_from k (drop 17 s))
  read_part k h = constraint_in_lem (read_well_formed s C size e).n_most (part_read k h).1

  pub offset_near : (k : ℕ) → k ≤ C.m → offset_at s k ≤ length s
  unfolding offset_at
  offset_near zero h = (circuit_whole s e).least
  offset_near (suc k) h = next_near s k (part_read k (omega arith)).1
