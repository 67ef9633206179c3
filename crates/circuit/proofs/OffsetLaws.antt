-- Laws of the table of offsets: how it is made, and that it finds the constraints of a circuit that was read.
use Prim.Native.Nat.{ℕ, zero, suc, ◌+◌, ◌-◌, ◌*◌, ◌≤◌, ◌<◌, min}
use mathlib.Core.Path.{◌≡◌, refl, sym, ap, ◌∙◌}
use mathlib.Core.List.{List, ◌∷◌, ◌++◌}
use native.Mathlib.Decide.{ℕ_discrete}
use native.Mathlib.Omega.{arith}
use lib.ListN.{length, get_or, set, replicate, drop, length-set, get_or-append}
use lib.Seq.{get_or-set_same, get_or-set_other, get_or-append_right, get_or-drop}
use Rattle.circuit.specs.Circuit.{constraint_at}
use Rattle.circuit.specs.Reader.{constraint_in, offset_after, offset_at}
use Rattle.circuit.specs.Call.{circuit_of, Sized}
use Rattle.circuit.specs.Offsets.{Offsets, part_of}
use Rattle.circuit.specs.declared.reader.Sizes.{Sizes}
use Rattle.circuit.proofs.CopyLaws.{zeros}
use Rattle.circuit.proofs.Stored.{offset_next, part_offset, read_part}

-- ---- how it is made

-- of the entries from 1 on the first k are right, and `at` is the next
pub record Filling (s : List ℕ) (m : ℕ) (entries : List ℕ) (at k : ℕ) : Type 0 where
  pub room : m ≤ 512
  pub sized : length entries ≡ m
  pub near : at ≤ 17 + 4593 * k
  pub next : at ≡ offset_at s k
  pub entry : (j : ℕ) → j < k → get_or entries j 0 ≡ offset_at s j

pub filling_start : (s entries : List ℕ) → length entries ≤ 512 → Filling s (length entries) entries 17 0
unfolding offset_at
filling_start s entries room =
    record { room = room; sized = refl; near = omega arith; next = refl; entry = λ (j : ℕ) (h : j < 0). absurd (omega arith) }

pub filling_again : {s : List ℕ} {m : ℕ} {entries : List ℕ} {at k : ℕ} {x y z : ℕ} → Filling s m entries at k → k < m
    → (x ≡ offset_after s at) × (x ≤ at + 1531) → (y ≡ offset_after s x) × (y ≤ x + 1531) → (z ≡ offset_after s y) × (z ≤ y + 1531)
    → Filling s m (set entries k at) z (k + 1)
filling_again {s} {m} {entries} {at} {k} F b e f g =
    record {
      room = F.room;
      sized = length-set entries k at ∙ F.sized;
      near = omega (arith, F.near, e.1, f.1, g.1);
      next = next s k F.next e.0 f.0 g.0;
      entry = λ j l. entry j l (ℕ_discrete j k);
    }
  where
    next : (s : List ℕ) (k : ℕ) {at x y z : ℕ} → at ≡ offset_at s k → x ≡ offset_after s at → y ≡ offset_after s x → z ≡ offset_after s y
        → z ≡ offset_at s (k + 1)
    next s k e f g h = rw (h, g, f, e) (sym (offset_next s k))

    entry : (j : ℕ) → j < k + 1 → Dec (j ≡ k) → get_or (set entries k at) j 0 ≡ offset_at s j
    entry j l (yes q) = rw q (get_or-set_same entries k at 0 (omega (arith, F.sized)) ∙ F.next)
    entry j l (no d) = get_or-set_other entries k j at 0 d ∙ F.entry j (omega arith)

-- the whole table: entry 0 before them, and what is left of the zeros after them
pub filling_end : {s : List ℕ} {m n : ℕ} {entries : List ℕ} {at k : ℕ} → Filling s m entries at k → m ≤ k → m ≡ n → (l : ℕ)
    → Offsets s n (0 ∷ (entries ++ drop l (replicate 512 0)))
filling_end {s} {m} {n} {entries} {k = k} F h e l = record { entry = entry; zeroth = refl; above = above }
  where
    rest : List ℕ
    rest = drop l (replicate 512 0)

    entry : (j : ℕ) → 1 ≤ j → j ≤ n → get_or (0 ∷ (entries ++ rest)) j 0 ≡ offset_at s (j - 1)
    entry zero g f = absurd (omega arith)
    entry (suc j) g f = get_or-append entries rest 0 j (omega (arith, F.sized)) ∙ F.entry j (omega arith) ∙ ap (offset_at s) (omega arith)

    above : (j : ℕ) → n < j → get_or (0 ∷ (entries ++ rest)) j 0 ≡ 0
    above zero g = absurd (omega arith)
    above (suc j) g =
        let i = j - length entries in
        get_or-append_right entries rest j 0 (omega (arith, F.sized)) ∙ get_or-drop l (replicate 512 0) i 0 ∙ zeros 512 (l + i)

-- ---- what it finds

-- the whole table, for a circuit that isn't refused
pub sized_offsets : {s : List ℕ} {z : Sizes} {table : List ℕ} → Sized s z → Offsets s (min z.m 512) table → Offsets s z.m table
sized_offsets {z = z} Z O = let e : min z.m 512 ≡ z.m = omega (arith, Z.formed.m_most, Z.is_m) in rw e at O

-- the part that the table finds is that of the constraint
pub sized_part : {s : List ℕ} {z : Sizes} {table : List ℕ} → Sized s z → Offsets s z.m table
    → (k : ℕ) → 1 ≤ k → k ≤ z.m → constraint_in (part_of s table k) ≡ constraint_at (circuit_of s) k
unfolding part_of
sized_part {s} {z} {table} Z O k l h =
    let at : get_or table k 0 ≡ offset_at s (k - 1) = O.entry k l h in
    let same : suc (k - 1) ≡ k = omega arith in
    let read = read_part s (circuit_of s) (length s) Z.read (k - 1) (omega (arith, Z.is_m)) in
    rw at (sym (read ∙ ap constraint_in (part_offset s (k - 1)))) ∙ ap (constraint_at (circuit_of s)) same
