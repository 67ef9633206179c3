-- Rows have room and don't overlap: a row has an entry for the constant and at most one for each term, and a term takes six bytes.
use Prim.Native.Nat.{ℕ, zero, suc, ◌+◌, ◌*◌, ◌-◌, ◌/◌, ◌≤◌, ◌<◌}
use mathlib.Core.Path.{◌≡◌, refl, sym, ap, ◌∙◌}
use mathlib.Core.Bool.{Bool, true, false, ◌||◌}
use mathlib.Core.List.{List, [], ◌∷◌}
use native.Mathlib.Nat.{add-zero, zero-add, suc-add}
use native.Mathlib.Omega.{arith}
use lib.Dec.{leb, eqb}
use lib.ListN.{length, drop}
use borrow.Author.Tests.{ne_eqb}
use Rattle.circuit.specs.Bytes.{byte_at, u16_at}
use Rattle.circuit.specs.Circuit.{Form, Constraint, names}
use Rattle.circuit.specs.Reader.{terms_in, form_in, after_form, constraint_in, offset_after, offset_at}
use Rattle.circuit.specs.Offsets.{Offsets, part_of}
use Rattle.circuit.specs.Call.{circuit_of, Sized}
use Rattle.circuit.specs.declared.reader.Sizes.{Sizes}
use Rattle.circuit.proofs.ByteLaws.{byte_drop}
use Rattle.circuit.proofs.Stored.{form_offset, offset_near}
use Rattle.circuit.proofs.OffsetLaws.{sized_part}
use Rattle.laws.specs.Sum.{keep}
use Rattle.laws.proofs.Sum.{or_right, true_or_false, by_test, by_order, keep_false, keep_le, sum_mono, sum_plus, sum_zeros, sum_one}
use Rattle.rules.specs.declared.rows.Entry.{Entry}
use Rattle.rules.specs.Rows.{at, one, rank, involves, stands, start_of, row_size, Roomy}

-- How many signals stand

rank_under : (n : ℕ) (q a b : ℕ → Bool) → ((s : ℕ) → q s ≡ true → (a s || b s) ≡ true) → rank q n ≤ rank a n + rank b n
unfolding rank one keep
rank_under n q a b h =
    omega (arith, sum_mono n (one q) (λ s. one a s + one b s) (λ s l. either (q s) (a s) (b s) (h s)), sum_plus n (one a) (one b))
  where
    either : (x y z : Bool) → (x ≡ true → (y || z) ≡ true) → keep x 1 ≤ keep y 1 + keep z 1
    either false y z h = omega arith
    either true true z h = omega arith
    either true false true h = omega arith
    either true false false h = true_or_false false (h refl) refl

rank_one : (x n : ℕ) → rank (eqb x) n ≤ 1
unfolding rank one
rank_one x n =
    by_order x n (λ h. omega (arith, sum_one n (one (eqb x)) x h (λ s l. other s), keep_le (eqb x x) 1))
    (λ h. omega (arith, sum_zeros n (one (eqb x)) (λ s l. other s (λ (e : s ≡ x). omega arith))))
  where
    other : (s : ℕ) → (s ≡ x → ⊥) → keep (eqb x s) 1 ≡ 0
    other s d = keep_false (eqb x s) 1 (ne_eqb x s (λ (e : x ≡ s). d (omega arith)))

rank_names : (f : Form) (n : ℕ) → rank (names f) n ≤ length f
unfolding names rank one keep
rank_names [] n = omega (arith, sum_zeros n (one (names [])) (λ s l. refl))
rank_names (x ∷ f) n = omega (arith, rank_under n (names (x ∷ f)) (eqb x.signal) (names f) (λ s e. e), rank_one x.signal n, rank_names f n)

rank_stands : (K : Constraint) (n : ℕ) → rank (stands K) n ≤ 1 + (length K.a + length K.b + length K.c)
unfolding involves stands
rank_stands K n =
    let ab : ℕ → Bool = λ s. names K.a s || names K.b s in
    omega (
      arith,
      rank_under n (stands K) (eqb 0) (involves K) constant_or,
      rank_one 0 n,
      rank_under n (involves K) ab (names K.c) (λ s e. e),
      rank_under n ab (names K.a) (names K.b) (λ s e. e),
      rank_names K.a n,
      rank_names K.b n,
      rank_names K.c n,
    )
  where
    constant_or : (s : ℕ) → stands K s ≡ true → (eqb 0 s || involves K s) ≡ true
    constant_or zero e = refl
    constant_or (suc s) e = or_right (eqb 0 (suc s)) _ e

-- How many bytes its terms take

terms_few : (left : ℕ) (s : List ℕ) → length (terms_in left s) ≤ left
unfolding terms_in
terms_few zero s = omega arith
terms_few (suc left) s =
    let rest = terms_few left (drop 6 s) in by_test (leb (u16_at s 0) 256) (λ e. rw e (omega arith)) (λ e. rw e (omega arith))

form_bytes_lem : (c : List ℕ) (offset : ℕ) → offset + 6 * length (form_in (drop offset c)) ≤ offset_after c offset
unfolding form_in offset_after
form_bytes_lem c offset =
    let count : byte_at (drop offset c) 0 ≡ byte_at c offset = byte_drop offset c 0 ∙ ap (byte_at c) (add-zero offset) in
    omega (arith, terms_few (byte_at (drop offset c) 0) (drop 1 (drop offset c)))

-- the bytes of constraint k, counted from 0, are six for each entry but the constant's
row_bytes : (c : List ℕ) (k n : ℕ) → offset_at c k + 6 * rank (stands (constraint_in (drop (offset_at c k) c))) n ≤ offset_at c (suc k) + 6
unfolding constraint_in offset_at
row_bytes c k n =
    let a = offset_at c k in
    let b = offset_after c a in
    let is_b : after_form (drop a c) ≡ drop b c = form_offset c a in
    let is_c : after_form (after_form (drop a c)) ≡ drop (offset_after c b) c = ap after_form is_b ∙ form_offset c b in
    omega (
      arith,
      rank_stands (constraint_in (drop a c)) n,
      form_bytes_lem c a,
      form_bytes_lem c b,
      form_bytes_lem c (offset_after c b),
      ap (λ (s : List ℕ). length (form_in s)) is_b,
      ap (λ (s : List ℕ). length (form_in s)) is_c,
    )

offset_grows : (c : List ℕ) (j d : ℕ) → offset_at c j ≤ offset_at c (d + j)
unfolding offset_at offset_after
offset_grows c j zero = omega (arith, ap (offset_at c) (zero-add j))
offset_grows c j (suc d) = omega (arith, offset_grows c j d, ap (offset_at c) (suc-add d j))

-- Where rows start and end

module _ {c : List ℕ} {z : Sizes} {table : List ℕ} (Z : Sized c z) (O : Offsets c z.m table) where
  size_bytes : (k : ℕ) → 1 ≤ k → k ≤ z.m → at table k + 6 * row_size (circuit_of c) k ≤ offset_at c k + 6
  unfolding at row_size part_of
  size_bytes k l h =
      let same : suc (k - 1) ≡ k = omega arith in
      let K = ap (λ (o : ℕ). constraint_in (drop o c)) (sym (O.entry k l h)) ∙ sized_part Z O k l h in
      omega (arith, O.entry k l h, rw (K, same) at (row_bytes c (k - 1) (suc (circuit_of c).n)))

  -- a row ends before the next ones start
  pub rows_apart : (j k : ℕ) → 1 ≤ j → j < k → k ≤ z.m → start_of table j + row_size (circuit_of c) j ≤ start_of table k
  unfolding start_of at row_size
  rows_apart j k l d h =
      let same : k - 1 - j + j ≡ k - 1 = omega arith in
      omega (arith, size_bytes j l (omega arith), O.entry k (omega arith) h, rw same at (offset_grows c j (k - 1 - j)))

  pub row_within : (k : ℕ) → 1 ≤ k → k ≤ z.m → start_of table k + row_size (circuit_of c) k ≤ length c / 6 + z.m + 1
  unfolding start_of row_size
  row_within k l h =
      omega (arith, size_bytes k l h, offset_near c (circuit_of c) (length c) Z.read k (omega (arith, Z.is_m)))

  pub row_inside : {ends : List ℕ} {rows : List Entry} → Roomy (length c) z.m ends rows → (k : ℕ) → 1 ≤ k → k ≤ z.m
      → start_of table k + row_size (circuit_of c) k ≤ length rows
  row_inside R k l h = omega (arith, row_within k l h, R.rows_room)
