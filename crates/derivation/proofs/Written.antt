-- Bytes written one after the other: runs of stores, and the steps of a derivation among them.
use Prim.Native.Nat.{ℕ, suc, ◌+◌, ◌*◌, ◌-◌, ◌≤◌, min}
use mathlib.Core.Path.{◌≡◌, refl, sym, ap, ◌∙◌}
use mathlib.Core.List.{List, [], ◌∷◌, ◌++◌, append_assoc, append-nil}
use native.Mathlib.Nat.{add-zero}
use native.Mathlib.Omega.{arith}
use lib.ListN.{length, set, take, drop}
use lib.Seq.{sets, length-sets, sets-eq, set_out, drop_at, length-take-le}
use borrow.Rule.Slice.PartMut.{put_mid}
use Rattle.std.proofs.lemmas.Bool.{cases_lt}
use Rattle.std.proofs.Common.{inl, inr, take-append-drop, drop-drop}
use Rattle.std.proofs.lemmas.List.{drop_all}
use Rattle.laws.specs.Step.{Step}
use Rattle.derivation.specs.Steps.{head_size, step_size}
use Rattle.derivation.specs.Encoded.{header_bytes, step_bytes, steps_bytes, encoded, stored}
use Rattle.derivation.proofs.Encoding.{bytes_length}

sets_append : {A : Type 0} (l : List A) (i : ℕ) (xs ys : List A) → sets l i (xs ++ ys) ≡ sets (sets l i xs) (i + length xs) ys
sets_append l i [] ys = ap (λ (k : ℕ). sets l k ys) (sym (add-zero i))
sets_append l i (x ∷ xs) ys =
    let next : suc i + length xs ≡ i + suc (length xs) = omega arith in
    sets_append (set l i x) (suc i) xs ys ∙ ap (λ (k : ℕ). sets (sets (set l i x) (suc i) xs) k ys) next

steps_bytes_append : (xs ys : List Step) → steps_bytes (xs ++ ys) ≡ steps_bytes xs ++ steps_bytes ys
unfolding steps_bytes
steps_bytes_append [] ys = refl
steps_bytes_append (x ∷ xs) ys =
    ap (λ (s : List ℕ). step_bytes x ++ s) (steps_bytes_append xs ys) ∙ sym (append_assoc (step_bytes x) (steps_bytes xs) (steps_bytes ys))

-- what is stored keeps the buffer's length
pub same_room : {out' : List ℕ} (out : List ℕ) (at : ℕ) (bs : List ℕ) → out' ≡ stored out at bs → length out' ≡ length out
unfolding stored
same_room out at bs e = ap length e ∙ length-sets out at bs

pub nothing_stored : (out : List ℕ) (at : ℕ) → out ≡ stored out at []
unfolding stored
nothing_stored out at = refl

-- bytes stored after those before them
stored_append : (out₀ out : List ℕ) (at : ℕ) (xs ys : List ℕ) → out ≡ stored out₀ at xs → stored out (at + length xs) ys ≡ stored out₀ at (xs ++ ys)
unfolding stored
stored_append out₀ out at xs ys e = ap (λ (o : List ℕ). sets o (at + length xs) ys) e ∙ sym (sets_append out₀ at xs ys)

-- steps written after those before them
pub written_append : (out₀ out : List ℕ) (at : ℕ) (xs ys : List Step) → out ≡ stored out₀ at (steps_bytes xs)
    → stored out (at + step_size * length xs) (steps_bytes ys) ≡ stored out₀ at (steps_bytes (xs ++ ys))
written_append out₀ out at xs ys e =
    ap (λ (k : ℕ). stored out (at + k) (steps_bytes ys)) (sym (bytes_length xs))
    ∙ stored_append out₀ out at (steps_bytes xs) (steps_bytes ys) e
    ∙ sym (ap (stored out₀ at) (steps_bytes_append xs ys))

-- one step more
pub written_next : (out₀ out : List ℕ) (at : ℕ) (xs : List Step) (x : Step) → out ≡ stored out₀ at (steps_bytes xs)
    → stored out (at + step_size * length xs) (step_bytes x) ≡ stored out₀ at (steps_bytes (xs ++ (x ∷ [])))
unfolding steps_bytes
written_next out₀ out at xs x e =
    ap (stored out (at + step_size * length xs)) (sym (append-nil (step_bytes x))) ∙ written_append out₀ out at xs (x ∷ []) e

-- the header before the steps
pub header_written : (out₀ out : List ℕ) (xs : List Step) → out ≡ stored out₀ head_size (steps_bytes xs)
    → head_size + step_size * length xs ≤ length out₀
    → stored out 0 (header_bytes (length xs)) ≡ encoded xs ++ drop (head_size + step_size * length xs) out₀
unfolding stored encoded
header_written out₀ out xs e h =
    let header : List ℕ = header_bytes (length xs) in
    let room : length out ≡ length out₀ = ap length e ∙ length-sets out₀ 7 (steps_bytes xs) in
    sets-eq header out 0 (omega arith)
    ∙ ap (λ (r : List ℕ). header ++ r)
    (ap (drop 7) (e ∙ sets-eq (steps_bytes xs) out₀ 7 (omega (arith, bytes_length xs)) ∙ append_assoc (take 7 out₀) (steps_bytes xs) _)
    ∙ drop_at (take 7 out₀) (steps_bytes xs ++ drop (7 + length (steps_bytes xs)) out₀) 7 (length-take-le 7 out₀ (omega arith))
    ∙ ap (λ (k : ℕ). steps_bytes xs ++ drop (7 + k) out₀) (bytes_length xs))

-- bytes past the end are left out
sets_past : {A : Type 0} (l : List A) (i : ℕ) (xs : List A) → length l ≤ i → sets l i xs ≡ l
sets_past l i [] h = refl
sets_past {A} l i (x ∷ xs) h = ap (λ (s : List A). sets s (suc i) xs) (set_out l i x h) ∙ sets_past l (suc i) xs (omega arith)

sets_fit : {A : Type 0} (l : List A) (i : ℕ) (xs : List A) (n : ℕ) → i + n ≤ length l → n ≡ min (length xs) (length l - i) → sets l i xs ≡ sets l i (take n xs)
sets_fit {A} l i xs n h e =
    let long : length (take n xs) ≡ n = length-take-le n xs (omega arith) in
    let rest : sets (sets l i (take n xs)) (i + length (take n xs)) (drop n xs) ≡ sets l i (take n xs)
    = elim (cases_lt n (length xs)) [
      | inl few ↦ sets_past (sets l i (take n xs)) (i + length (take n xs)) (drop n xs) (omega (arith, long, length-sets l i (take n xs)))
      | inr all ↦ ap (λ (s : List A). sets (sets l i (take n xs)) (i + length (take n xs)) s) (drop_all n xs all)
    ] in
    ap (sets l i) (sym (take-append-drop n xs)) ∙ sets_append l i (take n xs) (drop n xs) ∙ rest

-- what a copy leaves, of bytes that fit ..
pub bytes_put : (out bs : List ℕ) (at k : ℕ) → at + length bs ≤ length out → k ≡ length bs → put_mid at k out bs ≡ stored out at bs
unfolding stored
bytes_put out bs at k fits same =
    sym
    (sets-eq bs out at fits
    ∙ append_assoc (take at out) bs _
    ∙ ap (λ (r : List ℕ). take at out ++ (bs ++ r)) (ap (λ (j : ℕ). drop (at + j) out) (sym same) ∙ sym (drop-drop k at out)))

-- .. and of those of any bytes that do
pub bytes_stored : (out bs : List ℕ) (at start n k : ℕ) → start ≡ min at (length out) → n ≡ min (length bs) (length out - start) → k ≡ n
    → put_mid start k out (take n bs) ≡ stored out at bs
unfolding stored
bytes_stored out bs at start n k s e same =
    let long : length (take n bs) ≡ n = length-take-le n bs (omega arith) in
    let whole : sets out at bs ≡ sets out start (take n bs)
    = elim (cases_lt (length out) at) [
      | inl past ↦ sets_past out at bs (omega arith) ∙ sym (sets_past out start (take n bs) (omega arith))
      | inr within ↦
          let here : at ≡ start = omega arith in
          ap (λ (i : ℕ). sets out i bs) here ∙ sets_fit out start bs n (omega arith) e
    ] in
    bytes_put out (take n bs) start k (omega (arith, long)) (omega (arith, long)) ∙ sym whole
