-- Laws of the marks written one after the other, of their count, and of the verdict.
use Prim.Native.Nat.{ℕ, zero, suc, ◌+◌, ◌<◌}
use mathlib.Core.Path.{◌≡◌, refl, sym, ap, ◌∙◌}
use mathlib.Core.Bool.{Bool, true, false, cond}
use mathlib.Core.List.{List, [], ◌∷◌, ◌++◌}
use Rattle.std.specs.List.{list_all, filter, range_with_len}
use native.Mathlib.Numerals.{add-one}
use native.Mathlib.Omega.{arith}
use lib.ListN.{length, drop, take, get_or, set}
use lib.Seq.{drop-cons, append_snoc, set_at, take-nil}
use Rattle.std.proofs.lemmas.Grind.{get_or_after_one}
use Rattle.laws.specs.Sum.{all}
use Rattle.rules.specs.View.{mark_in}
use Rattle.derivation.specs.Call.{bit, marks_from, total, output_marked}
use Rattle.derivation.proofs.Sound.{marks_length}

marks_more : (m : ℕ → Bool) (s left : ℕ) → marks_from m s (suc left) ≡ marks_from m s left ++ (bit (m (suc (s + left))) ∷ [])
unfolding marks_from
marks_more m s zero = ap (λ (t : ℕ). bit (m (suc t)) ∷ []) (omega arith)
marks_more m s (suc left) =
    ap (λ (l : List ℕ). bit (m (suc s)) ∷ l)
    (marks_more m (suc s) left ∙ ap (λ (t : ℕ). marks_from m (suc s) left ++ (bit (m (suc t)) ∷ [])) (omega arith))

module _ (m : ℕ → Bool) (s : ℕ) where
  next_mark : marks_from m 0 (s + 1) ≡ marks_from m 0 s ++ (bit (m (s + 1)) ∷ [])
  next_mark = ap (marks_from m 0) (add-one s) ∙ marks_more m 0 s ∙ ap (λ (t : ℕ). marks_from m 0 s ++ (bit (m t) ∷ [])) (omega arith)

  -- the byte of the next signal stored after those before it
  pub marks_stored : (out first : List ℕ) → s < length first → out ≡ marks_from m 0 s ++ drop s first
      → (x : ℕ) → x ≡ bit (m (s + 1)) → set out s x ≡ marks_from m 0 (s + 1) ++ drop (s + 1) first
  marks_stored out first h e x is =
      ap (λ (l : List ℕ). set l s x) (e ∙ ap (λ (l : List ℕ). marks_from m 0 s ++ l) (drop-cons first s 0 h))
      ∙ set_at (marks_from m 0 s) _ _ x s (marks_length m 0 s)
      ∙ rw (is, next_mark, add-one s, append_snoc)

pub none_written : (m : ℕ → Bool) (first : List ℕ) → first ≡ marks_from m 0 0 ++ drop 0 first
unfolding marks_from
none_written m first = refl

-- the marks of the `left` signals after s, of an array of which xs is what follows s
counted_from : (m : ℕ → Bool) (xs : List Bool) (s left : ℕ) → ((k : ℕ) → get_or xs k false ≡ m (suc (s + k)))
    → length (filter (λ b. b) (take left xs)) ≡ total (marks_from m s left)
unfolding marks_from total
counted_from m xs s zero h = refl
counted_from m [] s (suc left) h =
    let here : m (suc s) ≡ false = (let z : s ≡ s + 0 = omega arith in ap (λ (t : ℕ). m (suc t)) z) ∙ sym (h 0) in
    let rest = counted_from m [] (suc s) left (λ k. h (suc k) ∙ (let z : s + suc k ≡ suc s + k = omega arith in ap (λ (t : ℕ). m (suc t)) z)) in
    rw here (omega (arith, rw (take-nil {A = Bool} left) at rest))
counted_from m (x ∷ xs) s (suc left) h =
    let here : x ≡ m (suc s) = h 0 ∙ (let z : s + 0 ≡ s = omega arith in ap (λ (t : ℕ). m (suc t)) z) in
    let rest = counted_from m xs (suc s) left (λ k. h (suc k) ∙ (let z : s + suc k ≡ suc s + k = omega arith in ap (λ (t : ℕ). m (suc t)) z)) in
    rw (← here) (one x (filter (λ b. b) (take left xs)) rest)
  where
    one : (b : Bool) (bs : List Bool) {n : ℕ} → length bs ≡ n → length (cond b (b ∷ bs) bs) ≡ bit b + n
    one true bs e = omega (arith, e)
    one false bs e = omega (arith, e)

pub marks_counted : (marks : List Bool) (n : ℕ) → length (filter (λ b. b) (take n (drop 1 marks))) ≡ total (marks_from (mark_in marks) 0 n)
unfolding mark_in
marks_counted marks n =
    counted_from (mark_in marks) (drop 1 marks) 0 n
    (λ k. get_or_after_one marks k false ∙ (let z : 1 + k ≡ suc (0 + k) = omega arith in ap (λ (t : ℕ). get_or marks t false) z))

-- a range of outputs, each tested
range_all : (q r : ℕ → Bool) (a n : ℕ) → ((s : ℕ) → q (a + s) ≡ r s) → list_all q (range_with_len a n) ≡ all n r
unfolding all
range_all q r a zero h = refl
range_all q r a (suc n) h =
    let here : q a ≡ r 0 = (let z : a ≡ a + 0 = omega arith in ap q z) ∙ h 0 in
    rw (here, range_all q (λ s. r (suc s)) (a + 1) n (λ s. (let z : a + 1 + s ≡ a + suc s = omega arith in ap q z) ∙ h (suc s)))

pub outputs_marked : (m : ℕ → Bool) (i o : ℕ) → list_all (λ j. m (i + j + 1)) (range_with_len 0 o) ≡ all o (output_marked m i)
unfolding output_marked
outputs_marked m i o = range_all _ _ 0 o (λ s. let z : i + (0 + s) + 1 ≡ suc (i + s) = omega arith in ap m z)
