-- Laws of the readers, one for each way on or out of the code.
use Prim.Native.Nat.{ℕ, zero, suc, ◌+◌, ◌-◌, ◌≤◌, ◌<◌}
use mathlib.Core.Path.{◌≡◌, refl, sym, ap, ◌∙◌}
use mathlib.Core.Bool.{Bool, true, false}
use mathlib.Core.List.{List}
use native.Mathlib.Nat.{add-zero, zero-add, add_assoc}
use native.Mathlib.Numerals.{add-one}
use native.Mathlib.Omega.{arith}
use borrow.Author.Tests.{leb-true, le-leb, lt-ltb}
use lib.Dec.{ltb, leb}
use lib.ListN.{length, drop, take, length-drop}
use lib.Seq.{drop-drop, take_all}
use Rattle.circuit.specs.Bytes.{byte_at, u16_at, u32_at}
use Rattle.circuit.specs.Circuit.{Constraint}
use Rattle.circuit.specs.Reading.{Reading, whole, fault, require, after, mapped, next, Size, sized, faulty, size_of, further, extent}
use Rattle.circuit.specs.Reader.{read_terms, form_size, read_form, form_from, read_constraint, after_constraint}
use Rattle.circuit.proofs.ByteLaws.{u16_drop, u32_drop}
use Rattle.circuit.proofs.WellFormed.{constraint_whole}

-- sizes do not depend on what was read
pub size_after : {A : Type 0} (at : ℕ) (r : Reading A) → size_of (after at r) ≡ further at (size_of r)
size_after at (whole x size) = refl
size_after at (fault number offset) = refl

pub size_mapped : {A B : Type 0} (f : A → B) (r : Reading A) → size_of (mapped f r) ≡ size_of r
size_mapped f (whole x size) = refl
size_mapped f (fault number offset) = refl

pub further_further : (a b : ℕ) (z : Size) → further a (further b z) ≡ further (a + b) z
further_further a b (sized size) = ap sized (sym (add_assoc a b size))
further_further a b (faulty number offset) = ap (faulty number) (sym (add_assoc a b offset))

pub further_zero : (z : Size) → further 0 z ≡ z
further_zero (sized size) = ap sized (zero-add size)
further_zero (faulty number offset) = ap (faulty number) (zero-add offset)

-- what is left of a form where `left` terms are to be read from `at` on
unfoldable pub terms_from : ℕ → ℕ → List ℕ → ℕ → ℕ → ℕ → Size
terms_from n p s left at least = further at (size_of (read_terms n p left least (drop at s)))

-- go on where the test holds, else refuse at an offset
abbrev pub ask_size : Bool → ℕ → ℕ → Size → Size
ask_size true number at z = z
ask_size false number at z = faulty number at

pub further_require : {A : Type 0} (at : ℕ) (b : Bool) (number : ℕ) (r : Reading A)
    → further at (size_of (require b number r)) ≡ ask_size b number at (further at (size_of r))
further_require at true number r = refl
further_require at false number r = ap (faulty number) (add-zero at)

terms_done : (n p : ℕ) (s : List ℕ) (at least : ℕ) → terms_from n p s 0 at least ≡ sized at
unfolding terms_from read_terms
terms_done n p s at least = ap sized (add-zero at)

-- one term: the tests of the code in its order, then the terms after it
abbrev pub term_tests : ℕ → ℕ → List ℕ → ℕ → ℕ → ℕ → Size
term_tests n p s left at least =
    ask_size (leb 6 (length s - at)) 6 at
    (ask_size (leb (u16_at s at) n) 8 at
    (ask_size (leb least (u16_at s at)) 8 at
    (ask_size (ltb 0 (u32_at s (at + 2))) 9 at
    (ask_size (ltb (u32_at s (at + 2)) p) 9 at (terms_from n p s left (at + 6) (suc (u16_at s at)))))))

terms_turn : (n p : ℕ) (s : List ℕ) (left at least : ℕ) → terms_from n p s (suc left) at least ≡ term_tests n p s left at least
unfolding terms_from read_terms
terms_turn n p s left at least =
    simp (further_require, size_after, size_mapped, further_further, length-drop, u16_drop, u32_drop, drop-drop, add-zero)

pub size_require : {A : Type 0} (b : Bool) (number : ℕ) (r : Reading A) → size_of (require b number r) ≡ ask_size b number 0 (size_of r)
size_require true number r = refl
size_require false number r = refl

pub form_start : (n p : ℕ) (s : List ℕ) → size_of (read_form n p s)
    ≡ ask_size (leb 1 (length s)) 6 0 (ask_size (leb (byte_at s 0) 32) 7 0 (terms_from n p s (byte_at s 0) 1 0))
unfolding read_form terms_from
form_start n p s = simp (size_require, size_after)

-- a count that is not 0 is one more than the rest
pub one_more : {k : ℕ} → 0 < k → k ≡ suc (k - 1)
one_more {k} h = omega arith

-- At turn i of the term reader, of count, the whole answer is what is still to be read.
pub record Terms (n p : ℕ) (s : List ℕ) (count i least : ℕ) : Type 0 where
  pub few : count ≤ 32
  pub answer : size_of (read_form n p s) ≡ terms_from n p s (count - i) (form_size i) least

pub terms_start : (n p : ℕ) (s : List ℕ) {count : ℕ} → count ≡ byte_at s 0 → 1 ≤ length s → count ≤ 32 → Terms n p s count 0 0
terms_start n p s {count} known some h =
    let all : count - 0 ≡ count = omega arith in
    record { few = h; answer = form_start n p s ∙ rw (all, le-leb _ _ some, ← known, le-leb _ _ h) }

module _ {n p : ℕ} {s : List ℕ} {count i least : ℕ} (T : Terms n p s count i least) where
  abbrev place : ℕ
  place = form_size i

  module _ (some : i < count) where
    -- the tests of the code in their order
    pub term_turn : size_of (read_form n p s) ≡ term_tests n p s (count - (i + 1)) place least
    term_turn =
        let more : count - i ≡ suc (count - (i + 1)) = omega arith in
        T.answer ∙ ap (λ (k : ℕ). terms_from n p s k place least) more ∙ terms_turn n p s (count - (i + 1)) place least

    pub term_again : (signal coefficient : ℕ) → 6 ≤ length s - place → signal ≡ u16_at s place → signal ≤ n → least ≤ signal
        → coefficient ≡ u32_at s (place + 2) → (coefficient ≡ 0 → ⊥) → coefficient < p → Terms n p s count (i + 1) (signal + 1)
    term_again signal coefficient fits known low rises is positive below =
        let next : form_size i + 6 ≡ form_size (i + 1) = omega arith in
        record {
          few = T.few;
          answer =
              term_turn
              ∙ rw (le-leb _ _ fits, ← known, le-leb _ _ low, le-leb _ _ rises, add-one signal, ← is, lt-ltb 0 coefficient (omega arith), lt-ltb _ _ below, next);
        }

  pub terms_end : count ≤ i → i ≤ count → size_of (read_form n p s) ≡ sized (form_size count)
  terms_end h g =
      let none : count - i ≡ 0 = omega arith in
      let all : i ≡ count = omega arith in
      T.answer ∙ rw (none, all) (terms_done n p s (form_size count) least)

-- Nothing is read past the end.
pub extent_further : (at : ℕ) (z : Size) → extent (further at z) ≡ at + extent z
extent_further at (sized size) = refl
extent_further at (faulty number offset) = refl

ask_inside : (n : ℕ) (b : Bool) (number at : ℕ) (z : Size) → at ≤ n → (b ≡ true → extent z ≤ n) → extent (ask_size b number at z) ≤ n
ask_inside n true number at z h k = k refl
ask_inside n false number at z h k = h

terms_inside : (n p : ℕ) (s : List ℕ) (left at least : ℕ) → at ≤ length s → extent (terms_from n p s left at least) ≤ length s
terms_inside n p s zero at least h = rw (terms_done n p s at least) h
terms_inside n p s (suc left) at least h =
    rw (terms_turn n p s left at least)
    (ask_inside (length s) (leb 6 (length s - at)) 6 at _ h λ e.
    ask_inside (length s) (leb (u16_at s at) n) 8 at _ h λ _.
    ask_inside (length s) (leb least (u16_at s at)) 8 at _ h λ _.
    ask_inside (length s) (ltb 0 (u32_at s (at + 2))) 9 at _ h λ _.
    ask_inside (length s) (ltb (u32_at s (at + 2)) p) 9 at _ h λ _.
    terms_inside n p s left (at + 6) (suc (u16_at s at)) (omega (arith, leb-true 6 (length s - at) e)))

form_inside : (n p : ℕ) (s : List ℕ) → extent (size_of (read_form n p s)) ≤ length s
form_inside n p s =
    rw (form_start n p s)
    (ask_inside (length s) (leb 1 (length s)) 6 0 _ (omega arith) λ e.
    ask_inside (length s) (leb (byte_at s 0) 32) 7 0 _ (omega arith) λ _.
    terms_inside n p s (byte_at s 0) 1 0 (leb-true _ _ e))

-- the part of a slice from `at` on
pub part_drop : {A : Type 0} (s : List A) (at : ℕ) → at ≤ length s → take (length s - at) (drop at s) ≡ drop at s
part_drop s at h = take_all (length s - at) (drop at s) (simp length-drop (omega arith))

form_near : (n p : ℕ) (s : List ℕ) (at : ℕ) → at ≤ length s → extent (form_from n p s at) ≤ length s
unfolding form_from
form_near n p s at h =
    rw (extent_further at (size_of (read_form n p (drop at s)))) (omega (arith, form_inside n p (drop at s), length-drop at s))

-- a form read from its part, with offsets in the whole
pub form_part : (n p : ℕ) (s : List ℕ) (at : ℕ) (z : Size) → at ≤ length s → z ≡ size_of (read_form n p (take (length s - at) (drop at s)))
    → (further at z ≡ form_from n p s at) × (at + extent z ≤ length s)
unfolding form_from
form_part n p s at z h e =
    let same : further at z ≡ form_from n p s at = ap (further at) (rw (part_drop s at h) at e) in
    (same, omega (arith, extent_further at z, ap extent same, form_near n p s at h))

-- Reading on: what comes next starts where what was read ended.
unfoldable pub onward : Size → (ℕ → Size) → Size
onward (sized k) g = g k
onward (faulty number offset) g = faulty number offset

pub onward_on : {z : Size} {k : ℕ} (g : ℕ → Size) → z ≡ sized k → onward z g ≡ g k
unfolding onward
onward_on g e = rw e

pub onward_out : {z : Size} {number offset : ℕ} (g : ℕ → Size) → z ≡ faulty number offset → onward z g ≡ faulty number offset
unfolding onward
onward_out g e = rw e

pub onward_onward : (z : Size) (g h f : ℕ → Size) → ((k : ℕ) → onward (g k) h ≡ f k) → onward (onward z g) h ≡ onward z f
unfolding onward
onward_onward (sized k) g h f e = e k
onward_onward (faulty number offset) g h f e = refl

onward_inside : (n : ℕ) (z : Size) (g : ℕ → Size) → extent z ≤ n → ((k : ℕ) → k ≤ n → extent (g k) ≤ n) → extent (onward z g) ≤ n
unfolding onward
onward_inside n (sized k) g h near = near k h
onward_inside n (faulty number offset) g h near = h

pub next_onward : {A B : Type 0} (s : List ℕ) (at : ℕ) (r : Reading A) (f : A → List ℕ → Reading B) (g : ℕ → Size)
    → ((x : A) (k : ℕ) → further k (size_of (f x (drop k s))) ≡ g k) → further at (size_of (next (drop at s) r f)) ≡ onward (further at (size_of r)) g
unfolding onward
next_onward s at (whole x size) f g h =
    rw (size_after size (f x (drop size (drop at s))), further_further at size (size_of (f x (drop size (drop at s)))), drop-drop size at s)
    (h x (at + size))
next_onward s at (fault number offset) f g h = refl

-- Constraints: three forms, each from where the one before it ended.
unfoldable pub constraint_from : ℕ → ℕ → List ℕ → ℕ → Size
constraint_from n p s at = further at (size_of (read_constraint n p (drop at s)))

module _ (n p : ℕ) (s : List ℕ) where
  constraint_forms : (at : ℕ) → constraint_from n p s at ≡ onward (form_from n p s at) (λ b. onward (form_from n p s b) (form_from n p s))
  unfolding constraint_from read_constraint form_from
  constraint_forms at =
      next_onward s at (read_form n p (drop at s)) _ _
      λ a b. next_onward s b (read_form n p (drop b s)) _ _ λ _ c. ap (further c) (size_mapped _ (read_form n p (drop c s)))

  pub constraint_start : size_of (read_constraint n p s) ≡ onward (form_from n p s 0) (λ b. onward (form_from n p s b) (form_from n p s))
  unfolding constraint_from
  constraint_start = sym (further_zero (size_of (read_constraint n p s))) ∙ constraint_forms 0

  pub constraint_inside : (at : ℕ) → at ≤ length s → extent (constraint_from n p s at) ≤ length s
  constraint_inside at h =
      rw (constraint_forms at)
      (onward_inside (length s) (form_from n p s at) _ (form_near n p s at h)
      λ b l. onward_inside (length s) (form_from n p s b) _ (form_near n p s b l) (form_near n p s))

  -- the rest after a constraint at `at`
  pub constraint_rest : (at : ℕ) {k : ℕ} → constraint_from n p s at ≡ sized k → after_constraint (drop at s) ≡ drop k s
  unfolding constraint_from
  constraint_rest at {k} e = go (read_constraint n p (drop at s)) refl e
    where
      go : (r : Reading Constraint) → read_constraint n p (drop at s) ≡ r → further at (size_of r) ≡ sized k → after_constraint (drop at s) ≡ drop k s
      go (whole K size) h e =
          let same : at + size ≡ k = cc in
          (constraint_whole n p (drop at s) h).rest ∙ drop-drop size at s ∙ ap (λ (j : ℕ). drop j s) same
      go (fault x y) h e = let z : ◌≡◌ {A = ℕ} 0 1 = cc in absurd (omega arith)
