-- Walks over the terms of a form in its bytes: what is left of the form at an offset, what one turn does, and the walks that find the one term, ask of a
-- signal whether it is named, and for its coefficient.
use Prim.Native.Nat.{ℕ, suc, ◌+◌, ◌*◌, ◌-◌, ◌≤◌, ◌<◌}
use mathlib.Core.Path.{◌≡◌, refl, sym, ap, ◌∙◌}
use mathlib.Core.Bool.{Bool, true, false, cond, ◌&&◌, ◌||◌, or_assoc}
use mathlib.Core.List.{List, []}
use Rattle.std.specs.Prelude.{Option, Some, None}
use Rattle.std.specs.Option.{is_some}
use native.Mathlib.Nat.{add-zero, zero-add}
use native.Mathlib.Omega.{arith}
use lib.Dec.{leb, eqb}
use lib.ListN.{drop}
use borrow.Author.Tests.{le-leb, lt-leb}
use lib.Seq.{drop-drop}
use Rattle.circuit.specs.Bytes.{byte_at, u16_at, u32_at}
use Rattle.circuit.specs.Circuit.{Form, coef, names}
use Rattle.circuit.specs.Reader.{signals_most, term_kept, terms_in, form_in}
use Rattle.circuit.proofs.ByteLaws.{u16_drop, u32_drop}
use Rattle.circuit.proofs.ReaderLaws.{one_more}
use Rattle.laws.specs.Sum.{keep}
use Rattle.laws.specs.Rules.{others_marked}
use Rattle.laws.proofs.Sum.{true_or_false, by_test, or_false}
use Rattle.rules.specs.Steps.{allowed, sole_after}

-- the terms that are left from an offset on
unfoldable pub terms_from : List ℕ → ℕ → ℕ → Form
terms_from s left at = terms_in left (drop at s)

terms_turn : (s : List ℕ) (left at : ℕ)
    → terms_from s (suc left) at
    ≡ term_kept (leb (u16_at s at) signals_most) (record { signal = u16_at s at; coefficient = u32_at s (at + 2) }) (terms_from s left (at + 6))
unfolding terms_from terms_in
terms_turn s left at = simp (u16_drop, u32_drop, drop-drop, add-zero)

cond_keep : (b : Bool) (x : ℕ) → cond b x 0 ≡ keep b x
unfolding keep
cond_keep true x = refl
cond_keep false x = refl

-- A turn of each walk at an offset where terms are left.
module _ (s : List ℕ) (left at : ℕ) (some : 0 < left) (signal : ℕ) (known : signal ≡ u16_at s at) where
  pub turn : terms_from s left at
      ≡ term_kept (leb signal signals_most) (record { signal = signal; coefficient = u32_at s (at + 2) }) (terms_from s (left - 1) (at + 6))
  turn = ap (λ (k : ℕ). terms_from s k at) (one_more some) ∙ terms_turn s (left - 1) at ∙ rw known

  abbrev next : Form
  next = terms_from s (left - 1) (at + 6)

  -- the term is on t
  abbrev on : ℕ → Bool
  on t = leb signal signals_most && eqb signal t

  names_turn : (t : ℕ) → names (terms_from s left at) t ≡ (on t || names next t)
  unfolding names
  names_turn t = rw turn (by_test (leb signal signals_most) (λ e. rw e) (λ e. rw e))

  others_turn : (m : ℕ → Bool) (t : ℕ) → others_marked m t (terms_from s left at) ≡ (allowed m t signal && others_marked m t next)
  unfolding allowed others_marked
  others_turn m t = rw turn (by_test (leb signal signals_most) (λ e. rw e) (λ e. rw e))

  coef_turn : (t : ℕ) → coef (terms_from s left at) t ≡ keep (on t) (u32_at s (at + 2)) + coef next t
  unfolding coef keep
  coef_turn t =
      rw turn
      (by_test (leb signal signals_most) (λ e. rw e (ap (λ (x : ℕ). x + coef next t) (cond_keep (eqb signal t) (u32_at s (at + 2))))) (λ e. rw (e, zero-add)))

-- the start of each walk, by the count byte
module _ (s : List ℕ) (count : ℕ) (known : count ≡ byte_at s 0) where
  pub form_start : form_in s ≡ terms_from s count 1
  unfolding form_in terms_from
  form_start = rw known

-- and its end, where no terms are left
module _ (s : List ℕ) (left at : ℕ) (none : left ≤ 0) where
  pub terms_end : terms_from s left at ≡ []
  unfolding terms_from terms_in
  terms_end = let z : left ≡ 0 = omega arith in rw z

-- Walks over the form at the start of a part, of whose terms so many are passed: what is found so far, and what is left.
abbrev pub left_of : List ℕ → ℕ → ℕ → Form
left_of part count i = terms_from part (count - i) (1 + 6 * i)

module _ (part : List ℕ) (count : ℕ) where
  pub left_start : count ≡ byte_at part 0 → form_in part ≡ left_of part count 0
  left_start e =
      let whole : count ≡ count - 0 = omega arith in
      form_start part count e ∙ ap (λ (n : ℕ). terms_from part n 1) whole

  pub left_end : (i : ℕ) → count ≤ i → left_of part count i ≡ []
  left_end i none = terms_end part (count - i) (1 + 6 * i) (omega arith)

  module _ (i : ℕ) (more : i < count) (signal : ℕ) (known : signal ≡ u16_at part (1 + 6 * i)) where
    pub left_next : terms_from part (count - i - 1) (1 + 6 * i + 6) ≡ left_of part count (i + 1)
    left_next =
        let left : count - i - 1 ≡ count - (i + 1) = omega arith in
        let offset : 1 + 6 * i + 6 ≡ 1 + 6 * (i + 1) = omega arith in
        rw (left, offset)

    pub names_next : (t : ℕ) → names (left_of part count i) t ≡ (on part (count - i) (1 + 6 * i) (omega arith) signal known t || names (left_of part count (i + 1)) t)
    names_next t = names_turn part (count - i) (1 + 6 * i) (omega arith) signal known t ∙ rw left_next

    pub others_next : (m : ℕ → Bool) (t : ℕ)
        → others_marked m t (left_of part count i) ≡ (allowed m t signal && others_marked m t (left_of part count (i + 1)))
    others_next m t = others_turn part (count - i) (1 + 6 * i) (omega arith) signal known m t ∙ rw left_next

    pub coef_next : (t : ℕ) → coef (left_of part count i) t
        ≡ keep (leb signal signals_most && eqb signal t) (u32_at part (1 + 6 * i + 2)) + coef (left_of part count (i + 1)) t
    coef_next t = coef_turn part (count - i) (1 + 6 * i) (omega arith) signal known t ∙ rw left_next

-- the walk that finds the one term, and ends at a second
module _ (part : List ℕ) (count i : ℕ) (more : i < count) (signal : ℕ) (known : signal ≡ u16_at part (1 + 6 * i)) where
  left_turn : left_of part count i
      ≡ term_kept (leb signal signals_most) (record { signal = signal; coefficient = u32_at part (1 + 6 * i + 2) }) (left_of part count (i + 1))
  left_turn = turn part (count - i) (1 + 6 * i) (omega arith) signal known ∙ rw (left_next part count i more signal known)

  pub sole_passed : (found : Option ℕ) → signals_most < signal → sole_after found (left_of part count i) ≡ sole_after found (left_of part count (i + 1))
  sole_passed found l = rw (left_turn, lt-leb signal signals_most l)

  pub sole_second : (found : Option ℕ) → is_some found ≡ true → signal ≤ signals_most → None ≡ sole_after found (left_of part count i)
  sole_second None e l = true_or_false false e refl
  sole_second (Some s) e l = rw (left_turn, le-leb signal signals_most l)

  pub sole_first : (found : Option ℕ) → is_some found ≡ false → signal ≤ signals_most
      → sole_after found (left_of part count i) ≡ sole_after (Some signal) (left_of part count (i + 1))
  sole_first None e l = rw (left_turn, le-leb signal signals_most l)
  sole_first (Some s) e l = true_or_false true refl e

-- the walk that says whether t is named, and ends where another signal isn't marked
pub record Naming (part : List ℕ) (m : ℕ → Bool) (t count i : ℕ) (found : Bool) : Type 0 where
  pub others : others_marked m t (form_in part) ≡ others_marked m t (left_of part count i)
  pub named : names (form_in part) t ≡ (found || names (left_of part count i) t)

pub naming_start : {part : List ℕ} {m : ℕ → Bool} {t count : ℕ} → count ≡ byte_at part 0 → Naming part m t count 0 false
naming_start {part} {m} {t} {count} e =
    record { others = ap (others_marked m t) (left_start part count e); named = ap (λ (f : Form). names f t) (left_start part count e) }

module _ {part : List ℕ} {m : ℕ → Bool} {t count i : ℕ} {found : Bool} (N : Naming part m t count i found) where
  module _ (more : i < count) (signal : ℕ) (known : signal ≡ u16_at part (1 + 6 * i)) where
    pub naming_stop : allowed m t signal ≡ false → None ≡ cond (others_marked m t (form_in part)) (Some (names (form_in part) t)) None
    naming_stop e =
        let stop : others_marked m t (form_in part) ≡ false = N.others ∙ others_next part count i more signal known m t ∙ rw e in
        rw stop

    pub naming_on : allowed m t signal ≡ true → Naming part m t count (i + 1) (found || (leb signal signals_most && eqb signal t))
    naming_on e =
        record {
          others = N.others ∙ others_next part count i more signal known m t ∙ rw e;
          named = N.named ∙ rw (names_next part count i more signal known t) (sym (or_assoc found _ _));
        }

  pub naming_end : count ≤ i → Some found ≡ cond (others_marked m t (form_in part)) (Some (names (form_in part) t)) None
  unfolding others_marked names
  naming_end none =
      let end = left_end part count i none in
      let all : others_marked m t (form_in part) ≡ true = rw end at N.others in
      let is : names (form_in part) t ≡ found = rw end at N.named ∙ or_false found in
      rw (all, is)

-- the walk that adds up the coefficients of t
pub record Adding (part : List ℕ) (t count i total : ℕ) : Type 0 where
  pub fits : total + 4294967296 * (count - i) ≤ 4294967296 * 255
  pub is : coef (form_in part) t ≡ total + coef (left_of part count i) t

pub adding_start : {part : List ℕ} {t count : ℕ} → count ≡ byte_at part 0 → count < 256 → Adding part t count 0 0
adding_start {part} {t} {count} e few =
    record { fits = omega arith; is = omega (arith, ap (λ (f : Form). coef f t) (left_start part count e)) }

module _ {part : List ℕ} {t count i total : ℕ} (A : Adding part t count i total) where
  pub adding_on : i < count → (signal : ℕ) → signal ≡ u16_at part (1 + 6 * i) → (x y : ℕ) → x ≡ u32_at part (1 + 6 * i + 2)
      → y ≡ keep (leb signal signals_most && eqb signal t) x → y < 4294967296 → Adding part t count (i + 1) (total + y)
  adding_on more signal known x y is_x is_y small =
      record {
        fits = omega (arith, A.fits);
        is = omega (arith, A.is, rw (← is_x, ← is_y) at (coef_next part count i more signal known t));
      }

  pub adding_end : count ≤ i → coef (form_in part) t ≡ total
  unfolding coef
  adding_end none = omega (arith, rw (left_end part count i none) at A.is)
