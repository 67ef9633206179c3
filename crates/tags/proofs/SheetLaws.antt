-- Laws of the sheet in bytes: an entry by what is read of it, the way past each refusal, and that a sheet that isn't refused fits.
use Prim.Native.Nat.{ℕ, ◌+◌, ◌*◌, ◌≤◌}
use mathlib.Core.Path.{◌≡◌, sym, ◌∙◌}
use mathlib.Core.Bool.{true, ◌&&◌}
use mathlib.Core.List.{List}
use Rattle.std.specs.Prelude.{Option, None, Some}
use native.Mathlib.Omega.{arith}
use borrow.Author.Tests.{leb-true}
use lib.Dec.{leb, eqb}
use lib.ListN.{length}
use Rattle.circuit.specs.Bytes.{u16_at}
use Rattle.circuit.specs.Circuit.{Circuit}
use Rattle.circuit.specs.Reader.{has_mark, read_circuit}
use Rattle.circuit.specs.Runs.{first_from}
use Rattle.circuit.specs.Reading.{Reading, whole, fault}
use Rattle.circuit.specs.Answer.{Answer, refused, given, and_then}
use Rattle.circuit.specs.Call.{sizes_of, on_circuit, circuit_call, circuit_of, Sized}
use Rattle.circuit.specs.declared.reader.Sizes.{Sizes}
use Rattle.circuit.proofs.Sized.{on_sized, sizes_are, call_sized, on_refused}
use Rattle.circuit.proofs.AnswerLaws.{ask_given, none_given}
use Rattle.circuit.proofs.SearchLaws.{passed}
use Rattle.laws.specs.Step.{within}
use Rattle.laws.proofs.Sum.{and_left, and_right}
use Rattle.tags.specs.Tag.{Tag, number_fits, Sheet}
use Rattle.tags.specs.Tagged.{on_tagged, tagged_call}
use Rattle.tags.specs.Sheet.{
  sheet_letter,
  sheet_header,
  entry_size,
  entries_most,
  read_tag,
  no_tag,
  or_none,
  tag_in,
  sheet_of,
  fits_as,
  entry_fits,
  framed,
  sheet_on,
  Fitting,
  FittingAnswer,
  Unrefused,
}

-- One entry, by what is read of it

pub tag_known : (h : List ℕ) (k : ℕ) {t : Tag} → Some t ≡ read_tag h k → tag_in h k ≡ t
unfolding tag_in
tag_known h k e = rw (sym e)

pub tag_unknown : (h : List ℕ) (k : ℕ) → None ≡ read_tag h k → tag_in h k ≡ no_tag
unfolding tag_in
tag_unknown h k e = rw (sym e)

-- A sheet that isn't refused fits

pub record SheetGiven (z : Sizes) (h : List ℕ) (T : Sheet) : Type 0 where
  pub few : u16_at h 5 ≤ entries_most
  pub none_wrong : first_from (entry_fits z.n z.p h) 1 (u16_at h 5) ≡ 0
  pub is : T ≡ sheet_of h

pub sheet_given : (z : Sizes) (h : List ℕ) {T : Sheet} → sheet_on z h ≡ given T → SheetGiven z h T
unfolding sheet_on framed
sheet_given z h e =
    let a = ask_given (framed h) 26 0 _ e in
    let g = none_given (first_from (entry_fits z.n z.p h) 1 (u16_at h 5)) 27 0 _ a.1 in
    let marked = leb sheet_header (length h) && has_mark sheet_letter h && eqb (u16_at h 3) 1 in
    let few = and_right marked _ (and_left (marked && leb (u16_at h 5) entries_most) (eqb (length h) (sheet_header + entry_size * u16_at h 5)) a.0) in
    let is : given _ ≡ given (sheet_of h) = sym g.1 in
    record { few = leb-true _ _ few; none_wrong = g.0; is = cc }

fits_says : (n p : ℕ) (o : Option Tag) → fits_as n p o ≡ true
    → (within n (or_none o).signal ≡ true) × (number_fits p (or_none o).kind (or_none o).number ≡ true)
fits_says n p None e = let z : ◌≡◌ {A = ℕ} 0 1 = cc in absurd (omega arith)
fits_says n p (Some t) e = (and_left (within n t.signal) _ e, and_right (within n t.signal) _ e)

pub sheet_fitting : (z : Sizes) (h : List ℕ) → FittingAnswer z (sheet_on z h)
unfolding sheet_of tag_in entry_fits
sheet_fitting z h T e =
    let G = sheet_given z h e in
    let each : (k : ℕ) → 1 ≤ k → k ≤ u16_at h 5 → fits_as z.n z.p (read_tag h k) ≡ true
    = passed (entry_fits z.n z.p h) (u16_at h 5) G.none_wrong in
    rw G.is
    (record {
      few = G.few;
      signals = λ k l m. (fits_says z.n z.p (read_tag h k) (each k l m)).0;
      numbers = λ k l m. (fits_says z.n z.p (read_tag h k) (each k l m)).1;
    })

-- A circuit and a sheet that aren't refused

module _ {c h : List ℕ} {C : Circuit} {T : Sheet} (U : Unrefused c h C T) where
  pub unrefused_circuit : circuit_of c ≡ C
  unfolding circuit_of
  unrefused_circuit = rw U.read

  pub unrefused_sheet : sheet_of h ≡ T
  unrefused_sheet = sym (sheet_given (sizes_of C) h U.sheeted).is

  pub unrefused_fits : Fitting C.n C.p T
  unrefused_fits = sheet_fitting (sizes_of C) h T U.sheeted

pub sized_unrefused : {c h : List ℕ} {z : Sizes} → Sized c z → sheet_on z h ≡ given (sheet_of h) → Unrefused c h (circuit_of c) (sheet_of h)
sized_unrefused Z e = record { size = _; read = Z.read; sheeted = rw (sizes_are Z) at e }

-- Each call on a circuit and a sheet, by what reading them finds: neither is refused ..
module _ (c h : List ℕ) {z : Sizes} (read : circuit_call c ≡ given z) (fits : sheet_on z h ≡ given (sheet_of h)) where
  pub tagged_unrefused : Unrefused c h (circuit_of c) (sheet_of h)
  tagged_unrefused = sized_unrefused (call_sized read) fits

  pub tagged_given : {A : Type 0} (f : Circuit → Sheet → Answer A) → on_tagged c h f ≡ f (circuit_of c) (sheet_of h)
  tagged_given f = on_sized _ (call_sized read) ∙ rw tagged_unrefused.sheeted

-- .. or one is, and then each call on them is refused alike
pub tagged_refused : {A : Type 0} (c h : List ℕ) {number place : ℕ} (f : Circuit → Sheet → Answer A) → refused number place ≡ tagged_call c h
    → refused number place ≡ on_tagged c h f
unfolding tagged_call
tagged_refused {A} c h {number} {place} f e = go (read_circuit c) e
  where
    alike : (r : Answer Sheet) (g : Sheet → Answer A) → refused number place ≡ r → refused number place ≡ and_then r g
    alike (refused x y) g e =
        let same_number : number ≡ x = cc in
        let same_place : place ≡ y = cc in
        rw (same_number, same_place)
    alike (given T) g e = let z : ◌≡◌ {A = ℕ} 0 1 = cc in absurd (omega arith)

    go : (r : Reading Circuit) → refused number place ≡ on_circuit r (λ C. sheet_on (sizes_of C) h)
        → refused number place ≡ on_circuit r (λ C. and_then (sheet_on (sizes_of C) h) (f C))
    go (whole C size) e = alike (sheet_on (sizes_of C) h) (f C) e
    go (fault x y) e =
        let same_number : number ≡ x = cc in
        let same_place : place ≡ y = cc in
        rw (same_number, same_place)

-- reading them, by the circuit's answer and the sheet's
module _ (c h : List ℕ) where
  pub circuit_out : {number place : ℕ} → refused number place ≡ circuit_call c → refused number place ≡ tagged_call c h
  unfolding tagged_call
  circuit_out e = on_refused c _ e

  pub sheet_answer : {z : Sizes} {r : Answer Sheet} → given z ≡ circuit_call c → r ≡ sheet_on z h → r ≡ tagged_call c h
  unfolding tagged_call
  sheet_answer read e =
      let Z = call_sized (sym read) in e ∙ rw (sizes_are Z) (sym (on_sized _ Z))

-- the signal of a tag that fits is 1 to n
pub tag_signal : {n p : ℕ} {T : Sheet} → Fitting n p T → (k : ℕ) → 1 ≤ k → k ≤ T.count → (1 ≤ (T.tag k).signal) × ((T.tag k).signal ≤ n)
unfolding within
tag_signal {n} {T = T} F k l m =
    let w = F.signals k l m in
    (leb-true 1 _ (and_left _ (leb (T.tag k).signal n) w), leb-true _ n (and_right (leb 1 (T.tag k).signal) _ w))
