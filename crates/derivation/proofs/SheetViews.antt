-- Laws of the arrays of a standing and a sheet: the start with its bounds lowered, and what bounds show.
use Prim.Native.Nat.{ℕ, ◌-◌, ◌≤◌, ◌<◌, min}
use mathlib.Core.Path.{◌≡◌, sym, ap, ◌∙◌, fun_ext}
use mathlib.Core.Bool.{Bool, false, cond, ◌&&◌}
use mathlib.Core.List.{List}
use native.Mathlib.Omega.{arith}
use native.Mathlib.Decide.{dec_le}
use borrow.Author.Tests.{le-leb, lt-leb}
use lib.Dec.{leb}
use lib.ListN.{length, get_or}
use Rattle.circuit.specs.Run.{values_in}
use Rattle.laws.specs.Problem.{largest}
use Rattle.laws.specs.Standing.{Standing, is_input, none_of}
use Rattle.tags.specs.Tag.{Sheet, least_of, lowered, first_bound, shown_by}
use Rattle.tags.specs.Sheet.{sheet_of, Fitting}
use Rattle.tags.specs.Answer.{Lowered}
use Rattle.tags.proofs.ShownLaws.{shown_same}
use Rattle.tags.proofs.SheetLaws.{tag_signal}
use Rattle.rules.specs.View.{bound_in, view_of}
use Rattle.rules.proofs.ViewLaws.{bound_past, bound_within}
use Rattle.derivation.specs.Inner.{first_view}

-- The start

-- up to 256 inputs, in arrays and as a number
input_within : (i s : ℕ) → s < 257 → is_input i s ≡ is_input (min i 256) s
unfolding is_input
input_within i s h = ap (λ (b : Bool). leb 1 s && b) (go (dec_le s i))
  where
    go : Dec (s ≤ i) → leb s i ≡ leb s (min i 256)
    go (yes g) = rw (le-leb s i g, le-leb s (min i 256) (omega arith))
    go (no g) = rw (lt-leb s i (omega arith), lt-leb s (min i 256) (omega arith))

input_past : (i s : ℕ) → 257 ≤ s → is_input (min i 256) s ≡ false
unfolding is_input
input_past i s h = rw (le-leb 1 s (omega arith), lt-leb s (min i 256) (omega arith))

module _ (p i : ℕ) (T : Sheet) {bounds later : List ℕ} (whole : bound_in p bounds ≡ largest p) (sized : length bounds ≡ 257) (L : Lowered i T bounds later) where
  bound_first : (s : ℕ) → bound_in p later s ≡ first_bound p (min i 256) T s
  unfolding first_bound lowered largest values_in
  bound_first s = go (dec_le 257 s)
    where
      go : Dec (257 ≤ s) → bound_in p later s ≡ cond (is_input (min i 256) s) (least_of T.tag s (p - 1) T.count) (p - 1)
      go (yes h) = bound_past p later s (omega (arith, L.sized)) ∙ rw (input_past i s h)
      go (no h) =
          let was : get_or bounds s 0 ≡ p - 1 = bound_within p bounds s (omega arith) ∙ ap (λ (f : ℕ → ℕ). f s) whole in
          sym (bound_within p later s (omega (arith, L.sized))) ∙ L.each s (omega arith) ∙ rw (was, input_within i s (omega arith))

pub first_viewed : (p i : ℕ) (h bounds later : List ℕ) (marks nonzeros : List Bool)
    → view_of p bounds marks nonzeros ≡ record { bound = largest p; marked = is_input (min i 256); nonzero = none_of } → length bounds ≡ 257 → Lowered i (sheet_of h) bounds later
    → view_of p later marks nonzeros ≡ first_view p i h
unfolding view_of
first_viewed p i h bounds later marks nonzeros e sized L =
    let bound = fun_ext (bound_first p i (sheet_of h) (ap (λ (S : Standing). S.bound) e) sized L) in
    let marked = ap (λ (S : Standing). S.marked) e in
    let nonzero = ap (λ (S : Standing). S.nonzero) e in
    rw (bound, marked, nonzero)

-- What is shown

pub shown_viewed : {n p : ℕ} (i : ℕ) {T : Sheet} (bounds : List ℕ) → Fitting n p T → n < length bounds
    → shown_by i T (values_in bounds) ≡ shown_by i T (bound_in p bounds)
unfolding values_in
shown_viewed {n} {p} i {T} bounds F h =
    shown_same i (values_in bounds) (bound_in p bounds) T (λ k l m. bound_within p bounds _ (omega (arith, (tag_signal F k l m).1)))
