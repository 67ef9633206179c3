-- The search by target, kind, constraint and reference finds the first step in this order that adds by a sort of change, if there is one.
use Prim.Native.Nat.{ℕ, zero, suc, ◌+◌, ◌≤◌, ◌<◌}
use mathlib.Core.Path.{◌≡◌, refl, sym, ap, ◌∙◌}
use mathlib.Core.Bool.{Bool, true, false}
use mathlib.Core.List.{List, [], ◌∷◌}
use mathlib.Core.Option.{Option, none, some}
use native.Mathlib.Omega.{arith}
use native.Mathlib.Decide.{ℕ_discrete}
use borrow.Author.Tests.{ltb-false, le-ltb, eqb-true}
use Rattle.laws.specs.Problem.{Problem}
use Rattle.laws.specs.Standing.{Standing, Change}
use Rattle.laws.specs.Step.{
  Kind,
  kinds,
  kind_number,
  Step,
  Range,
  only_zero,
  from_one,
  within,
  inside,
  constraints,
  references,
  in_range,
  fits,
  change,
  adds,
}
use Rattle.laws.specs.Solver.{step, adds_by, first_by, earlier, pick, first_up, first_in, try, try_references, try_kind, try_kinds, first_adding}
use Rattle.laws.proofs.KindLaws.{Listed, here, there, listed, number_is}
use Rattle.laws.proofs.Sum.{and_left, and_right, true_or_false, false_by}
use Rattle.laws.proofs.Best.{first_by_says, first_by_holds}
use Rattle.laws.proofs.Turns.{within_says, adds_says, adds_target}

-- The order: y isn't earlier than a step that is before it by one key and equal by those above

by_target : (x y : Step) → x.target < y.target → earlier y x ≡ false
unfolding earlier
by_target x y l = first_by_holds _ _ _ (omega arith) (λ (e : y.target ≡ x.target). absurd (omega arith))

by_kind : (q q' : Kind) (t k r k' r' : ℕ) → kind_number q < kind_number q' → earlier (step q' t k' r') (step q t k r) ≡ false
unfolding earlier
by_kind q q' t k r k' r' l =
    first_by_holds _ _ _ (omega arith)
    (λ e. first_by_holds _ _ _ (omega arith) (λ (e : kind_number q' ≡ kind_number q). absurd (omega arith)))

by_constraint : (q : Kind) (t k r k' r' : ℕ) → k < k' → earlier (step q t k' r') (step q t k r) ≡ false
unfolding earlier
by_constraint q t k r k' r' l =
    first_by_holds _ _ _ (omega arith)
    (λ e. first_by_holds _ _ _ (omega arith) (λ e. first_by_holds _ _ _ (omega arith) (λ (e : k' ≡ k). absurd (omega arith))))

by_reference : (q : Kind) (t k r r' : ℕ) → r ≤ r' → earlier (step q t k r') (step q t k r) ≡ false
unfolding earlier
by_reference q t k r r' l =
    first_by_holds _ _ _ (omega arith)
    (λ e. first_by_holds _ _ _ (omega arith) (λ e. first_by_holds _ _ _ (omega arith) (λ e. le-ltb r' r l)))

first_by_neither : (a b : ℕ) {r r' : Bool} → first_by a b r ≡ false → first_by b a r' ≡ false → (a ≡ b) × (r ≡ false) × (r' ≡ false)
first_by_neither a b {r} {r'} e f =
    let x = first_by_says a b r e in
    let y = first_by_says b a r' f in
    let same : a ≡ b = omega arith in
    (same, x.1 same, y.1 (sym same))

-- two steps neither of which is earlier are the same
neither : (x y : Step) → earlier x y ≡ false → earlier y x ≡ false → x ≡ y
unfolding earlier
neither x y e f =
    let a = first_by_neither x.target y.target e f in
    let b = first_by_neither (kind_number x.kind) (kind_number y.kind) a.1 a.2 in
    let d = first_by_neither x.constraint y.constraint b.1 b.2 in
    let last : x.reference ≡ y.reference
    = omega (arith, ltb-false x.reference y.reference d.1, ltb-false y.reference x.reference d.2) in
    ap (λ (t : ℕ). step x.kind t x.constraint x.reference) a.0
    ∙ ap (λ (q : Kind). step q y.target x.constraint x.reference) (number_is b.0)
    ∙ ap (λ (k : ℕ). step y.kind y.target k x.reference) d.0
    ∙ ap (λ (r : ℕ). step y.kind y.target y.constraint r) last

-- Searches upward

-- a search keeps what holds of all that it may find
abbrev Keeps : (Option Step → Type 0) → (Option Step → Option Step) → Type 0
Keeps Q f = (later : Option Step) → Q later → Q (f later)

module _ (Q : Option Step → Type 0) where
  up_keeps : (f : ℕ → Option Step → Option Step) → ((i : ℕ) → Keeps Q (f i)) → (a j : ℕ) → Keeps Q (first_up a j f)
  unfolding first_up
  up_keeps f h a zero later l = l
  up_keeps f h a (suc j) later l = h (suc a) _ (up_keeps f h (suc a) j later l)

  in-keeps : (R : Range) (f : ℕ → Option Step → Option Step) → ((i : ℕ) → Keeps Q (f i)) → Keeps Q (first_in R f)
  in-keeps only_zero f h = h 0
  in-keeps (from_one n) f h = up_keeps f h 0 n

  -- what holds of all that is found at i holds, if all that is found before i keeps it
  up_reaches : (f : ℕ → Option Step → Option Step) (i : ℕ) → ((k : ℕ) → k < i → Keeps Q (f k)) → ((later : Option Step) → Q (f i later))
      → (a j : ℕ) → a < i → i ≤ a + j → (later : Option Step) → Q (first_up a j f later)
  unfolding first_up
  up_reaches f i h g a zero l m later = absurd (omega arith)
  up_reaches f i h g a (suc j) l m later = go (ℕ_discrete i (suc a)) (λ k. up_reaches f i h g (suc a) j k (omega arith) later)
    where
      go : Dec (i ≡ suc a) → (suc a < i → Q (first_up (suc a) j f later)) → Q (first_up a (suc j) f later)
      go (yes q) rest = rw q at (g (first_up (suc a) j f later))
      go (no d) rest = h (suc a) (omega arith) _ (rest (omega arith))

  in-reaches : (R : Range) (f : ℕ → Option Step → Option Step) (i : ℕ) → inside R i ≡ true → ((k : ℕ) → k < i → Keeps Q (f k))
      → ((later : Option Step) → Q (f i later)) → (later : Option Step) → Q (first_in R f later)
  in-reaches only_zero f i e h g later = rw (eqb-true i 0 e) at (g later)
  in-reaches (from_one n) f i e h g later = let w = within_says n i e in up_reaches f i h g 0 n w.0 (omega arith) later

module _ (c : Change → Bool) (P : Problem) (S : Standing) where
  module _ (Q : Option Step → Type 0) where
    try_keeps : (t : ℕ) (q : Kind) (k r : ℕ) → (adds_by c P S (step q t k r) ≡ true → Q (some (step q t k r))) → Keeps Q (try c P S t q k r)
    unfolding try
    try_keeps t q k r h later l = go (adds_by c P S (step q t k r)) refl
      where
        go : (b : Bool) → adds_by c P S (step q t k r) ≡ b → Q (pick b (step q t k r) later)
        go true e = h e
        go false e = l

    references_keep : (t : ℕ) (q : Kind) (k : ℕ) → ((r : ℕ) → adds_by c P S (step q t k r) ≡ true → Q (some (step q t k r)))
        → Keeps Q (try_references c P S t q k)
    unfolding try_references
    references_keep t q k h = in-keeps Q (references q P) _ (λ r. try_keeps t q k r (h r))

    kind_keeps : (t : ℕ) (q : Kind) → ((k r : ℕ) → adds_by c P S (step q t k r) ≡ true → Q (some (step q t k r))) → Keeps Q (try_kind c P S t q)
    unfolding try_kind
    kind_keeps t q h = in-keeps Q (constraints q P) _ (λ k. references_keep t q k (h k))

    kinds_keep : (qs : List Kind) (t : ℕ) → ((q : Kind) (k r : ℕ) → adds_by c P S (step q t k r) ≡ true → Q (some (step q t k r)))
        → Keeps Q (try_kinds c P S qs t)
    unfolding try_kinds
    kinds_keep [] t h later l = l
    kinds_keep (q ∷ qs) t h later l = kind_keeps t q (h q) _ (kinds_keep qs t h later l)

  -- what was found adds
  abbrev IsAdding : Option Step → Type 0
  IsAdding none = Unit {0}
  IsAdding (some x) = adds_by c P S x ≡ true

  pub first_some : (x : Step) → first_adding c P S ≡ some x → adds_by c P S x ≡ true
  unfolding first_adding
  first_some x e = rw e at (up_keeps IsAdding (try_kinds c P S kinds) (λ t. kinds_keep IsAdding kinds t (λ q k r a. a)) 0 P.n none tt)

  -- something was found, and y isn't earlier
  abbrev Covers : Step → Option Step → Type 0
  Covers y none = ⊥
  Covers y (some x) = earlier y x ≡ false

  try_covers : (t : ℕ) (q : Kind) (k r : ℕ) → adds_by c P S (step q t k r) ≡ true → (later : Option Step)
      → Covers (step q t k r) (try c P S t q k r later)
  unfolding try
  try_covers t q k r e later = rw e (by_reference q t k r r (omega arith))

  kind_covers : (t : ℕ) (q : Kind) (k r : ℕ) → adds_by c P S (step q t k r) ≡ true → inside (constraints q P) k ≡ true
      → inside (references q P) r ≡ true → (later : Option Step) → Covers (step q t k r) (try_kind c P S t q later)
  unfolding try_kind try_references
  kind_covers t q k r e wk wr =
      let y = step q t k r in
      in-reaches (Covers y) (constraints q P) _ k wk (λ j l. references_keep (Covers y) t q j (λ u a. by_constraint q t j u k r l))
      (in-reaches (Covers y) (references q P) _ r wr (λ u l. try_keeps (Covers y) t q k u (λ a. by_reference q t k u r (omega arith)))
      (try_covers t q k r e))

  kinds_cover : (t k r : ℕ) {q : Kind} {qs : List Kind} → Listed q qs
      → ((later : Option Step) → Covers (step q t k r) (try_kind c P S t q later))
      → (later : Option Step) → Covers (step q t k r) (try_kinds c P S qs t later)
  unfolding try_kinds
  kinds_cover t k r here g later = g _
  kinds_cover t k r {q} (there x l m) g later =
      kind_keeps (Covers (step q t k r)) t x (λ j u a. by_kind x q t j u k r l) _ (kinds_cover t k r m g later)

  first_covers : (y : Step) → adds_by c P S y ≡ true → Covers y (first_adding c P S)
  unfolding first_adding adds_by in_range fits
  first_covers y a =
      let b : adds P S y ≡ true = and_left _ (c (change P S y)) a in
      let w = adds_target P S y b in
      let i : in_range P y ≡ true = and_left _ _ (adds_says P S y b).0 in
      let f = and_right (within P.n y.target) _ i in
      let t = y.target in
      let k = y.constraint in
      let r = y.reference in
      up_reaches (Covers y) (try_kinds c P S kinds) t (λ s l. kinds_keep (Covers y) kinds s (λ q j u e. by_target (step q s j u) y l))
      (kinds_cover t k r (listed y.kind)
      (kind_covers t y.kind k r a (and_left _ _ f) (and_right (inside (constraints y.kind P) k) _ f)))
      0
      P.n
      w.0
      (omega arith)
      none

  -- nothing found: no step adds
  pub first_none : first_adding c P S ≡ none → (y : Step) → adds_by c P S y ≡ false
  first_none e y = false_by _ (λ a. rw e at (first_covers y a))

  -- what was found is the first: no step that adds is earlier
  pub first_least : (x : Step) → first_adding c P S ≡ some x → (y : Step) → adds_by c P S y ≡ true → earlier y x ≡ false
  first_least x e y a = rw e at (first_covers y a)

  -- a step that adds, where no step that adds is earlier, is found
  pub first_is : (x : Step) → adds_by c P S x ≡ true → ((y : Step) → adds_by c P S y ≡ true → earlier y x ≡ false) → first_adding c P S ≡ some x
  first_is x a h = go (first_adding c P S) refl
    where
      go : (o : Option Step) → first_adding c P S ≡ o → first_adding c P S ≡ some x
      go none e = true_or_false _ a (first_none e x)
      go (some y) e = e ∙ ap (λ (z : Step). some z) (neither y x (h y (first_some y e)) (first_least y e x a))

  -- where no step adds, nothing is found
  pub first_not : ((y : Step) → adds_by c P S y ≡ true → ⊥) → first_adding c P S ≡ none
  first_not h = go (first_adding c P S) refl
    where
      go : (o : Option Step) → first_adding c P S ≡ o → first_adding c P S ≡ none
      go none e = e
      go (some y) e = absurd (h y (first_some y e))
