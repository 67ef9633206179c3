-- Keys of steps: their order is the order of the solver's choice, so the least key is the step that the bounds phase takes.
use Prim.Native.Nat.{ℕ, ◌≤◌, ◌<◌}
use mathlib.Core.Path.{◌≡◌, refl, sym, ap, ◌∙◌}
use mathlib.Core.Bool.{true, false}
use mathlib.Core.Option as math
use mathlib.Core.Option.{none, some}
use mathlib.Core.Logic.{⊎_elim}
use native.Mathlib.Omega.{arith}
use lib.Dec.{ltb}
use borrow.Author.Tests.{ltb-false, le-ltb}
use Rattle.circuit.specs.Circuit.{Circuit, WellFormed, constraint_at}
use Rattle.laws.specs.Problem.{Problem, given}
use Rattle.laws.specs.Standing.{Standing}
use Rattle.laws.specs.Step.{Kind, kind_number, Step}
use Rattle.laws.specs.Solver.{step, new_bound, lowers, first_by, precedes, best_bound}
use Rattle.laws.proofs.KindLaws.{number_is, number_below}
use Rattle.laws.proofs.Sum.{true_or_false, by_order}
use Rattle.laws.proofs.Best.{first_by_says, first_by_holds, lowers_says, bounding_fields, best_none, best_some}
use Rattle.laws.proofs.Best.{Bounding}
use Rattle.std.specs.Prelude.{Option, None, Some}
use Rattle.rules.specs.Promise.{kind_of}
use Rattle.solver.specs.Bounds.{key_of, no_key, key_in, least_of, place_of, reference_of, Narrow, AllNarrow, LowersTo, Holder, IsKey, Least}
use Rattle.solver.specs.Choice.{step_of, choice_of}
use Rattle.solver.specs.declared.keys.Key.{Key}
use Rattle.solver.specs.declared.keys.Choice.{Choice}
use Rattle.solver.proofs.KeyLaws.{lowers_bounding, lowers_below, lowers_to, lowers_step}

-- A key and its parts

-- a key has three bits for the number of a kind
pub kind_small : (q : Kind) → kind_number q < 8
kind_small q = number_below 8 refl q

pub key_parts : (b t q : ℕ) {b' t' q' : ℕ} → t < 4294967296 → q < 8 → t' < 4294967296 → q' < 8 → key_of b t q ≡ key_of b' t' q'
    → (b ≡ b') × (t ≡ t') × (q ≡ q')
unfolding key_of
key_parts b t q h few h' few' e = (omega arith, omega arith, omega arith)

pub key_number : (b t q b' t' q' : ℕ) → q < 8 → q' < 8 → key_of b t q ≡ key_of b' t' q' → q ≡ q'
unfolding key_of
key_number b t q b' t' q' few few' e = omega arith

pub key_small : {key : Key} → Narrow key → key_in key < no_key
unfolding key_of
key_small {key} N = omega (arith, kind_small (kind_of key.kind), N.bound, N.target)

pub same_step : (x y : Step) → x.kind ≡ y.kind → x.target ≡ y.target → x.constraint ≡ y.constraint → x.reference ≡ y.reference → x ≡ y
same_step x y a b c d =
    ap (λ (q : Kind). step q x.target x.constraint x.reference) a
    ∙ ap (λ (t : ℕ). step y.kind t x.constraint x.reference) b
    ∙ ap (λ (k : ℕ). step y.kind y.target k x.reference) c
    ∙ ap (λ (r : ℕ). step y.kind y.target y.constraint r) d

module _ (P : Problem) (S : Standing) (narrow : P.n < 4294967296) (positive : 0 < P.p) (below : P.p ≤ 4294967296) where
  abbrev keyed : Step → ℕ
  keyed x = key_of (new_bound P S x) x.target (kind_number x.kind)

  -- what a step that lowers a bound has
  record Small (x : Step) : Type 0 where
    target : x.target < 4294967296
    constraint : (1 ≤ x.constraint) × (x.constraint ≤ P.m)
    reference : x.reference ≡ 0
    most : kind_number x.kind < 8
    bound : new_bound P S x < 4294967296

  small : (x : Step) → lowers P S x ≡ true → Small x
  small x e =
      let L = lowers_to P S x e in
      let b = lowers_bounding _ _ _ _ L in
      let f = bounding_fields P S x.target x.constraint x.reference b (lowers_says P S x e).ranged in
      record {
        target = omega (arith, L.most);
        constraint = f.0;
        reference = f.1;
        most = kind_small x.kind;
        bound = omega (arith, lowers_below _ _ _ _ positive L);
      }

  -- a step with a key at least as large, and larger where its constraint is lower, doesn't precede
  key_first : (x y : Step) → lowers P S x ≡ true → lowers P S y ≡ true
      → keyed x ≤ keyed y → (y.constraint < x.constraint → keyed x < keyed y) → precedes P S y x ≡ false
  unfolding precedes key_of
  key_first x y lx ly h g =
      let sx = small x lx in
      let sy = small y ly in
      let nx = new_bound P S x in
      let ny = new_bound P S y in
      let kx = kind_number x.kind in
      let ky = kind_number y.kind in
      let last = ltb y.constraint x.constraint in
      first_by_holds ny nx (first_by y.target x.target (first_by ky kx last)) (omega (arith, sx.target, sx.most, sy.target, sy.most))
      (λ (same-bound : ny ≡ nx).
      first_by_holds y.target x.target (first_by ky kx last) (omega (arith, sx.target, sx.most, sy.target, sy.most))
      (λ (same_target : y.target ≡ x.target).
      first_by_holds ky kx last (omega (arith, sx.target, sx.most, sy.target, sy.most))
      (λ (same_kind : ky ≡ kx).
      by_order y.constraint x.constraint (λ l. absurd (omega (arith, g l))) (le-ltb y.constraint x.constraint))))

  -- two steps neither of which precedes the other are the same
  neither : (x y : Step) → lowers P S x ≡ true → lowers P S y ≡ true → precedes P S x y ≡ false → precedes P S y x ≡ false → x ≡ y
  unfolding precedes
  neither x y lx ly e f =
      let sx = small x lx in
      let sy = small y ly in
      let nx = new_bound P S x in
      let ny = new_bound P S y in
      let kx = kind_number x.kind in
      let ky = kind_number y.kind in
      let lx = ltb x.constraint y.constraint in
      let ly = ltb y.constraint x.constraint in
      let a = first_by_says nx ny (first_by x.target y.target (first_by kx ky lx)) e in
      let b = first_by_says ny nx (first_by y.target x.target (first_by ky kx ly)) f in
      let bound : nx ≡ ny = omega (arith, a.0, b.0) in
      let a' = first_by_says x.target y.target (first_by kx ky lx) (a.1 bound) in
      let b' = first_by_says y.target x.target (first_by ky kx ly) (b.1 (sym bound)) in
      let target : x.target ≡ y.target = omega (arith, a'.0, b'.0) in
      let a'' = first_by_says kx ky lx (a'.1 target) in
      let b'' = first_by_says ky kx ly (b'.1 (sym target)) in
      let number : kx ≡ ky = omega (arith, a''.0, b''.0) in
      same_step x y (number_is number) target
      (omega (arith, ltb-false x.constraint y.constraint (a''.1 number), ltb-false y.constraint x.constraint (b''.1 (sym number))))
      (omega (arith, sx.reference, sy.reference))

  -- the choice is the step that lowers a bound and that none precedes
  best_is : (x : Step) → lowers P S x ≡ true → ((y : Step) → lowers P S y ≡ true → precedes P S y x ≡ false) → best_bound P S ≡ some x
  best_is x l h = go (best_bound P S) refl
    where
      go : (o : math.Option Step) → best_bound P S ≡ o → best_bound P S ≡ some x
      go none e = true_or_false _ l (best_none P S e x)
      go (some y) e =
          let b = best_some P S y e in
          e ∙ ap (λ (z : Step). some z) (sym (neither x y l b.0 (b.1 x l) (h y b.0)))

  best_not : ((x : Step) → lowers P S x ≡ true → ⊥) → best_bound P S ≡ none
  best_not h = go (best_bound P S) refl
    where
      go : (o : math.Option Step) → best_bound P S ≡ o → best_bound P S ≡ none
      go none e = e
      go (some y) e = absurd (h y (best_some P S y e).0)

-- The least key

-- the step with the least key: the choice, whatever the first bounds were
pub record Taken (C : Circuit) (S : Standing) (k key : ℕ) : Type 0 where
  pub kind : Kind
  pub bounding : Bounding kind
  pub target : ℕ
  pub bound : ℕ
  pub lowers_it : LowersTo C.p C.n (constraint_at C k) S.bound kind target bound
  pub chosen : (first : ℕ → ℕ) → best_bound (given C first) S ≡ some (step kind target k 0)
  pub is_key : key ≡ key_of bound target (kind_number kind)

module _ (C : Circuit) (W : WellFormed C) (S : Standing) (keys : ℕ → ℕ) (top : keys 0 ≡ no_key)
    (each : (k : ℕ) → 1 ≤ k → k ≤ C.m → IsKey C.p C.n (constraint_at C k) S.bound (keys k)) (r : ℕ) (L : Least keys C.m r) where
  narrow : C.n < 4294967296
  narrow = omega (arith, W.n_most)

  positive : 0 < C.p
  positive = omega (arith, W.p_least)

  below : C.p ≤ 4294967296
  below = omega (arith, W.p_most)

  module _ (first : ℕ → ℕ) where
    abbrev P : Problem
    P = given C first

    -- the key of a step is that of its constraint
    key_of_lem : (y : Step) → lowers P S y ≡ true → keys y.constraint ≡ keyed P S narrow positive below y
    key_of_lem y l =
        let s = small P S narrow positive below y l in
        (each y.constraint s.constraint.0 s.constraint.1).only y.kind y.target (new_bound P S y) (lowers_to P S y l)

    pub nothing_left : r ≡ 0 → best_bound P S ≡ none
    unfolding key_of
    nothing_left e =
        best_not P S narrow positive below
        (λ y l.
        let s = small P S narrow positive below y l in
        let top : keys r ≡ no_key = ap keys e ∙ top in
        omega (arith, L.least y.constraint s.constraint.1, key_of_lem y l, s.target, s.most, s.bound))

    -- a step with the least key is the choice
    is_chosen : (x : Step) → lowers P S x ≡ true → x.constraint ≡ r → keyed P S narrow positive below x ≡ keys r → best_bound P S ≡ some x
    is_chosen x l e own =
        best_is P S narrow positive below x l
        (λ y m.
        key_first P S narrow positive below x y l m (omega (arith, key_of_lem y m, L.least y.constraint (small P S narrow positive below y m).constraint.1))
        (λ h. omega (arith, key_of_lem y m, L.first y.constraint (omega arith))))

  taken_by : 1 ≤ r → Holder C.p C.n (constraint_at C r) S.bound (keys r) → Taken C S r (keys r)
  taken_by low H =
      record {
        kind = H.kind;
        bounding = lowers_bounding _ _ _ _ H.lowers;
        target = H.target;
        bound = H.bound;
        lowers_it = H.lowers;
        chosen = chosen;
        is_key = H.is_key;
      }
    where
      chosen : (first : ℕ → ℕ) → best_bound (given C first) S ≡ some (step H.kind H.target r 0)
      chosen first =
          let g = lowers_step (given C first) S r low L.within H.lowers in
          is_chosen first (step H.kind H.target r 0) g.0 refl
          (ap (λ (v : ℕ). key_of v H.target (kind_number H.kind)) g.1 ∙ sym H.is_key)

  pub taken_step : (r ≡ 0 → ⊥) → Taken C S r (keys r)
  taken_step h =
      ⊎_elim (λ (e : keys r ≡ no_key). absurd (omega (arith, top, L.first 0 (omega arith)))) (taken_by (omega arith))
      (each r (omega arith) L.within).held

  -- the step of the least key
  module _ (choice : Choice) (N : Narrow choice.key) (is-r : choice.constraint ≡ r) (is_least : key_in choice.key ≡ keys r) (alone : choice.reference ≡ 0) where
    H : Taken C S r (keys r)
    H = taken_step (λ z. omega (arith, key_small N, is_least, top, ap keys z))

    pub choice_is : (first : ℕ → ℕ) → best_bound (given C first) S ≡ some (step_of choice)
    choice_is first =
        let parts = key_parts choice.key.bound choice.key.target (kind_number (kind_of choice.key.kind)) N.target (kind_small _)
        (omega (arith, H.lowers_it.most, narrow)) (kind_small H.kind) (is_least ∙ H.is_key) in
        H.chosen first ∙ ap (λ (x : Step). some x) (sym (same_step (step_of choice) (step H.kind H.target r 0) (number_is parts.2) parts.1 is-r alone))

-- The choice of the phase, where one step or none is the lowest
module _ {C : Circuit} (W : WellFormed C) (S : Standing) (keys : ℕ → ℕ) (top : keys 0 ≡ no_key)
    (each : (k : ℕ) → 1 ≤ k → k ≤ C.m → IsKey C.p C.n (constraint_at C k) S.bound (keys k)) where
  pub least_choice : (lowest : Option Choice) → AllNarrow lowest → Least keys C.m (place_of lowest) → least_of lowest ≡ keys (place_of lowest)
      → reference_of lowest ≡ 0 → (first : ℕ → ℕ) → choice_of lowest ≡ best_bound (given C first) S
  least_choice None N L e alone first = sym (nothing_left C W S keys top each 0 L first refl)
  least_choice (Some choice) N L e alone first = sym (choice_is C W S keys top each choice.constraint L choice N refl e alone first)
