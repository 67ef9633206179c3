-- The lowest key is that of the step that the marks phase takes: no step that marks an unmarked signal is earlier.
use Prim.Native.Nat.{ℕ, ◌≤◌, ◌<◌}
use mathlib.Core.Path.{◌≡◌, refl, sym, ap, ◌∙◌}
use mathlib.Core.Bool.{true, false}
use mathlib.Core.List.{List}
use mathlib.Core.Option.{none, some}
use mathlib.Core.Logic.{⊎_elim}
use native.Mathlib.Omega.{arith}
use lib.Dec.{ltb}
use borrow.Author.Tests.{le-ltb, eqb-true}
use Rattle.circuit.specs.Circuit.{Circuit, constraint_at}
use Rattle.laws.specs.Problem.{Problem, given}
use Rattle.laws.specs.Standing.{Standing, Change, at_most, fixed, not_zero, idle, marks}
use Rattle.laws.specs.Step.{Kind, Root, Sum, Zero, Product, Digits, Nonzero, Quotient, kind_number, Step, within, inside, constraints, references, in_range}
use Rattle.laws.specs.Step.{fits, met, change, rule_of, adds}
use Rattle.laws.specs.Solver.{step, adds_by, first_by, earlier, first_adding}
use Rattle.laws.proofs.Sum.{and_left, and_right, and_both, true_or_false, by_equal, by_order}
use Rattle.laws.proofs.Best.{first_by_holds}
use Rattle.laws.proofs.Turns.{within_says, within_holds, adds_says, adds_holds, adds_target}
use Rattle.laws.proofs.First.{first_is, first_not}
use Rattle.laws.proofs.KindLaws.{number_is}
use Rattle.std.specs.Prelude.{Option, None, Some}
use Rattle.rules.specs.Promise.{kind_of}
use Rattle.solver.specs.Bounds.{key_of, no_key, key_in, Narrow, with_zeroth}
use Rattle.solver.specs.Marks.{Unmarked, MarksBy, product, digits, quotient, MarksZero, mark_key, KeyHolder, FirstKey, Swept}
use Rattle.solver.specs.Marks.{reference_in, known_key, mark_keys, mark_references}
use Rattle.solver.specs.Marks as key
use Rattle.solver.specs.Choice.{step_of, choice_of}
use Rattle.solver.specs.declared.keys.Choice.{Choice}
use Rattle.solver.specs.declared.marking.Candidate.{Candidate}
use Rattle.solver.proofs.Choice.{key_parts, key_small, kind_small, same_step}
use Rattle.solver.proofs.KeySearch.{zeroth, nonzeroth}
use Rattle.solver.proofs.MarkKeyLaws.{key_map, known_low}
use Rattle.solver.proofs.SweepLaws.{Sweeping}

-- What a step that marks says

fixed_idle : (d : Change) (S : Standing) (t : ℕ) → marks d ≡ true → idle d S t ≡ false → S.marked t ≡ false
fixed_idle (at_most x) S t e i = true_or_false false e refl
fixed_idle fixed S t e i = i
fixed_idle not_zero S t e i = true_or_false false e refl

pub record Marking (P : Problem) (S : Standing) (x : Step) : Type 0 where
  pub target : Unmarked S.marked P.n x.target
  pub names : inside (constraints x.kind P) x.constraint ≡ true
  pub refers : inside (references x.kind P) x.reference ≡ true
  pub meets : met P S x ≡ true
  pub is_mark : marks (change P S x) ≡ true

pub marking : (P : Problem) (S : Standing) (x : Step) → adds_by marks P S x ≡ true → Marking P S x
unfolding adds_by fits in_range
marking P S x a =
    let b : adds P S x ≡ true = and_left _ (marks (change P S x)) a in
    let is_mark : marks (change P S x) ≡ true = and_right (adds P S x) _ a in
    let w = adds_target P S x b in
    let says = adds_says P S x b in
    let fields = and_right (within P.n x.target) _ (and_left (in_range P x) (met P S x) says.0) in
    record {
      target = record { least = w.0; most = w.1; free = fixed_idle (change P S x) S x.target is_mark says.1 };
      names = and_left _ (inside (references x.kind P) x.reference) fields;
      refers = and_right (inside (constraints x.kind P) x.constraint) _ fields;
      meets = and_right (in_range P x) _ says.0;
      is_mark = is_mark;
    }

module _ (P : Problem) (S : Standing) where
  -- the steps at a place: 0 for the zero steps, else by the constraint
  pub data StepAt (k : ℕ) (q : Kind) (t r : ℕ) : Type 0 where
    by_none : k ≡ 0 → MarksZero P.n S.bound S.marked q t r → StepAt k q t r
    by_one : 1 ≤ k → k ≤ P.m → MarksBy P.p P.n (P.constraint k) S.bound S.marked S.nonzero q t r → StepAt k q t r

  step_at_lem : (q : Kind) (t k r : ℕ) → Marking P S (step q t k r) → StepAt k q t r
  unfolding met change rule_of
  step_at_lem Root t k r M = true_or_false false M.is_mark refl
  step_at_lem Sum t k r M = true_or_false false M.is_mark refl
  step_at_lem Zero t k r M = by_none (eqb-true k 0 M.names) (rw (eqb-true r 0 M.refers) (key.zero M.target M.meets))
  step_at_lem Product t k r M =
      let w = within_says P.m k M.names in
      by_one w.0 w.1 (rw (eqb-true r 0 M.refers) (product M.target M.meets))
  step_at_lem Digits t k r M =
      let w = within_says P.m k M.names in
      let v = within_says P.n r M.refers in
      by_one w.0 w.1 (digits M.target v.0 v.1 M.meets)
  step_at_lem Nonzero t k r M = true_or_false false M.is_mark refl
  step_at_lem Quotient t k r M =
      let w = within_says P.m k M.names in
      let v = within_says P.n r M.refers in
      by_one w.0 w.1 (quotient M.target v.0 v.1 M.meets)

  adding_at : (q : Kind) (t k r : ℕ) → adds_by marks P S (step q t k r) ≡ true → StepAt k q t r
  adding_at q t k r a = step_at_lem q t k r (marking P S (step q t k r) a)

  -- a step in range that meets its rule and marks an unmarked signal adds
  adds_mark : (q : Kind) (t k r : ℕ) → Marking P S (step q t k r) → idle (change P S (step q t k r)) S t ≡ false
      → adds_by marks P S (step q t k r) ≡ true
  unfolding adds_by fits in_range
  adds_mark q t k r M i =
      and_both _ _
      (adds_holds P S (step q t k r)
      (and_both _ _
      (and_both _ _ (within_holds P.n t M.target.least M.target.most) (and_both _ _ M.names M.refers)) M.meets) i)
      M.is_mark

  at_adding : {q : Kind} {t k r : ℕ} → StepAt k q t r → adds_by marks P S (step q t k r) ≡ true
  unfolding met change rule_of
  at_adding (by_none z (key.zero {t = t} U e)) =
      rw z (adds_mark Zero t 0 0 (record { target = U; names = refl; refers = refl; meets = e; is_mark = refl }) U.free)
  at_adding {k = k} (by_one l h (product {t = t} U e)) =
      adds_mark Product t k 0 (record { target = U; names = within_holds P.m k l h; refers = refl; meets = e; is_mark = refl }) U.free
  at_adding {k = k} (by_one l h (digits {t = t} {r = r} U a c e)) =
      adds_mark Digits t k r
      (record { target = U; names = within_holds P.m k l h; refers = within_holds P.n r a c; meets = e; is_mark = refl }) U.free
  at_adding {k = k} (by_one l h (quotient {t = t} {r = r} U a c e)) =
      adds_mark Quotient t k r
      (record { target = U; names = within_holds P.m k l h; refers = within_holds P.n r a c; meets = e; is_mark = refl }) U.free

-- The order of keys, then constraints, then references, is the order of steps

key_first : (x y : Step) → mark_key x.kind x.target ≤ mark_key y.kind y.target
    → (y.constraint < x.constraint → mark_key x.kind x.target < mark_key y.kind y.target)
    → (y.constraint ≡ x.constraint → mark_key x.kind x.target ≡ mark_key y.kind y.target → x.reference ≤ y.reference)
    → earlier y x ≡ false
unfolding earlier key_of
key_first x y h g f =
    let kx = kind_number x.kind in
    let ky = kind_number y.kind in
    let few = kind_small x.kind in
    let few' = kind_small y.kind in
    let last = ltb y.reference x.reference in
    first_by_holds y.target x.target (first_by ky kx (first_by y.constraint x.constraint last)) (omega arith)
    (λ (a : y.target ≡ x.target).
    first_by_holds ky kx (first_by y.constraint x.constraint last) (omega arith)
    (λ (b : ky ≡ kx).
    first_by_holds y.constraint x.constraint last (by_order y.constraint x.constraint (λ l. absurd (omega (arith, g l))) (λ l. l))
    (λ c. le-ltb y.reference x.reference (f c (omega arith)))))

-- The choice

module _ {C : Circuit} (narrow : C.n < 4294967296) (S : Standing) {x r : ℕ} {kept : List (Option (Option Candidate))}
    (W : Swept C S.bound S.marked S.nonzero x C.m r kept)
    (first : ℕ → ℕ) where
  abbrev P : Problem
  P = given C first

  -- the keys and references by place
  abbrev keys : ℕ → ℕ
  keys = with_zeroth x (mark_keys kept)

  abbrev refs : ℕ → ℕ
  refs = with_zeroth 0 (λ k. reference_in (mark_references kept k))

  abbrev At : ℕ → Kind → ℕ → ℕ → Type 0
  At k q t v = adds_by marks P S (step q t k v) ≡ true

  low_at : (q : Kind) (t k v : ℕ) → StepAt P S k q t v → (keys k ≤ mark_key q t) × (k ≤ C.m)
  low_at q t k v (by_none z M) = rw (z, zeroth x (mark_keys kept)) ((W.zeros.low q t v M).0, omega arith)
  low_at q t k v (by_one l h M) = (
    rw (nonzeroth x (mark_keys kept) k l)
        (⊎_elim (λ z. let e : mark_keys kept k ≡ 0 = ap known_key z in omega arith) (λ N. known_low N M) (W.known.each k l h)),
    h,
  )

  -- the lowest key is at most that of every step
  least_at : (y : Step) → adds_by marks P S y ≡ true
      → (keys r ≤ mark_key y.kind y.target) × (y.constraint < r → keys r < mark_key y.kind y.target)
  least_at y a =
      let w = low_at y.kind y.target y.constraint y.reference (adding_at P S _ _ _ _ a) in
      (omega (arith, w.0, W.least.least y.constraint w.1), λ h. omega (arith, w.0, W.least.first y.constraint h))

  pub choice_none : keys r ≡ no_key → first_adding marks P S ≡ none
  unfolding key_of
  choice_none e =
      first_not marks P S
      (λ y a. omega (arith, (least_at y a).0, (marking P S y a).target.most, kind_small y.kind))

  exact_at : FirstKey (At r) (keys r) (refs r)
  exact_at =
      by_equal r 0
      (λ z.
      rw (z, zeroth x (mark_keys kept), zeroth 0 (λ k. reference_in (mark_references kept k)))
      (key_map (λ q t v M. at_adding P S (by_none refl M)) (λ q t v a. zero_at_lem (adding_at P S q t 0 v a)) W.zeros))
      (λ d.
      rw (nonzeroth x (mark_keys kept) r (omega arith), nonzeroth 0 (λ k. reference_in (mark_references kept k)) r (omega arith))
      (key_map (λ q t v M. at_adding P S (by_one (omega arith) W.least.within M)) (λ q t v a. one_at d (adding_at P S q t r v a))
      (W.exact (omega arith))))
    where
      zero_at_lem : {q : Kind} {t v : ℕ} → StepAt P S 0 q t v → MarksZero C.n S.bound S.marked q t v
      zero_at_lem (by_none e M) = M
      zero_at_lem (by_one l h M) = absurd (omega arith)

      one_at : (r ≡ 0 → ⊥) → {q : Kind} {t v : ℕ} → StepAt P S r q t v → MarksBy C.p C.n (constraint_at C r) S.bound S.marked S.nonzero q t v
      one_at d (by_none e M) = absurd (d e)
      one_at d (by_one l h M) = M

  chosen : (H : KeyHolder (At r) (keys r) (refs r)) → first_adding marks P S ≡ some (step H.kind H.target r (refs r))
  chosen H =
      first_is marks P S (step H.kind H.target r (refs r)) H.is
      (λ y a.
      let w = least_at y a in
      key_first (step H.kind H.target r (refs r)) y (omega (arith, H.is_key, w.0)) (λ h. omega (arith, H.is_key, w.1 h))
      (λ z e. (exact_at.low y.kind y.target y.reference (rw (sym z) a)).1 (H.is_key ∙ e)))

  pub choice_some : (choice : Choice) → Narrow choice.key → choice.constraint ≡ r → key_in choice.key ≡ keys r → choice.reference ≡ refs r
      → first_adding marks P S ≡ some (step_of choice)
  choice_some choice N is-r is_key is-reference = ⊎_elim (λ z. absurd (omega (arith, key_small N))) go exact_at.held
    where
      go : KeyHolder (At r) (keys r) (refs r) → first_adding marks P S ≡ some (step_of choice)
      go H =
          let parts = key_parts choice.key.bound choice.key.target (kind_number (kind_of choice.key.kind)) N.target (kind_small _)
          (omega (arith, (marking P S _ H.is).target.most)) (kind_small H.kind) (is_key ∙ H.is_key) in
          chosen H ∙ ap (λ (y : Step). some y) (sym (same_step (step_of choice) (step H.kind H.target r (refs r)) (number_is parts.2) parts.1 is-r is-reference))

-- The choice of the phase
module _ {C : Circuit} (narrow : C.n < 4294967296) (S : Standing) {x : ℕ} {lowest : Option Choice} {kept : List (Option (Option Candidate))}
    (W : Sweeping C S.bound S.marked S.nonzero x C.m lowest kept) (first : ℕ → ℕ) where
  pub sweeping_choice : choice_of lowest ≡ first_adding marks (given C first) S
  sweeping_choice = go lowest W
    where
      go : (lowest : Option Choice) → Sweeping C S.bound S.marked S.nonzero x C.m lowest kept → choice_of lowest ≡ first_adding marks (given C first) S
      go None W = sym (choice_none narrow S W.swept first (sym W.is_lowest))
      go (Some choice) W =
          sym (choice_some narrow S W.swept first choice W.narrow refl W.is_lowest
          (by_equal choice.constraint 0 (λ z. W.by_none z ∙ rw z (sym (zeroth 0 _)))
          (λ d. W.by_one (omega arith) ∙ sym (nonzeroth 0 _ choice.constraint (omega arith)))))
