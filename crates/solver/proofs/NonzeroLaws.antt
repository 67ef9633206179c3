-- The phase of nonzero marks: what is noted of each signal, and that taking the signals in order takes each turn's first step.
use Prim.Native.Nat.{ℕ, zero, suc, ◌+◌, ◌*◌, ◌≤◌, ◌<◌}
use mathlib.Core.Path.{◌≡◌, refl, sym, ap, ◌∙◌}
use mathlib.Core.Bool.{Bool, true, false, ◌&&◌, ◌||◌}
use mathlib.Core.List.{List}
use mathlib.Core.Option as math
use mathlib.Core.Logic.{◌⊎◌, ⊎_elim}
use native.Mathlib.Omega.{arith}
use native.Mathlib.Numerals.{add-one}
use lib.Dec.{eqb}
use lib.ListN.{length, get_or, set, replicate, length-set, length-replicate}
use lib.Seq.{get_or-set_same, get_or-set_other}
use borrow.Author.Tests.{le-ltb, eqb-true, eq-eqb, ne_eqb}
use Rattle.std.specs.Prelude.{None, Some}
use Rattle.std.proofs.lemmas.List.{get_or-replicate}
use Rattle.circuit.specs.Circuit.{Circuit, Form, Constraint, WellFormed, constraint_at}
use Rattle.laws.specs.Problem.{Problem, given, subject, largest}
use Rattle.laws.specs.Standing.{Standing, exclude_zero, nonzeros}
use Rattle.laws.specs.Rules.{single, nonzero_met}
use Rattle.laws.specs.Step.{Kind, Nonzero, kind_number, names_of, Step, within, in_range, fits, rule_of, met, change, adds, after}
use Rattle.laws.specs.Solver.{step, adds_by, earlier, first_adding}
use Rattle.laws.proofs.Sum.{true_or_false, by_test, and_left, and_right, and_both, by_equal, by_order}
use Rattle.laws.proofs.Order.{add_same, add_keeps}
use Rattle.laws.proofs.Best.{sorted, excluding_kind, first_by_holds}
use Rattle.laws.proofs.Turns.{within_says, within_holds, target_within, adds_says, adds_holds}
use Rattle.laws.proofs.Optimum.{fits_says, fits_holds}
use Rattle.laws.proofs.First.{first_is, first_not}
use Rattle.laws.proofs.Marks.{excluding, steps_end}
use Rattle.rules.specs.Rows.{at}
use Rattle.rules.specs.Steps.{sole}
use Rattle.rules.proofs.FormTests.{sole_none, sole_some}
use Rattle.derivation.specs.Steps.{head_size, step_size}
use Rattle.derivation.specs.Encoded.{step_bytes, stored}
use Rattle.solver.specs.Choice.{Adds, TakenBy}
use Rattle.solver.specs.Nonzeros.{noted, Noted, lowest_for, Firsts}
use Rattle.solver.specs.Phases.{Excluded}
use Rattle.solver.proofs.Progress.{Turning, turning_start, turning_none, turning_next}

-- One number

noted_kept : (b : Bool) (k old : ℕ) → (old ≡ 0 → ⊥) → noted b k old ≡ old
unfolding noted
noted_kept b k old d = rw (ne_eqb old 0 d) refl

noted_no : (k old : ℕ) → noted false k old ≡ old
unfolding noted
noted_no k old = by_test (eqb old 0) (λ e. rw e refl) (λ e. rw e refl)

noted_here : (k : ℕ) → noted true k 0 ≡ k
unfolding noted
noted_here k = refl

-- noted already
noted_self : (b : Bool) (k : ℕ) → noted b k k ≡ k
unfolding noted
noted_self b k = by_test (eqb k 0 && b) (λ e. rw e refl) (λ e. rw e refl)

noted_twice : (a b : Bool) (k old : ℕ) → noted b k (noted a k old) ≡ noted (a || b) k old
noted_twice true b k old =
    by_equal old 0 (λ z. rw z (ap (noted b k) (noted_here k) ∙ noted_self b k ∙ sym (noted_here k)))
    (λ d. ap (noted b k) (noted_kept true k old d) ∙ noted_kept b k old d ∙ sym (noted_kept true k old d))
noted_twice false b k old = ap (noted b k) (noted_no k old)

-- Numbers noted

module _ {test : ℕ → Bool} {k : ℕ} where
  -- where no signal that meets the test is free, all stays
  pub noted_same : {list : List ℕ} → ((s : ℕ) → 1 ≤ s → s < length list → at list s ≡ 0 → test s ≡ false) → Noted test k list list
  noted_same {list} h =
      record {
        sized = refl;
        each = λ s l m.
            by_equal (at list s) 0 (λ z. sym (ap (λ (b : Bool). noted b k (at list s)) (h s l m z) ∙ noted_no k (at list s)))
            (λ d. sym (noted_kept (test s) k (at list s) d));
      }

  -- the one signal that meets it is free
  pub noted_set : {list : List ℕ} {t : ℕ} → t < length list → at list t ≡ 0 → test t ≡ true
      → ((s : ℕ) → (s ≡ t → ⊥) → test s ≡ false) → Noted test k list (set list t k)
  unfolding at
  noted_set {list} {t} fits free here others =
      record {
        sized = length-set list t k;
        each = λ s l m.
            by_equal s t (λ q. rw q (get_or-set_same list t k 0 fits ∙ sym (rw (here, free) (noted_here k))))
            (λ d. get_or-set_other list t s k 0 d ∙ sym (rw (others s d) (noted_no k (get_or list s 0))));
      }

pub noted_both : {a b : ℕ → Bool} {k : ℕ} {x y z : List ℕ} → Noted a k x y → Noted b k y z → Noted (λ s. a s || b s) k x z
noted_both {a} {b} {k} {x} N M =
    record {
      sized = M.sized ∙ N.sized;
      each = λ s l m. M.each s l (omega (arith, N.sized)) ∙ ap (noted (b s) k) (N.each s l m) ∙ noted_twice (a s) (b s) k (at x s);
    }

-- A form's one term

module _ (f : Form) (k : ℕ) {list : List ℕ} where
  pub note_none : None ≡ sole f → Noted (λ s. single s f) k list list
  note_none e = noted_same (λ s l m z. sole_none f e s)

  -- the signal is none of the list, or has a number
  pub note_else : (t : ℕ) → Some t ≡ sole f → (t < length list → at list t ≡ 0 → ⊥) → Noted (λ s. single s f) k list list
  note_else t e bars =
      noted_same (λ s l m z.
      sole_some f t e s ∙ ne_eqb t s (λ (q : t ≡ s). bars (omega arith) (ap (at list) q ∙ z)))

  pub note_set : (t : ℕ) → Some t ≡ sole f → t < length list → at list t ≡ 0 → Noted (λ s. single s f) k list (set list t k)
  note_set t e fits free =
      noted_set fits free (sole_some f t e t ∙ eq-eqb t t refl) (λ s d. sole_some f t e s ∙ ne_eqb t s (λ q. d (sym q)))

module _ (K : Constraint) {k : ℕ} where
  pub targets_noted : {x y z : List ℕ} → single 0 K.c ≡ true → Noted (λ s. single s K.a) k x y → Noted (λ s. single s K.b) k y z
      → Noted (nonzero_met K) k x z
  unfolding nonzero_met
  targets_noted e N M = record { sized = (noted_both N M).sized; each = λ s l m. rw e ((noted_both N M).each s l m) }

  pub no_targets : {x : List ℕ} → single 0 K.c ≡ false → Noted (nonzero_met K) k x x
  unfolding nonzero_met
  no_targets e = noted_same (λ s l m z. rw e refl)

-- Each signal's first constraint

pub firsts_start : (C : Circuit) → Firsts C 0 (replicate 257 0)
unfolding lowest_for at
firsts_start C = record { sized = length-replicate {A = ℕ} 257 0; each = λ s l m. get_or-replicate 257 s 0 0 m }

pub firsts_on : {C : Circuit} {k : ℕ} {K : Constraint} {x y : List ℕ} → K ≡ constraint_at C (k + 1) → Firsts C k x
    → Noted (nonzero_met K) (k + 1) x y → Firsts C (k + 1) y
unfolding lowest_for
firsts_on {C} {k} {K} e F N =
    let next : k + 1 ≡ suc k = add-one k in
    record {
      sized = N.sized ∙ F.sized;
      each = λ s l m.
          N.each s l (omega (arith, F.sized)) ∙ ap (noted (nonzero_met K s) (k + 1)) (F.each s l m) ∙ rw (e, next) refl;
    }

-- r is the lowest of 1 to k that meets the test, 0 where none does
pub record Lowest (test : ℕ → Bool) (k r : ℕ) : Type 0 where
  pub most : r ≤ k
  pub meets : 1 ≤ r → test r ≡ true
  pub least : (j : ℕ) → 1 ≤ j → j ≤ k → test j ≡ true → (1 ≤ r) × (r ≤ j)

module _ {test : ℕ → Bool} {k : ℕ} where
  lowest_kept : {r : ℕ} → Lowest test k r → (r ≡ 0 → test (suc k) ≡ true → ⊥) → Lowest test (suc k) r
  lowest_kept {r} L h =
      record {
        most = omega (arith, L.most);
        meets = L.meets;
        least = λ j l m e.
            by_equal j (suc k)
            (λ q.
            by_equal r 0 (λ z. absurd (h z (ap test (sym q) ∙ e))) (λ d. (omega arith, omega (arith, L.most))))
            (λ d. L.least j l (omega arith) e);
      }

  lowest_found : Lowest test k 0 → test (suc k) ≡ true → Lowest test (suc k) (suc k)
  lowest_found L e =
      record {
        most = omega arith;
        meets = λ h. e;
        least = λ j l m i.
            by_equal j (suc k) (λ q. (omega arith, omega arith)) (λ d. absurd (omega (arith, L.least j l (omega arith) i)));
      }

  lowest_next : (r : ℕ) → Lowest test k r → Lowest test (suc k) (noted (test (suc k)) (suc k) r)
  lowest_next r L =
      by_equal r 0
      (λ z.
      by_test (test (suc k))
      (λ e. rw (z, e, noted_here (suc k)) (lowest_found (rw z at L) e))
      (λ e. rw (e, noted_no (suc k) r) (lowest_kept L (λ q i. true_or_false (test (suc k)) i e))))
      (λ d. rw (noted_kept (test (suc k)) (suc k) r d) (lowest_kept L (λ q i. d q)))

-- what the number found for each signal is
pub lowest : (C : Circuit) (k s : ℕ) → Lowest (λ j. nonzero_met (constraint_at C j) s) k (lowest_for C k s)
unfolding lowest_for
lowest C zero s = record { most = omega arith; meets = λ h. absurd (omega arith); least = λ j l h e. absurd (omega arith) }
lowest C (suc k) s = lowest_next (lowest_for C k s) (lowest C k s)

-- Steps that give nonzero marks

module _ (P : Problem) (S : Standing) where
  -- what a step that gives a nonzero mark says
  record Excluder (t k r : ℕ) : Type 0 where
    target : (1 ≤ t) × (t ≤ P.n)
    constraint : (1 ≤ k) × (k ≤ P.m)
    reference : r ≡ 0
    meets : nonzero_met (P.constraint k) t ≡ true
    free : S.nonzero t ≡ false

  kind_is : (y : Step) → adds_by nonzeros P S y ≡ true → y.kind ≡ Nonzero
  unfolding adds_by change rule_of
  kind_is y a =
      excluding_kind (sorted y.kind (subject (names_of y.kind) P y.constraint) S y.target y.reference) (and_right (adds P S y) _ a)

  excluder_says : (t k r : ℕ) → adds_by nonzeros P S (step Nonzero t k r) ≡ true → Excluder t k r
  unfolding adds_by in_range change met rule_of
  excluder_says t k r a =
      let x = step Nonzero t k r in
      let says = adds_says P S x (and_left _ (nonzeros (change P S x)) a) in
      let f = fits_says P S x says.0 in
      let rest = and_right (within P.n t) _ f.0 in
      record {
        target = target_within P x f.0;
        constraint = within_says P.m k (and_left _ (eqb r 0) rest);
        reference = eqb-true r 0 (and_right (within P.m k) _ rest);
        meets = f.1;
        free = says.1;
      }

  excluder_adds : {t k : ℕ} → Excluder t k 0 → adds_by nonzeros P S (step Nonzero t k 0) ≡ true
  unfolding adds_by in_range change met rule_of
  excluder_adds {t} {k} E =
      let x = step Nonzero t k 0 in
      let ranged = and_both _ _ (within_holds P.n t E.target.0 E.target.1) (and_both _ _ (within_holds P.m k E.constraint.0 E.constraint.1) refl) in
      and_both _ _ (adds_holds P S x (fits_holds P S x ranged E.meets) E.free) refl

  excluding_step : (y : Step) → adds_by nonzeros P S y ≡ true → (y.kind ≡ Nonzero) × Excluder y.target y.constraint y.reference
  excluding_step y a =
      let q = kind_is y a in
      let same = ap (λ (k : Kind). adds_by nonzeros P S (step k y.target y.constraint y.reference)) (sym q) in
      (q, excluder_says y.target y.constraint y.reference (same ∙ a))

not_earlier : (y : Step) (t k : ℕ) → y.kind ≡ Nonzero → t ≤ y.target → (y.target ≡ t → k ≤ y.constraint) → earlier y (step Nonzero t k 0) ≡ false
unfolding earlier
not_earlier y t k q l h =
    first_by_holds _ _ _ l
    (λ e.
    first_by_holds _ _ _ (omega (arith, ap kind_number q))
    (λ i. first_by_holds _ _ _ (h e) (λ j. le-ltb y.reference 0 (omega arith))))

-- The signals in order

-- signals 1 to t that are targets of nonzero steps have their marks
abbrev Done : Circuit → Standing → ℕ → Type 0
Done C S t = (s : ℕ) → 1 ≤ s → s ≤ t → 1 ≤ lowest_for C C.m s → S.nonzero s ≡ true

-- the step of the signal after t
abbrev chosen : Circuit → ℕ → Step
chosen C t = step Nonzero (t + 1) (lowest_for C C.m (t + 1)) 0

module _ (C : Circuit) (S : Standing) (t : ℕ) (D : Done C S t) where
  done_on : (1 ≤ lowest_for C C.m (t + 1) → S.nonzero (t + 1) ≡ true) → Done C S (t + 1)
  done_on h s l m r = by_equal s (t + 1) (λ q. rw q (h (rw q at r))) (λ d. D s l (omega arith) r)

  done_marked : Done C (exclude_zero S (t + 1)) (t + 1)
  unfolding exclude_zero
  done_marked s l m r =
      by_equal s (t + 1) (λ q. rw q (add_same S.nonzero (t + 1))) (λ d. add_keeps S.nonzero (t + 1) s (D s l (omega arith) r))

  -- a step that adds has a later target
  module _ (f : ℕ → ℕ) (y : Step) (a : adds_by nonzeros (given C f) S y ≡ true) where
    least_met : (1 ≤ lowest_for C C.m y.target) × (lowest_for C C.m y.target ≤ y.constraint)
    least_met =
        let E = (excluding_step (given C f) S y a).1 in
        (lowest C C.m y.target).least y.constraint E.constraint.0 E.constraint.1 E.meets

    adds_later : t < y.target
    adds_later =
        let E = (excluding_step (given C f) S y a).1 in
        by_order t y.target (λ l. l) (λ l. true_or_false _ (D y.target E.target.0 l least_met.0) E.free)

  none_adds : C.n ≤ t → (f : ℕ → ℕ) → first_adding nonzeros (given C f) S ≡ math.none
  none_adds h f =
      first_not nonzeros (given C f) S
      (λ y a. let E = (excluding_step (given C f) S y a).1 in absurd (omega (arith, E.target.1, adds_later f y a)))

  -- the next signal's step
  module _ (more : t < C.n) (some : 1 ≤ lowest_for C C.m (t + 1)) (free : S.nonzero (t + 1) ≡ false) where
    next_adds : (f : ℕ → ℕ) → adds_by nonzeros (given C f) S (chosen C t) ≡ true
    next_adds f =
        let L = lowest C C.m (t + 1) in
        excluder_adds (given C f) S
        (record { target = (omega arith, omega arith); constraint = (some, L.most); reference = refl; meets = L.meets some; free = free })

    next_first : (f : ℕ → ℕ) → first_adding nonzeros (given C f) S ≡ math.some (chosen C t)
    next_first f =
        first_is nonzeros (given C f) S (chosen C t) (next_adds f)
        (λ y a.
        not_earlier y (t + 1) (lowest_for C C.m (t + 1)) (excluding_step (given C f) S y a).0 (omega (arith, adds_later f y a))
        (λ q. rw q at (least_met f y a).1))

-- The loop

-- the steps so far, after the `base` steps before, and the signals that are done
pub record Excluding (C : Circuit) (S₀ S : Standing) (output₀ output : List ℕ) (base count t : ℕ) : Type 0 where
  pub taken : ℕ
  pub counted : count ≡ base + taken
  pub few : taken ≤ t
  pub turned : (f : ℕ → ℕ) → Turning (first_adding nonzeros (given C f)) (given C f) S₀ output₀ output base taken S
  pub done : Done C S t

pub excluding_start : (C : Circuit) (S : Standing) (output : List ℕ) (base : ℕ) → Excluding C S S output output base base 0
excluding_start C S output base =
    record {
      taken = 0;
      counted = omega arith;
      few = omega arith;
      turned = λ f. turning_start _ _ S output base;
      done = λ s l m. absurd (omega arith);
    }

module _ {C : Circuit} {S₀ S : Standing} {output₀ output : List ℕ} {base count t : ℕ} (X : Excluding C S₀ S output₀ output base count t) where
  pub excluding_end : C.n ≤ t → (f : ℕ → ℕ) → Excluded (given C f) S₀ S output₀ output base count
  excluding_end h f = rw X.counted (turning_none (X.turned f) (none_adds C S t X.done h f))

  -- the number noted at the next signal
  module _ {firsts : List ℕ} (F : Firsts C C.m firsts) (W : WellFormed C) (more : t < C.n) {k : ℕ} (noted_at : k ≡ at firsts (t + 1)) where
    is : k ≡ lowest_for C C.m (t + 1)
    is = noted_at ∙ F.each (t + 1) (omega arith) (omega (arith, W.n_most))

    pub excluding_skip : (k ≡ 0) ⊎ (S.nonzero (t + 1) ≡ true) → Excluding C S₀ S output₀ output base count (t + 1)
    excluding_skip g =
        record {
          taken = X.taken;
          counted = X.counted;
          few = omega (arith, X.few);
          turned = X.turned;
          done = done_on C S t X.done (λ h. ⊎_elim (λ (z : k ≡ 0). absurd (omega (arith, is))) (λ e. e) g);
        }

    module _ (some : k ≡ 0 → ⊥) (free : S.nonzero (t + 1) ≡ false) where
      found : 1 ≤ lowest_for C C.m (t + 1)
      found = by_equal k 0 (λ z. absurd (some z)) (λ d. omega (arith, is))

      pub excluding_adds : Adds C S (step Nonzero (t + 1) k 0)
      unfolding adds_by
      excluding_adds f = rw is (and_left _ (nonzeros (change (given C f) S (chosen C t))) (next_adds C S t X.done more found free f))

      pub excluding_next : {S' : Standing} → TakenBy C S (step Nonzero (t + 1) k 0) S' → {output' : List ℕ}
          → output' ≡ stored output (head_size + step_size * count) (step_bytes (step Nonzero (t + 1) k 0))
          → Excluding C S₀ S' output₀ output' base (count + 1) (t + 1)
      unfolding after change rule_of
      excluding_next led w =
          record {
            taken = X.taken + 1;
            counted = omega (arith, X.counted);
            few = omega (arith, X.few);
            turned = λ f.
                turning_next (X.turned f) (omega (arith, X.few)) (step Nonzero (t + 1) k 0) (rw is (next_first C S t X.done more found free f))
                X.counted w (led f);
            done = rw (led (largest C.p)) (done_marked C S t X.done);
          }

-- at most one step for each signal
pub nonzeros_few : {P : Problem} {S S' : Standing} {output output' : List ℕ} {base count : ℕ} → Excluded P S S' output output' base count
    → count ≤ base + P.n
nonzeros_few {P} {S} E = omega (arith, E.counted, (steps_end excluding P S).short)
