-- What holds of a phase of the solver in which each turn takes a new target: its steps are accepted, at most one for each target, and
-- after n turns none is left to choose.
use Prim.Native.Nat.{ℕ, zero, suc, ◌+◌, ◌≤◌, ◌<◌}
use mathlib.Core.Path.{◌≡◌, refl, sym, ap}
use mathlib.Core.Bool.{Bool, true, false, not}
use mathlib.Core.List.{List, [], ◌∷◌}
use mathlib.Core.Option.{Option, none, some}
use native.Mathlib.Omega.{arith}
use lib.Dec.{leb, eqb}
use lib.ListN.{length}
use borrow.Author.Tests.{leb-true, le-leb, eq-eqb, ne_eqb, not-true}
use Rattle.laws.specs.Problem.{Problem}
use Rattle.laws.specs.Sum.{sum, keep}
use Rattle.laws.specs.Standing.{Standing, add, none_of}
use Rattle.laws.specs.Step.{Step, within, in_range, fits, is_idle, adds, after, replay, each, accepted}
use Rattle.laws.specs.Solver.{taken, turns, steps_for}
use Rattle.laws.proofs.Sum.{and_left, and_right, and_both, by_equal, keep_true, keep_false, keep_le, sum_mono, sum_out}
use Rattle.laws.proofs.Order.{add_same, add_other}

pub within_says : (n s : ℕ) → within n s ≡ true → (1 ≤ s) × (s ≤ n)
unfolding within
within_says n s e = (leb-true 1 s (and_left _ (leb s n) e), leb-true s n (and_right (leb 1 s) _ e))

pub within_holds : (n s : ℕ) → 1 ≤ s → s ≤ n → within n s ≡ true
unfolding within
within_holds n s a b = and_both (leb 1 s) (leb s n) (le-leb 1 s a) (le-leb s n b)

pub target_within : (P : Problem) (x : Step) → in_range P x ≡ true → (1 ≤ x.target) × (x.target ≤ P.n)
unfolding in_range
target_within P x e = within_says P.n x.target (and_left _ _ e)

pub adds_says : (P : Problem) (S : Standing) (x : Step) → adds P S x ≡ true → (fits P S x ≡ true) × (is_idle P S x ≡ false)
unfolding adds
adds_says P S x e = (and_left _ _ e, not-true _ (and_right (fits P S x) _ e))

pub adds_holds : (P : Problem) (S : Standing) (x : Step) → fits P S x ≡ true → is_idle P S x ≡ false → adds P S x ≡ true
unfolding adds
adds_holds P S x e g = and_both _ _ e (ap not g)

pub adds_target : (P : Problem) (S : Standing) (x : Step) → adds P S x ≡ true → (1 ≤ x.target) × (x.target ≤ P.n)
unfolding fits
adds_target P S x e = target_within P x (and_left _ _ (adds_says P S x e).0)

-- The targets that are not done

open_at : (ℕ → Bool) → ℕ → ℕ
open_at done s = keep (not (done (suc s))) 1

open_count : ℕ → (ℕ → Bool) → ℕ
open_count n done = sum n (open_at done)

count_most : (n : ℕ) (f : ℕ → ℕ) → ((s : ℕ) → f s ≤ 1) → sum n f ≤ n
unfolding sum
count_most zero f h = omega arith
count_most (suc n) f h = omega (arith, h 0, count_most n (λ s. f (suc s)) (λ s. h (suc s)))

open_most : (n : ℕ) (done : ℕ → Bool) → open_count n done ≤ n
unfolding open_count open_at
open_most n done = count_most n (open_at done) (λ s. keep_le (not (done (suc s))) 1)

-- a new target leaves one fewer
open_less : (n : ℕ) (done : ℕ → Bool) (t : ℕ) → 1 ≤ t → t ≤ n → done t ≡ false → open_count n (add done t) < open_count n done
unfolding open_count open_at
open_less n done zero l m e = absurd (omega arith)
open_less n done (suc t) l m e =
    omega (
      arith,
      sum_out n (open_at done) t (omega arith),
      keep_true (not (done (suc t))) 1 (ap not e),
      sum_mono n (open_at (add done (suc t))) (λ s. keep (not (eqb s t)) (open_at done s)) (λ s k. term s),
    )
  where
    term : (s : ℕ) → open_at (add done (suc t)) s ≤ keep (not (eqb s t)) (open_at done s)
    term s =
        by_equal s t (λ q. rw q (omega (arith, keep_false (not (add done (suc t) (suc t))) 1 (ap not (add_same done (suc t))))))
        (λ d.
        omega (
          arith,
          keep_true (not (eqb s t)) (open_at done s) (ap not (ne_eqb s t d)),
          ap (λ (b : Bool). keep (not b) 1) (add_other done (suc t) (suc s) (λ (q : suc s ≡ suc t). d (omega arith))),
        ))

-- a step that takes a new target is counted where it is done
add_counts : (done : ℕ → Bool) (u t : ℕ) → done u ≡ false → keep (eqb u t) 1 + keep (done t) 1 ≡ keep (add done u t) 1
add_counts done u t e =
    by_equal t u
    (λ q. rw q (omega (arith, keep_true _ 1 (eq-eqb u u refl), keep_false (done u) 1 e, keep_true _ 1 (add_same done u))))
    (λ d. omega (arith, keep_false _ 1 (ne_eqb u t (λ q. d (sym q))), ap (λ (b : Bool). keep b 1) (add_other done u t d)))

-- Turns

pub record Turn (P : Problem) (Holds : (ℕ → Bool) → Standing → Type 0) (done : ℕ → Bool) (S : Standing) (x : Step) : Type 0 where
  pub is_new : adds P S x ≡ true
  pub new : done x.target ≡ false
  pub holds : Holds (add done x.target) (after P S x)

-- each turn takes a step that adds, with a target that is not done, and keeps the invariant
pub record Phase (P : Problem) (choose : Standing → Option Step) (Holds : (ℕ → Bool) → Standing → Type 0) : Type 0 where
  pub turn : (done : ℕ → Bool) (S : Standing) (x : Step) → Holds done S → choose S ≡ some x → Turn P Holds done S x

-- what a phase comes to: accepted steps, one a target, and none left to choose
pub record Ends (P : Problem) (choose : Standing → Option Step) (Holds : (ℕ → Bool) → Standing → Type 0) (S : Standing) (xs : List Step) : Type 0 where
  pub are_accepted : accepted P S xs ≡ true
  pub held : (last : ℕ → Bool) × Holds last (replay P S xs)
  pub once : (t : ℕ) → steps_for t xs ≤ 1
  pub short : length xs ≤ P.n
  pub none_left : choose (replay P S xs) ≡ none

module _ {P : Problem} {choose : Standing → Option Step} {Holds : (ℕ → Bool) → Standing → Type 0} (phase : Phase P choose Holds) where
  -- induction over the turns
  turns_by : (Q : ℕ → (ℕ → Bool) → Standing → List Step → Type 0)
      → ((done : ℕ → Bool) (S : Standing) → Holds done S → Q 0 done S [])
      → ((fuel : ℕ) (done : ℕ → Bool) (S : Standing) → Holds done S → choose S ≡ none → Q (suc fuel) done S [])
      → ((fuel : ℕ) (done : ℕ → Bool) (S : Standing) (x : Step) (xs : List Step)
      → Turn P Holds done S x → Q fuel (add done x.target) (after P S x) xs → Q (suc fuel) done S (x ∷ xs))
      → (fuel : ℕ) (done : ℕ → Bool) (S : Standing) → Holds done S → Q fuel done S (turns choose P fuel S)
  unfolding turns
  turns_by Q ends stops goes zero done S h = ends done S h
  turns_by Q ends stops goes (suc fuel) done S h =
      go (λ x u. turns_by Q ends stops goes fuel (add done x.target) (after P S x) u.holds) (choose S) refl
    where
      go : ((x : Step) → Turn P Holds done S x → Q fuel (add done x.target) (after P S x) (turns choose P fuel (after P S x)))
          → (o : Option Step) → choose S ≡ o → Q (suc fuel) done S (taken o (λ x. turns choose P fuel (after P S x)))
      go rest none e = stops fuel done S h e
      go rest (some x) e = let u = phase.turn done S x h e in goes fuel done S x _ u (rest x u)

  turn_less : (done : ℕ → Bool) (S : Standing) (x : Step) → Turn P Holds done S x
      → open_count P.n (add done x.target) < open_count P.n done
  turn_less done S x u =
      let w = adds_target P S x u.is_new in
      open_less P.n done x.target w.0 w.1 u.new

  finished : (done : ℕ → Bool) (S : Standing) → Holds done S → open_count P.n done ≡ 0
      → (o : Option Step) → choose S ≡ o → choose S ≡ none
  finished done S h z none e = e
  finished done S h z (some x) e = absurd (omega (arith, turn_less done S x (phase.turn done S x h e)))

  pub turns_short : (fuel : ℕ) (done : ℕ → Bool) (S : Standing) → Holds done S → length (turns choose P fuel S) ≤ fuel
  turns_short =
      turns_by (λ fuel done S xs. length xs ≤ fuel) (λ done S h. omega arith) (λ fuel done S h e. omega arith)
      (λ fuel done S x xs u r. omega arith)

  -- a phase of n turns from where no target is done
  pub phase_ends : (S : Standing) → Holds none_of S → Ends P choose Holds S (turns choose P P.n S)
  unfolding each replay steps_for none_of
  phase_ends S h =
      record {
        are_accepted =
            turns_by (λ fuel done S xs. accepted P S xs ≡ true) (λ done S h. refl) (λ fuel done S h e. refl)
            (λ fuel done S x xs u r. and_both _ _ u.is_new r)
            P.n none_of S h;
        held =
            turns_by (λ fuel done S xs. (last : ℕ → Bool) × Holds last (replay P S xs)) (λ done S h. (done, h)) (λ fuel done S h e. (done, h))
            (λ fuel done S x xs u r. r)
            P.n none_of S h;
        once = λ t.
            omega (
              arith,
              turns_by (λ fuel done S xs. steps_for t xs + keep (done t) 1 ≤ 1) (λ done S h. omega (arith, keep_le (done t) 1))
                  (λ fuel done S h e. omega (arith, keep_le (done t) 1))
                  (λ fuel done S x xs u r. omega (arith, add_counts done x.target t u.new))
                  P.n none_of S h,
            );
        short = turns_short P.n none_of S h;
        none_left =
            turns_by (λ fuel done S xs. open_count P.n done ≤ fuel → choose (replay P S xs) ≡ none)
            (λ done S h l. finished done S h (omega arith) (choose S) refl)
            (λ fuel done S h e l. e)
            (λ fuel done S x xs u r l. r (omega (arith, turn_less done S x u)))
            P.n none_of S h (open_most P.n none_of);
      }
