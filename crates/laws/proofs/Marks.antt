-- Phases that add by one sort of change: each turn takes a step that adds, as long as there is one. So n turns suffice. The phases of nonzero marks and
-- of marks are such.
use Prim.Native.Nat.{ℕ}
use mathlib.Core.Path.{◌≡◌, refl}
use mathlib.Core.Bool.{Bool, true, false}
use mathlib.Core.List.{List}
use mathlib.Core.Option.{some}
use Rattle.laws.specs.Problem.{Problem}
use Rattle.laws.specs.Standing.{Standing, add, none_of, mark, exclude_zero, Change, apply, idle, marks, nonzeros}
use Rattle.laws.specs.Step.{Step, change, adds, after, replay}
use Rattle.laws.specs.Solver.{adds_by, first_adding, turns}
use Rattle.laws.proofs.Sum.{and_left, and_right, true_or_false, false_by}
use Rattle.laws.proofs.Order.{add_mono, marks_is, nonzeros_is}
use Rattle.laws.proofs.First.{first_some, first_none}
use Rattle.laws.proofs.Turns.{adds_says, Turn, Phase, Ends, phase_ends}

-- changes of sort c add to `held`, and keep `Same`
pub record Adding (c : Change → Bool) (held : Standing → ℕ → Bool) (Same : Standing → Standing → Type 0) : Type 0 where
  pub was_not : (d : Change) (S : Standing) (t : ℕ) → c d ≡ true → idle d S t ≡ false → held S t ≡ false
  pub now : (d : Change) (S : Standing) (t : ℕ) → c d ≡ true → held (apply d S t) ≡ add (held S) t
  pub same_refl : (S : Standing) → Same S S
  pub same_step : (d : Change) (S₁ S : Standing) (t : ℕ) → c d ≡ true → Same S₁ S → Same S₁ (apply d S t)

module _ {c : Change → Bool} {held : Standing → ℕ → Bool} {Same : Standing → Standing → Type 0} (A : Adding c held Same) (P : Problem) (S₁ : Standing) where
  -- targets that are done are held
  pub record Held (done : ℕ → Bool) (S : Standing) : Type 0 where
    pub all_held : (s : ℕ) → done s ≡ true → held S s ≡ true
    pub same : Same S₁ S

  pub adding_phase : Phase P (first_adding c P) Held
  unfolding adds_by after
  adding_phase = record { turn = turn }
    where
      turn : (done : ℕ → Bool) (S : Standing) (x : Step) → Held done S → first_adding c P S ≡ some x → Turn P Held done S x
      turn done S x h e =
          let a = first_some c P S x e in
          let b = and_left _ (c (change P S x)) a in
          let i = and_right (adds P S x) _ a in
          let z = A.was_not (change P S x) S x.target i (adds_says P S x b).1 in
          record {
            is_new = b;
            new = false_by _ (λ d. true_or_false _ (h.all_held x.target d) z);
            holds =
                record {
                  all_held = λ s d. rw (A.now (change P S x) S x.target i) (add_mono x.target h.all_held s d);
                  same = A.same_step (change P S x) S₁ S x.target i h.same;
                };
          }

  held_start : Held none_of S₁
  unfolding none_of
  held_start = record { all_held = λ s e. true_or_false false e refl; same = A.same_refl S₁ }

  abbrev steps : List Step
  steps = turns (first_adding c P) P P.n S₁

  pub steps_end : Ends P (first_adding c P) Held S₁ steps
  steps_end = phase_ends adding_phase S₁ held_start

  -- after them no step adds of this sort
  pub nothing_added : (x : Step) → adds_by c P (replay P S₁ steps) x ≡ false
  nothing_added = first_none c P _ steps_end.none_left

-- Nonzero marks, then marks

-- what both phases leave as it was ..
pub record SameBounds (S₁ S : Standing) : Type 0 where
  pub bounds_stay : (s : ℕ) → S.bound s ≡ S₁.bound s

-- .. and the second besides
pub record SameNonzeros (S₁ S : Standing) : Type 0 where
  pub same_bounds : SameBounds S₁ S
  pub nonzeros_stay : S.nonzero ≡ S₁.nonzero

pub excluding : Adding nonzeros (λ S. S.nonzero) SameBounds
unfolding exclude_zero
excluding =
    record {
      was_not = λ d S t e i. rw (nonzeros_is d e) at i;
      now = λ d S t e. rw (nonzeros_is d e);
      same_refl = λ S. record { bounds_stay = λ s. refl };
      same_step = λ d S₁ S t e h. rw (nonzeros_is d e) (record { bounds_stay = h.bounds_stay });
    }

pub marking : Adding marks (λ S. S.marked) SameNonzeros
unfolding mark
marking =
    record {
      was_not = λ d S t e i. rw (marks_is d e) at i;
      now = λ d S t e. rw (marks_is d e);
      same_refl = λ S. record { same_bounds = record { bounds_stay = λ s. refl }; nonzeros_stay = refl };
      same_step = λ d S₁ S t e h.
          rw (marks_is d e) (record { same_bounds = record { bounds_stay = h.same_bounds.bounds_stay }; nonzeros_stay = h.nonzeros_stay });
    }
