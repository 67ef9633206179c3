-- Walks over a derivation's bytes against the derivation as a list of steps.
use Prim.Native.Nat.{ℕ, zero, suc, ◌+◌, ◌≤◌, ◌<◌}
use mathlib.Core.Path.{◌≡◌, refl, ap, ◌∙◌}
use mathlib.Core.Bool.{Bool, true, false, not, ◌||◌}
use mathlib.Core.List.{List, ◌∷◌}
use mathlib.Core.Option.{Option, none, some}
use native.Mathlib.Omega.{arith}
use borrow.Author.Tests.{not-true}
use lib.ListN.{length}
use Rattle.circuit.specs.Answer.{given}
use Rattle.circuit.proofs.AnswerLaws.{ask_given, next_given}
use Rattle.laws.specs.Problem.{Problem}
use Rattle.laws.specs.Standing.{Standing}
use Rattle.laws.specs.Step.{Step, in_range, met, after, replay, fits, is_idle, adds, each}
use Rattle.laws.proofs.Sum.{and_left, and_right, and_both, by_equal}
use Rattle.laws.proofs.Optimum.{fits_says, fits_holds}
use Rattle.laws.proofs.Turns.{adds_says, adds_holds}
use Rattle.derivation.specs.Steps.{read_step, tried, walk_from, listed, steps_from}

-- One step

-- the test of a step, where idle ones are let pass and where they aren't
abbrev pub passes : Bool → Problem → Standing → Step → Bool
passes true = fits
passes false = adds

-- a step that isn't refused
pub record Taken (padded : Bool) (P : Problem) (S : Standing) (o : Option Step) (S' : Standing) : Type 0 where
  pub step : Step
  pub known : o ≡ some step
  pub fit : passes padded P S step ≡ true
  pub gives : after P S step ≡ S'

passes_holds : (padded : Bool) (P : Problem) (S : Standing) (x : Step) → fits P S x ≡ true → (padded || not (is_idle P S x)) ≡ true → passes padded P S x ≡ true
passes_holds true P S x f n = f
passes_holds false P S x f n = adds_holds P S x f (not-true _ n)

pub tried_given : (padded : Bool) (P : Problem) (S : Standing) (o : Option Step) (place : ℕ) {S' : Standing} → tried padded P S o place ≡ given S'
    → Taken padded P S o S'
tried_given padded P S none place e = let z : ◌≡◌ {A = ℕ} 0 1 = cc in absurd (omega arith)
tried_given padded P S (some x) place e =
    let range = ask_given (in_range P x) 16 place _ e in
    let rule = ask_given (met P S x) 17 place _ range.1 in
    let new = ask_given (padded || not (is_idle P S x)) 29 place _ rule.1 in
    record { step = x; known = refl; fit = passes_holds padded P S x (fits_holds P S x range.0 rule.0) new.0; gives = cc }

tried_passes : (padded : Bool) (P : Problem) (S : Standing) (x : Step) (place : ℕ) → passes padded P S x ≡ true
    → tried padded P S (some x) place ≡ given (after P S x)
tried_passes true P S x place e = let f = fits_says P S x e in rw (f.0, f.1)
tried_passes false P S x place e = let a = adds_says P S x e in let f = fits_says P S x a.0 in rw (f.0, f.1, a.1)

pub steps_known : (d : List ℕ) (k left : ℕ) {x : Step} → read_step d k ≡ some x → steps_from d k (suc left) ≡ x ∷ steps_from d (suc k) left
unfolding steps_from
steps_known d k left e = rw e

steps_unknown : (d : List ℕ) (k left : ℕ) → read_step d k ≡ none → steps_from d k (suc left) ≡ steps_from d (suc k) left
unfolding steps_from
steps_unknown d k left e = rw e

-- All steps

-- a walk that comes to its end has taken each of its steps, all of known kinds
pub record Walked (padded : Bool) (P : Problem) (S : Standing) (d : List ℕ) (k left : ℕ) (S' : Standing) : Type 0 where
  pub passed : each (passes padded) P S (steps_from d k left) ≡ true
  pub leads : replay P S (steps_from d k left) ≡ S'
  pub counted : length (steps_from d k left) ≡ left

pub walk_passed : (padded : Bool) (P : Problem) (d : List ℕ) (k left : ℕ) (S S' : Standing) → walk_from padded P d k left S ≡ given S'
    → Walked padded P S d k left S'
unfolding walk_from each replay steps_from
walk_passed padded P d k zero S S' e = record { passed = refl; leads = cc; counted = refl }
walk_passed padded P d k (suc left) S S' e =
    let N = next_given (tried padded P S (read_step d k) (suc k)) (walk_from padded P d (suc k) left) e in
    let T = tried_given padded P S (read_step d k) (suc k) N.first in
    let x = T.step in
    let W = walk_passed padded P d (suc k) left (after P S x) S' (rw T.gives N.then) in
    let is = steps_known d k left T.known in
    record {
      passed = rw is (and_both (passes padded P S x) _ T.fit W.passed);
      leads = rw is W.leads;
      counted = rw is (ap suc W.counted);
    }

listed_most : (o : Option Step) (rest : List Step) (left : ℕ) → length rest ≤ left → length (listed o rest) ≤ suc left
listed_most none rest left h = omega arith
listed_most (some x) rest left h = omega arith

steps_most_lem : (d : List ℕ) (k left : ℕ) → length (steps_from d k left) ≤ left
unfolding steps_from
steps_most_lem d k zero = omega arith
steps_most_lem d k (suc left) = listed_most (read_step d k) _ left (steps_most_lem d (suc k) left)

-- as many steps as are read, so the first has a known kind
record First (d : List ℕ) (k left : ℕ) : Type 0 where
  step : Step
  known : read_step d k ≡ some step
  counted : length (steps_from d (suc k) left) ≡ left

first_known : (d : List ℕ) (k left : ℕ) → length (steps_from d k (suc left)) ≡ suc left → First d k left
first_known d k left e = go (read_step d k) refl
  where
    go : (o : Option Step) → read_step d k ≡ o → First d k left
    go none h = absurd (omega (arith, ap length (steps_unknown d k left h), steps_most_lem d (suc k) left))
    go (some x) h = record { step = x; known = h; counted = omega (arith, ap length (steps_known d k left h)) }

-- .. and so has each
pub step_known : (d : List ℕ) (k left : ℕ) → length (steps_from d k left) ≡ left → (j : ℕ) → k ≤ j → j < k + left → (x : Step) × (read_step d j ≡ some x)
step_known d k zero n j h l = absurd (omega arith)
step_known d k (suc left) n j h l =
    let F = first_known d k left n in
    by_equal j k (λ e. (F.step, ap (read_step d) e ∙ F.known)) (λ e. step_known d (suc k) left F.counted j (omega arith) (omega arith))

-- where all kinds are known, steps that pass are walked to their end
pub passed_walk : (padded : Bool) (P : Problem) (d : List ℕ) (k left : ℕ) (S : Standing) → length (steps_from d k left) ≡ left
    → each (passes padded) P S (steps_from d k left) ≡ true → walk_from padded P d k left S ≡ given (replay P S (steps_from d k left))
unfolding walk_from each replay steps_from
passed_walk padded P d k zero S n e = refl
passed_walk padded P d k (suc left) S n e =
    let F = first_known d k left n in
    let x = F.step in
    let is = steps_known d k left F.known in
    let all : each (passes padded) P S (x ∷ steps_from d (suc k) left) ≡ true = rw is at e in
    rw (is, F.known, tried_passes padded P S x (suc k) (and_left (passes padded P S x) _ all))
    (passed_walk padded P d (suc k) left (after P S x) F.counted (and_right (passes padded P S x) _ all))
