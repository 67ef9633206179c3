-- The solver's steps are accepted, so none is idle, at most three for each target; no step adds to what they reach, and no derivation of met steps exceeds it.
use Prim.Native.Nat.{ℕ, ◌+◌, ◌*◌, ◌≤◌}
use mathlib.Core.Path.{◌≡◌, refl, sym, ap, ◌∙◌}
use mathlib.Core.Bool.{Bool, true, false}
use mathlib.Core.List.{List, [], ◌∷◌, ◌++◌}
use native.Mathlib.Omega.{arith}
use lib.ListN.{length, length-append}
use Rattle.laws.specs.Problem.{Problem, Subject, subject}
use Rattle.laws.specs.Standing.{Standing, start, not_zero, bounds, nonzeros}
use Rattle.laws.specs.Step.{names_of, Kind, Step, Rule, rule, rule_of, met, change, is_idle, adds, replay, accepted, formerly}
use Rattle.laws.specs.Sound.{AtLeast, Closed}
use Rattle.laws.specs.Solver.{adds_by, bounded, bound_steps, nonzero_steps, excluded, mark_steps, solution, steps_for}
use Rattle.laws.proofs.Sum.{and_left, and_right, and_both, true_or_false, false_by}
use Rattle.laws.proofs.Order.{nonzeros_is, by_sort, replay_adds, replay_append, each_append}
use Rattle.laws.proofs.Turns.{adds_says, adds_holds}
use Rattle.laws.proofs.Optimum.{fits_says, fits_holds, optimum}
use Rattle.laws.proofs.Best.{sorted, excluding_kind, lowers_says, lowers_holds}
use Rattle.laws.proofs.Greedy.{lowering_from, bounds_end, nothing_lowers}
use Rattle.laws.proofs.Marks.{excluding, marking, steps_end, nothing_added}

steps_append : (t : ℕ) (xs ys : List Step) → steps_for t (xs ++ ys) ≡ steps_for t xs + steps_for t ys
unfolding steps_for
steps_append t [] ys = omega arith
steps_append t (x ∷ xs) ys = omega (arith, steps_append t xs ys)

-- the nonzero rule asks nothing of the standing
excludes_alike : {q : Kind} → q ≡ Kind.Nonzero → (J : Subject) (S S' : Standing) (t r : ℕ) → rule q J S t r ≡ rule q J S' t r
excludes_alike e J S S' t r = rw e refl

module _ (P : Problem) where
  last : Standing
  last = replay P (excluded P) (mark_steps P)

  last_solution : replay P (start P) (solution P) ≡ last
  unfolding solution last
  last_solution =
      replay_append P (start P) (bound_steps P) (nonzero_steps P ++ mark_steps P)
      ∙ replay_append P (bounded P) (nonzero_steps P) (mark_steps P)

  pub solution_accepted : accepted P (start P) (solution P) ≡ true
  unfolding solution nonzero_steps mark_steps
  solution_accepted =
      each_append adds P (start P) (bound_steps P) (nonzero_steps P ++ mark_steps P) (bounds_end P).are_accepted
      (each_append adds P (bounded P) (nonzero_steps P) (mark_steps P) (steps_end excluding P (bounded P)).are_accepted
      (steps_end marking P (excluded P)).are_accepted)

  -- at most three steps for each target
  pub solution_short : (t : ℕ) → steps_for t (solution P) ≤ 3
  unfolding solution nonzero_steps mark_steps
  solution_short t =
      omega (
        arith,
        steps_append t (bound_steps P) (nonzero_steps P ++ mark_steps P),
        steps_append t (nonzero_steps P) (mark_steps P),
        (bounds_end P).once t,
        (steps_end excluding P (bounded P)).once t,
        (steps_end marking P (excluded P)).once t,
      )

  pub solution_length : length (solution P) ≤ 3 * P.n
  unfolding solution nonzero_steps mark_steps
  solution_length =
      omega (
        arith,
        length-append (bound_steps P) (nonzero_steps P ++ mark_steps P),
        length-append (nonzero_steps P) (mark_steps P),
        (bounds_end P).short,
        (steps_end excluding P (bounded P)).short,
        (steps_end marking P (excluded P)).short,
      )

  -- the bounds are those of the first phase, the nonzero marks those of the second
  last_bound : (s : ℕ) → last.bound s ≡ (bounded P).bound s
  unfolding last nonzero_steps mark_steps
  last_bound s =
      (steps_end marking P (excluded P)).held.1.same.same_bounds.bounds_stay s ∙ (steps_end excluding P (bounded P)).held.1.same.bounds_stay s

  last_nonzero : last.nonzero ≡ (excluded P).nonzero
  unfolding last mark_steps
  last_nonzero = (steps_end marking P (excluded P)).held.1.same.nonzeros_stay

  no_lower : (x : Step) → adds_by bounds P last x ≡ true → ⊥
  no_lower x a =
      let l = lowers_says P last x a in
      let earlier =
      lowering_from P (bounded P) last x.target (last.bound x.target) (λ s d. sym (last_bound s)) (omega arith) x
      (omega (arith, last_bound x.target))
      l.less
      l in
      true_or_false _ (lowers_holds P (bounded P) x earlier.0) (nothing_lowers P x)

  no_nonzero : (x : Step) → adds_by nonzeros P last x ≡ true → ⊥
  unfolding adds_by met change rule_of nonzero_steps
  no_nonzero x a =
      let b = adds_says P last x (and_left _ _ a) in
      let f = fits_says P last x b.0 in
      let J = subject (names_of x.kind) P x.constraint in
      let c : nonzeros (change P last x) ≡ true = and_right (adds P last x) _ a in
      let same : rule_of P last x ≡ rule_of P (excluded P) x =
      excludes_alike (excluding_kind (sorted x.kind J last x.target x.reference) c) J last (excluded P) x.target x.reference in
      let was : change P last x ≡ not_zero = nonzeros_is _ c in
      let is : change P (excluded P) x ≡ not_zero = sym (ap (λ (y : Rule). y.change) same) ∙ was in
      let free : last.nonzero x.target ≡ false = rw was at b.1 in
      let here : is_idle P (excluded P) x ≡ false = rw is (sym (ap (λ (z : ℕ → Bool). z x.target) last_nonzero) ∙ free) in
      true_or_false _
      (and_both _ _ (adds_holds P (excluded P) x (fits_holds P (excluded P) x f.0 (sym (ap (λ (y : Rule). y.met) same) ∙ f.1)) here) (rw is refl))
      (nothing_added excluding P (bounded P) x)

  last_closed : Closed P last
  unfolding last adds_by mark_steps
  last_closed =
      record {
        closed = λ x.
            false_by _
            (λ a.
            by_sort (change P last x) (λ b. no_lower x (and_both _ _ a b))
            (λ k. true_or_false {A = ⊥} _ (and_both _ _ a k) (nothing_added marking P (excluded P) x))
            (λ z. no_nonzero x (and_both _ _ a z)));
      }

  pub solution_closed : Closed P (replay P (start P) (solution P))
  solution_closed = rw last_solution last_closed

  pub solution_best : (xs : List Step) → formerly P (start P) xs ≡ true
      → AtLeast (replay P (start P) xs) (replay P (start P) (solution P))
  solution_best = optimum solution_closed (replay_adds P (start P) (solution P))
