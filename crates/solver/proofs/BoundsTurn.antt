-- The turns of the bounds phase: what the loop knows, and what a turn does with it.
use Prim.Native.Nat.{ℕ, ◌+◌, ◌*◌, ◌≤◌, ◌<◌}
use mathlib.Core.Path.{◌≡◌, sym, ap, ◌∙◌}
use mathlib.Core.Bool.{true}
use mathlib.Core.List.{List}
use mathlib.Core.Option as math
use native.Mathlib.Omega.{arith}
use native.Mathlib.Nat.{zero-add}
use Rattle.std.specs.Prelude.{Option}
use Rattle.circuit.specs.Circuit.{Circuit, WellFormed}
use Rattle.laws.specs.Problem.{given}
use Rattle.laws.specs.Standing.{Standing, Change, bounds, apply, lower, value}
use Rattle.laws.specs.Step.{Step, change, after}
use Rattle.laws.specs.Solver.{lowers, adds_by, best_bound}
use Rattle.laws.proofs.Sum.{and_left}
use Rattle.laws.proofs.Order.{lower_other, bounds_is, after_adds}
use Rattle.laws.proofs.Best.{lowers_says, best_some}
use Rattle.derivation.specs.Steps.{head_size, step_size}
use Rattle.derivation.specs.Encoded.{step_bytes, stored}
use Rattle.solver.specs.Links.{Forgotten}
use Rattle.solver.specs.Bounds.{Keys, SomeKeys}
use Rattle.solver.specs.Phases.{Lowered}
use Rattle.solver.specs.Choice.{Adds, TakenBy}
use Rattle.solver.specs.declared.keys.Key.{Key}
use Rattle.solver.proofs.Progress as turns
use Rattle.solver.proofs.KeySearch.{keys_kept}

-- the steps so far, and what is known of keys
pub record Turning (C : Circuit) (S₀ S : Standing) (keys : List (Option (Option Key))) (output₀ output : List ℕ) (count : ℕ) : Type 0 where
  pub turned : (first : ℕ → ℕ) → turns.Turning (best_bound (given C first)) (given C first) S₀ output₀ output 0 count S
  pub keyed : SomeKeys C S.bound keys

pub turning_start : (C : Circuit) (S : Standing) (keys : List (Option (Option Key))) (output : List ℕ) → SomeKeys C S.bound keys
    → Turning C S S keys output output 0
turning_start C S keys output K = record { turned = λ first. turns.turning_start _ _ S output 0; keyed = K }

module _ {C : Circuit} {S₀ S : Standing} {keys : List (Option (Option Key))} {output₀ output : List ℕ} {count : ℕ}
    (T : Turning C S₀ S keys output₀ output count) where
  pub turning_all : C.n ≤ count → (first : ℕ → ℕ) → Lowered (given C first) S₀ S output₀ output count
  turning_all h first = rw (zero-add count) at (turns.turning_all (T.turned first) h)

  pub turning_none : ((first : ℕ → ℕ) → best_bound (given C first) S ≡ math.none) → (first : ℕ → ℕ) → Lowered (given C first) S₀ S output₀ output count
  turning_none e first = rw (zero-add count) at (turns.turning_none (T.turned first) (e first))

  -- the step that was chosen
  module _ (x : Step) (chosen : (first : ℕ → ℕ) → best_bound (given C first) S ≡ math.some x) where
    lowering : (first : ℕ → ℕ) → lowers (given C first) S x ≡ true
    lowering first = (best_some (given C first) S x (chosen first)).0

    pub lowering_adds : Adds C S x
    unfolding adds_by
    lowering_adds first = and_left _ (bounds (change (given C first) S x)) (lowering first)

    -- the standing that the step leads to
    module _ (W : WellFormed C) {S' : Standing} (led : TakenBy C S x S') where
      -- other bounds stay
      others : (s : ℕ) → (s ≡ x.target → ⊥) → S.bound s ≡ S'.bound s
      unfolding after
      others s d =
          let P = given C S.bound in
          let is_bound = bounds_is (change P S x) (lowers_says P S x (lowering S.bound)).is_bound in
          let there : S' ≡ lower S x.target (value (change P S x)) = led S.bound ∙ ap (λ (y : Change). apply y S x.target) is_bound in
          sym (ap (λ (Z : Standing). Z.bound s) there ∙ lower_other S x.target (value (change P S x)) s d)

      low : (s : ℕ) → S'.bound s < C.p
      low s =
          let lower : S'.bound s ≤ S.bound s = rw (led S.bound) ((after_adds (given C S.bound) S x).bounds s) in
          omega (arith, T.keyed.low s)

      pub turning_next : count < C.n → {found after : List (Option (Option Key))} → Keys C S.bound found → {output' : List ℕ}
          → output' ≡ stored output (head_size + step_size * count) (step_bytes x)
          → Forgotten C x.target found after → Turning C S₀ S' after output₀ output' (count + 1)
      turning_next more {found} {after} K {output'} w F =
          record {
            turned = λ first. turns.turning_next (T.turned first) more x (chosen first) {k = count} (omega arith) w (led first);
            keyed = keys_kept C (omega (arith, W.p_least)) S.bound S'.bound x.target others found after K F low;
          }
