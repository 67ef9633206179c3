-- The turns of the marks phase: what the loop knows, and what a turn does with it.
use Prim.Native.Nat.{ℕ, ◌+◌, ◌*◌, ◌≤◌, ◌<◌}
use mathlib.Core.Path.{◌≡◌, refl, ap, ◌∙◌}
use mathlib.Core.Bool.{true, false}
use mathlib.Core.List.{List}
use mathlib.Core.Option as math
use native.Mathlib.Omega.{arith}
use Rattle.std.specs.Prelude.{Option}
use Rattle.circuit.specs.Circuit.{Circuit, WellFormed}
use Rattle.laws.specs.Problem.{given}
use Rattle.laws.specs.Standing as laws
use Rattle.laws.specs.Standing.{Change, at_most, fixed, not_zero, apply, add, mark}
use Rattle.laws.specs.Step.{Step, change, after}
use Rattle.laws.specs.Solver.{adds_by, first_adding}
use Rattle.laws.proofs.Sum.{and_left, true_or_false}
use Rattle.laws.proofs.First.{first_some}
use Rattle.derivation.specs.Steps.{head_size, step_size}
use Rattle.derivation.specs.Encoded.{step_bytes, stored}
use Rattle.solver.specs.Links.{Forgotten}
use Rattle.solver.specs.Marks.{MarkKeys}
use Rattle.solver.specs.Choice.{Adds, TakenBy}
use Rattle.solver.specs.Phases.{Marked}
use Rattle.solver.specs.declared.marking.Candidate.{Candidate}
use Rattle.solver.proofs.Progress as turns
use Rattle.solver.proofs.SweepLaws.{keys_kept}
use Rattle.solver.proofs.MarkChoice.{marking}

-- some first bounds, where which ones doesn't matter
any : ℕ → ℕ
any s = 0

-- the steps so far, after the `base` steps before, and what is known of the constraints
pub record Turning (C : Circuit) (S₀ S : laws.Standing) (kept : List (Option (Option Candidate))) (output₀ output : List ℕ) (base count : ℕ) : Type 0 where
  pub turned : (f : ℕ → ℕ) → turns.Turning (first_adding laws.marks (given C f)) (given C f) S₀ output₀ output base count S
  pub keyed : MarkKeys C S.bound S.marked S.nonzero kept

pub turning_start : (C : Circuit) (S : laws.Standing) (kept : List (Option (Option Candidate))) (output : List ℕ) (base : ℕ)
    → MarkKeys C S.bound S.marked S.nonzero kept → Turning C S S kept output output base 0
turning_start C S kept output base K = record { turned = λ f. turns.turning_start _ _ S output base; keyed = K }

fixed_apply : (d : Change) (S : laws.Standing) (t : ℕ) → laws.marks d ≡ true → apply d S t ≡ mark S t
fixed_apply (at_most x) S t e = true_or_false false e refl
fixed_apply fixed S t e = refl
fixed_apply not_zero S t e = true_or_false false e refl

module _ {C : Circuit} {S₀ S : laws.Standing} {kept : List (Option (Option Candidate))} {output₀ output : List ℕ} {base count : ℕ}
    (T : Turning C S₀ S kept output₀ output base count) where
  pub turning_all : C.n ≤ count → (f : ℕ → ℕ) → Marked (given C f) S₀ S output₀ output base (base + count)
  turning_all h f = turns.turning_all (T.turned f) h

  pub turning_none : ((f : ℕ → ℕ) → first_adding laws.marks (given C f) S ≡ math.none) → (f : ℕ → ℕ)
      → Marked (given C f) S₀ S output₀ output base (base + count)
  turning_none e f = turns.turning_none (T.turned f) (e f)

  -- the step that was chosen
  module _ (x : Step) (chosen : (f : ℕ → ℕ) → first_adding laws.marks (given C f) S ≡ math.some x) where
    adding : (f : ℕ → ℕ) → adds_by laws.marks (given C f) S x ≡ true
    adding f = first_some laws.marks (given C f) S x (chosen f)

    pub marking_adds : Adds C S x
    unfolding adds_by
    marking_adds f = and_left _ (laws.marks (change (given C f) S x)) (adding f)

    -- the standing that the step leads to: keys of constraints that name the signal are forgotten, the others stay
    module _ (W : WellFormed C) {S' : laws.Standing} (led : TakenBy C S x S') where
      step_mark : S' ≡ mark S x.target
      unfolding after
      step_mark = led any ∙ fixed_apply (change (given C any) S x) S x.target (marking (given C any) S x (adding any)).is_mark

      pub turning_next : count < C.n → {found after : List (Option (Option Candidate))} → MarkKeys C S.bound S.marked S.nonzero found → {output' : List ℕ}
          → output' ≡ stored output (head_size + step_size * (base + count)) (step_bytes x)
          → Forgotten C x.target found after → Turning C S₀ S' after output₀ output' base (count + 1)
      unfolding mark
      turning_next more {found} {after} K {output'} w F =
          let same_bounds : S'.bound ≡ S.bound = ap (λ (Z : laws.Standing). Z.bound) step_mark in
          let same_nonzeros : S'.nonzero ≡ S.nonzero = ap (λ (Z : laws.Standing). Z.nonzero) step_mark in
          let grown : S'.marked ≡ add S.marked x.target = ap (λ (Z : laws.Standing). Z.marked) step_mark in
          record {
            turned = λ f. turns.turning_next (T.turned f) more x (chosen f) refl w (led f);
            keyed = rw (same_bounds, same_nonzeros, grown) (keys_kept K x.target (omega (arith, W.p_least)) F);
          }
