-- TAGGED: a circuit with a sheet as a problem is sensible, and the allowed runs obey it. So derivations of met steps, idle or not,
-- are sound over them, and in nonzero marks over all that satisfy.
use Prim.Native.Nat.{ℕ, zero, suc, ◌-◌, ◌≤◌, ◌<◌, min}
use mathlib.Core.Path.{◌≡◌, refl}
use mathlib.Core.Bool.{Bool, true, false, cond}
use mathlib.Core.List.{List}
use native.Mathlib.Omega.{arith}
use borrow.Author.Tests.{leb-true}
use lib.Dec.{leb, eqb}
use Rattle.circuit.specs.Circuit.{Circuit, Satisfying, WellFormed, value_of}
use Rattle.laws.specs.Problem as laws
use Rattle.laws.specs.Problem.{Sensible}
use Rattle.laws.specs.Standing.{is_input, start}
use Rattle.laws.specs.Step.{Step, formerly, replay}
use Rattle.laws.specs.Sound.{Sound}
use Rattle.laws.proofs.Sound.{sound, start_sound}
use Rattle.laws.proofs.Sum.{and_right}
use Rattle.tags.specs.Tag.{Tag, limit, Sheet, least_of, lowered, first_bound, tagged, Allowed}
use Rattle.tags.proofs.TagLaws.{obeys_exactly, least_above}

-- lowering lowers
pub least_below : (tag : ℕ → Tag) (s x k : ℕ) → least_of tag s x k ≤ x
unfolding least_of
least_below tag s x zero = omega arith
least_below tag s x (suc k) = go (eqb (tag (suc k)).signal s) (least_below tag s x k)
  where
    go : (b : Bool) → least_of tag s x k ≤ x → cond b (min (least_of tag s x k) (limit (tag (suc k)))) (least_of tag s x k) ≤ x
    go true h = omega arith
    go false h = h

-- no first bound is above p - 1
pub first_most : (p i : ℕ) (T : Sheet) (s : ℕ) → first_bound p i T s ≤ p - 1
unfolding first_bound lowered
first_most p i T s = go (is_input i s)
  where
    go : (b : Bool) → cond b (least_of T.tag s (p - 1) T.count) (p - 1) ≤ p - 1
    go true = least_below T.tag s (p - 1) T.count
    go false = omega arith

module _ {C : Circuit} (W : WellFormed C) (T : Sheet) where
  sensible : Sensible (tagged C T)
  sensible = record { prime = W.prime; each = W.each }

  -- the value of an input is within the limits of its tags
  input_low : (run : List ℕ) → Allowed C T run → (s : ℕ) → 1 ≤ s → s ≤ C.i → value_of run s ≤ C.p - 1
      → value_of run s ≤ least_of T.tag s (C.p - 1) T.count
  input_low run a s l m h =
      least_above T.tag s (C.p - 1) (value_of run s) T.count h
      (λ j first last e. (obeys_exactly (T.tag j) (value_of run s)).0 (rw e at (a.obeys j first last (rw e l) (rw e m))))

  solves : (run : List ℕ) → Satisfying C run → laws.Solves (tagged C T) run
  solves run s = record { below = s.is_run.below; holds = s.holds }

  obeys : (run : List ℕ) → Allowed C T run → laws.Obeys (tagged C T) (Satisfying C) run
  unfolding first_bound lowered is_input
  obeys run a =
      record {
        satisfies = a.satisfies;
        within_first = λ s l m. go s l (a.satisfies.is_run.below s l m) (is_input C.i s) refl;
      }
    where
      go : (s : ℕ) → 1 ≤ s → value_of run s < C.p → (b : Bool) → is_input C.i s ≡ b
          → value_of run s ≤ cond b (least_of T.tag s (C.p - 1) T.count) (C.p - 1)
      go s l h true e = input_low run a s l (leb-true s C.i (and_right (leb 1 s) _ e)) (omega arith)
      go s l h false e = omega arith

  pub steps_sound : (xs : List Step) → formerly (tagged C T) (start (tagged C T)) xs ≡ true
      → Sound (tagged C T) (Satisfying C) (Allowed C T) (replay (tagged C T) (start (tagged C T)) xs)
  steps_sound xs e = sound sensible solves obeys (start (tagged C T)) (start_sound sensible solves obeys) xs e
