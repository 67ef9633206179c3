-- GREEDY, Knuth's form of Dijkstra's argument: a sum is at least each bound that occurs in it, so after the step with the smallest new
-- bound no step gives a smaller one. So each target is lowered at most once, n turns suffice, and then no step lowers a bound.
use Prim.Native.Nat.{ℕ, zero, suc, ◌*◌, ◌≤◌, ◌<◌}
use mathlib.Core.Path.{◌≡◌, refl, sym, ap}
use mathlib.Core.Bool.{Bool, true, false, not}
use mathlib.Core.Option.{some}
use native.Mathlib.Omega.{arith}
use native.Mathlib.Nat.{mul-le-mul_right}
use lib.Dec.{eqb}
use Rattle.circuit.specs.Circuit.{Constraint}
use Rattle.laws.specs.Problem.{Problem, Subject, subject}
use Rattle.laws.specs.Sum.{keep}
use Rattle.laws.specs.Standing.{Standing, add, none_of, lower, start, bounds, value}
use Rattle.laws.specs.Rules.{reduced, ceiling, sum_weight, sum_term, sum_bound}
use Rattle.laws.specs.Step.{names_of, Kind, Step, Rule, rule, rule_of, met, change, after}
use Rattle.laws.specs.Solver.{new_bound, lowers, best_bound, bound_steps, bounded}
use Rattle.laws.proofs.Sum.{true_or_false, false_by, by_equal, by_order, sum_mono, sum_at}
use Rattle.laws.proofs.Order.{add_all, bounds_is, lower_at, lower_other, after_adds}
use Rattle.laws.proofs.Monotone.{sum_met_from}
use Rattle.laws.proofs.Turns.{Turn, Phase, Ends, phase_ends}
use Rattle.laws.proofs.Best.{
  Lowering,
  Bounding,
  by_root,
  by_sum,
  lowers_kind,
  lowers_says,
  lowers_holds,
  lowers_adds,
  least_bound,
  best_none,
  best_some,
}

-- A sum that is below the bound at t doesn't depend on it.
module _ (p n : ℕ) (K : Constraint) (b b' : ℕ → ℕ) (t v : ℕ) (same : (s : ℕ) → (s ≡ t → ⊥) → b s ≡ b' s)
    (reached : v ≤ b' t) where
  ceiling_other : (s : ℕ) → (s ≡ t → ⊥) → ceiling b s ≡ ceiling b' s
  unfolding ceiling
  ceiling_other zero d = refl
  ceiling_other (suc s) d = same (suc s) d

  -- a term at t is 0 or at least v, but for the constant
  term_at_lem : (s w : ℕ) → s ≡ t → w * ceiling b' s < v → w * ceiling b s ≤ w * ceiling b' s
  unfolding ceiling
  term_at_lem zero w q l = omega arith
  term_at_lem (suc s) zero q l = omega arith
  term_at_lem (suc s) (suc w) q l =
      let one : 1 ≤ suc w = omega arith in
      absurd (omega (arith, mul-le-mul_right (b' (suc s)) one, ap (b') q))

  term_untouched : (u s : ℕ) → sum_term p (reduced p K) b' u s < v → sum_term p (reduced p K) b u s ≤ sum_term p (reduced p K) b' u s
  unfolding sum_term keep
  term_untouched u s = go (not (eqb s u)) (sum_weight p (reduced p K) u s)
    where
      go : (c : Bool) (w : ℕ) → keep c (w * ceiling b' s) < v → keep c (w * ceiling b s) ≤ keep c (w * ceiling b' s)
      go true w l = by_equal s t (λ q. term_at_lem s w q l) (λ d. rw (ceiling_other s d) (omega arith))
      go false w l = omega arith

  pub sum_untouched : (u : ℕ) → sum_bound p n (reduced p K) b' u < v → sum_bound p n (reduced p K) b u ≤ sum_bound p n (reduced p K) b' u
  unfolding sum_bound
  sum_untouched u l =
      sum_mono (suc n) _ _ (λ s k. term_untouched u s (omega (arith, sum_at (suc n) (sum_term p (reduced p K) b' u) s k)))

-- What holds of the kinds that give bounds: a bound below v that a rule gives doesn't depend on a bound that is at least v.

pub record Patient (v : ℕ) (r r' : Rule) : Type 0 where
  pub patient : r'.met ≡ true → bounds r'.change ≡ true → value r'.change < v
      → (r.met ≡ true) × (bounds r.change ≡ true) × (value r.change ≤ value r'.change)

pub waits : {q : Kind} → Bounding q → (J : Subject) (S S' : Standing) (t v : ℕ) → ((s : ℕ) → (s ≡ t → ⊥) → S.bound s ≡ S'.bound s)
    → v ≤ S'.bound t → (u r : ℕ) → Patient v (rule q J S u r) (rule q J S' u r)
waits by_root J S S' t v same reached u r = record { patient = λ e b l. (e, refl, omega arith) }
waits by_sum J S S' t v same reached u r =
    record {
      patient = λ e b l.
          let h = sum_untouched J.p J.n J.equation S.bound S'.bound t v same reached u l in
          (sum_met_from J.p J.n J.equation S'.bound S.bound u h e, refl, h);
    }

-- What a step gives

pub bounding_after : (P : Problem) (S : Standing) (x : Step) → bounds (change P S x) ≡ true → after P S x ≡ lower S x.target (new_bound P S x)
unfolding after new_bound
bounding_after P S x e = rw (bounds_is (change P S x) e)

-- a step that lowers a bound to less than v does so too where no bound is lower, and others than t's are equal
pub lowering_from : (P : Problem) (S S' : Standing) (t v : ℕ) → ((s : ℕ) → (s ≡ t → ⊥) → S.bound s ≡ S'.bound s) → v ≤ S'.bound t
    → (x : Step) → S'.bound x.target ≤ S.bound x.target → new_bound P S' x < v → Lowering P S' x
    → Lowering P S x × (new_bound P S x ≤ new_bound P S' x)
unfolding new_bound met change rule_of
lowering_from P S S' t v same reached x g h l =
    let J = subject (names_of x.kind) P x.constraint in
    let w = (waits (lowers_kind P S' x l) J S S' t v same reached x.target x.reference).patient l.meets l.is_bound h in
    (record { ranged = l.ranged; meets = w.0; is_bound = w.1; less = omega (arith, l.less, w.2) }, w.2)

-- The turns

-- targets that are done have a bound up to the level of the last turn; all that is still to come is at least that
pub record Reached (P : Problem) (done : ℕ → Bool) (S : Standing) : Type 0 where
  pub level : ℕ
  pub low : (s : ℕ) → done s ≡ true → S.bound s ≤ level
  pub high : (y : Step) → lowers P S y ≡ true → level ≤ new_bound P S y

pub reached_start : (P : Problem) (S : Standing) → Reached P none_of S
unfolding none_of
reached_start P S = record { level = 0; low = λ s e. true_or_false false e refl; high = λ y e. omega arith }

-- the turn of the step with the smallest new bound
module _ (P : Problem) (S : Standing) (x : Step) (l : Lowering P S x)
    (least : (y : Step) → lowers P S y ≡ true → new_bound P S x ≤ new_bound P S y) where
  turn_at : (after P S x).bound x.target ≡ new_bound P S x
  turn_at = rw (bounding_after P S x l.is_bound) (omega (arith, lower_at S x.target (new_bound P S x), l.less))

  turn_other : (s : ℕ) → (s ≡ x.target → ⊥) → S.bound s ≡ (after P S x).bound s
  turn_other s h = rw (bounding_after P S x l.is_bound) (sym (lower_other S x.target (new_bound P S x) s h))

  turn_high : (y : Step) → lowers P (after P S x) y ≡ true → new_bound P S x ≤ new_bound P (after P S x) y
  turn_high y e =
      by_order (new_bound P (after P S x) y) (new_bound P S x)
      (λ d.
      let reached : new_bound P S x ≤ (after P S x).bound x.target = omega (arith, turn_at) in
      let earlier =
      lowering_from P S (after P S x) x.target _ turn_other reached y ((after_adds P S x).bounds y.target) d
      (lowers_says P (after P S x) y e) in
      absurd (omega (arith, earlier.1, least y (lowers_holds P S y earlier.0))))
      (λ h. h)

  turn_reached : (done : ℕ → Bool) → Reached P done S → Reached P (add done x.target) (after P S x)
  turn_reached done r =
      record {
        level = new_bound P S x;
        low =
            add_all (λ (s : ℕ). (after P S x).bound s ≤ new_bound P S x) done x.target (omega (arith, turn_at))
            (λ s e. omega (arith, (after_adds P S x).bounds s, r.low s e, r.high x (lowers_holds P S x l)));
        high = turn_high;
      }

pub bound_phase : (P : Problem) → Phase P (best_bound P) (Reached P)
bound_phase P = record { turn = turn }
  where
    turn : (done : ℕ → Bool) (S : Standing) (x : Step) → Reached P done S → best_bound P S ≡ some x → Turn P (Reached P) done S x
    turn done S x r e =
        let b = best_some P S x e in
        let l = lowers_says P S x b.0 in
        record {
          is_new = lowers_adds P S x b.0;
          new = false_by _ (λ d. absurd (omega (arith, r.low x.target d, r.high x b.0, l.less)));
          holds = turn_reached P S x l (λ y m. least_bound P S x y (b.1 y m)) done r;
        }

pub bounds_end : (P : Problem) → Ends P (best_bound P) (Reached P) (start P) (bound_steps P)
unfolding bound_steps
bounds_end P = phase_ends (bound_phase P) (start P) (reached_start P (start P))

-- after them no step lowers a bound
pub nothing_lowers : (P : Problem) (x : Step) → lowers P (bounded P) x ≡ false
nothing_lowers P = best_none P _ (bounds_end P).none_left
