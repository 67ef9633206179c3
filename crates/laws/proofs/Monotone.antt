-- MONOTONE: a step that is met at a standing is met at every standing with at least its bounds and marks of both sorts, and gives at least as much
-- there.
use Prim.Native.Nat.{ℕ, zero, suc, ◌≤◌}
use mathlib.Core.Path.{◌≡◌, refl, ap}
use mathlib.Core.Bool.{Bool, true, false, not, ◌&&◌, ◌||◌}
use mathlib.Core.List.{[], ◌∷◌}
use native.Mathlib.Omega.{arith}
use native.Mathlib.Nat.{mul-le-mul_left}
use lib.Dec.{ltb, eqb}
use borrow.Author.Tests.{lt-ltb, eq-eqb, ltb-true, eqb-true}
use Rattle.circuit.specs.Circuit.{Form, Constraint, names}
use Rattle.laws.specs.Sum.{all, implies}
use Rattle.laws.specs.Rules.{
  reduced,
  linear,
  occurs,
  ceiling,
  sum_weight,
  sum_term,
  sum_bound,
  sum_met,
  zero_met,
  others_marked,
  product_met,
  weight,
  live,
  differs,
  smaller_term,
  smaller_sum,
  separate,
  live_term,
  digits_met,
  separated,
  divisor,
  divides,
  quotient_met,
}
use Rattle.laws.specs.Problem.{Problem, Subject, subject}
use Rattle.laws.specs.Standing.{Standing, Change, at_most, fixed, not_zero}
use Rattle.laws.specs.Step.{names_of, Kind, Step, Rule, rule, rule_of, met, change, after}
use Rattle.laws.specs.Sound.{AtLeast}
use Rattle.laws.proofs.Sum.{
  and_left,
  and_right,
  and_both,
  or_cases,
  or_left,
  or_right,
  true_or_false,
  implies_elim,
  implies_intro,
  keep_mono,
  all_at,
  all_from,
  sum_mono,
}
use Rattle.laws.proofs.Order.{Stronger, lower_bound, same_change, apply_mono}

-- Tests that follow from tests

same : (a : Bool) → a ≡ true → a ≡ true
same a e = e

and_mono : {a a' b b' : Bool} → (a ≡ true → a' ≡ true) → (b ≡ true → b' ≡ true) → (a && b) ≡ true → (a' && b') ≡ true
and_mono {a} {a'} {b} {b'} f g e = and_both a' b' (f (and_left a b e)) (g (and_right a b e))

or_mono : {a a' b b' : Bool} → (a ≡ true → a' ≡ true) → (b ≡ true → b' ≡ true) → (a || b) ≡ true → (a' || b') ≡ true
or_mono {a} {a'} {b} {b'} f g e = or_cases a b e (λ h. or_left a' b' (f h)) (λ h. or_right a' b' (g h))

not_mono : (a a' : Bool) → (a ≡ true → a' ≡ true) → not a' ≡ true → not a ≡ true
not_mono true a' f e = true_or_false (not a') e (ap not (f refl))
not_mono false a' f e = refl

implies_mono : {a a' b b' : Bool}
    → (a' ≡ true → a ≡ true) → (a ≡ true → b ≡ true → b' ≡ true) → implies a b ≡ true → implies a' b' ≡ true
implies_mono {a} {a'} {b} {b'} f g e = implies_intro a' b' (λ h. g (f h) (implies_elim a b e (f h)))

all_mono : (n : ℕ) {q r : ℕ → Bool} → ((s : ℕ) → q s ≡ true → r s ≡ true) → all n q ≡ true → all n r ≡ true
all_mono n {q} {r} h e = all_from n r (λ j l. h j (all_at n q e j l))

ltb_mono : (z : ℕ) {x y : ℕ} → y ≤ x → ltb x z ≡ true → ltb y z ≡ true
ltb_mono z {x} {y} h e = lt-ltb y z (omega (arith, ltb-true x z e))

pub sum_met_from : (p n : ℕ) (K : Constraint) (b b' : ℕ → ℕ) (t : ℕ)
    → sum_bound p n (reduced p K) b' t ≤ sum_bound p n (reduced p K) b t → sum_met p n K b t ≡ true → sum_met p n K b' t ≡ true
unfolding sum_met
sum_met_from p n K b b' t h = and_mono (same (linear K && occurs (reduced p K) t)) (ltb_mono p h)

-- lower bounds give a lower sum
module _ (b b' : ℕ → ℕ) (below : (s : ℕ) → b' s ≤ b s) where
  ceiling_mono : (s : ℕ) → ceiling b' s ≤ ceiling b s
  unfolding ceiling
  ceiling_mono zero = omega arith
  ceiling_mono (suc s) = below (suc s)

  pub sum_bound_mono : (p n : ℕ) (K : Constraint) (t : ℕ) → sum_bound p n (reduced p K) b' t ≤ sum_bound p n (reduced p K) b t
  unfolding sum_bound sum_term
  sum_bound_mono p n K t =
      sum_mono (suc n) _ _
      (λ s l. keep_mono _ _ _ _ (same (not (eqb s t))) (λ e. mul-le-mul_left (sum_weight p (reduced p K) t s) (ceiling_mono s)))

  zero_met_mono : (t : ℕ) → zero_met b t ≡ true → zero_met b' t ≡ true
  unfolding zero_met
  zero_met_mono t e = eq-eqb (b' t) 0 (omega (arith, below t, eqb-true (b t) 0 e))

-- digits, where bounds are no higher and no more signals of the form are unmarked
module _ (p : ℕ) (K : Constraint) (b b' : ℕ → ℕ) (m m' : ℕ → Bool) (below : (s : ℕ) → b' s ≤ b s)
    (fewer : (s : ℕ) → live (reduced p K) m' s ≡ true → live (reduced p K) m s ≡ true) where
  differs_mono : (r s u : ℕ) → differs p (reduced p K) m r s u ≡ true → differs p (reduced p K) m' r s u ≡ true
  unfolding differs
  differs_mono r s u = implies_mono (and_mono (fewer u) (same (not (eqb s u)))) (λ e h. h)

  live_term_mono : (r u : ℕ) → live_term p (reduced p K) b' m' r u ≤ live_term p (reduced p K) b m r u
  unfolding live_term
  live_term_mono r u = keep_mono _ _ _ _ (fewer u) (λ e. mul-le-mul_left (weight p (reduced p K) r u) (below u))

  smaller_sum_mono : (n r w : ℕ) → smaller_sum p n (reduced p K) b' m' r w ≤ smaller_sum p n (reduced p K) b m r w
  unfolding smaller_sum smaller_term
  smaller_sum_mono n r w =
      sum_mono (suc n) _ _
      (λ u l.
      keep_mono _ _ _ _ (and_mono (fewer u) (same (ltb (weight p (reduced p K) r u) w)))
      (λ e. mul-le-mul_left (weight p (reduced p K) r u) (below u)))

  separate_mono : (n r s : ℕ) → separate p n (reduced p K) b m r s ≡ true → separate p n (reduced p K) b' m' r s ≡ true
  unfolding separate
  separate_mono n r s =
      implies_mono (fewer s)
      (λ l.
      and_mono (all_mono (suc n) (differs_mono r s)) (ltb_mono (weight p (reduced p K) r s) (smaller_sum_mono n r (weight p (reduced p K) r s))))

  pub separated_from : (n r : ℕ) → separated p n (reduced p K) b m r ≡ true → separated p n (reduced p K) b' m' r ≡ true
  unfolding separated
  separated_from n r =
      and_mono (all_mono (suc n) (separate_mono n r)) (ltb_mono p (sum_mono (suc n) _ _ (λ u l. live_term_mono r u)))

  pub digits_met_from : (n t r : ℕ) → digits_met p n K b m t r ≡ true → digits_met p n K b' m' t r ≡ true
  unfolding digits_met
  digits_met_from n t r =
      and_mono (same (linear K && (occurs (reduced p K) t && occurs (reduced p K) r))) (separated_from n r)

module _ {m m' : ℕ → Bool} (more : (s : ℕ) → m s ≡ true → m' s ≡ true) where
  others_marked_mono : (t : ℕ) (f : Form) → others_marked m t f ≡ true → others_marked m' t f ≡ true
  unfolding others_marked
  others_marked_mono t [] = λ e. refl
  others_marked_mono t (x ∷ f) = and_mono (or_mono (same (eqb x.signal 0 || eqb x.signal t)) (more x.signal)) (others_marked_mono t f)

  all_marked_mono : (K : Constraint) (t : ℕ) → (others_marked m t K.a && others_marked m t K.b && others_marked m t K.c) ≡ true
      → (others_marked m' t K.a && others_marked m' t K.b && others_marked m' t K.c) ≡ true
  all_marked_mono K t = and_mono (and_mono (others_marked_mono t K.a) (others_marked_mono t K.b)) (others_marked_mono t K.c)

  product_met_mono : (K : Constraint) (t : ℕ) → product_met K m t ≡ true → product_met K m' t ≡ true
  unfolding product_met
  product_met_mono K t =
      and_mono
      (same (not (linear K) && (names K.c t && not (names K.a t) && not (names K.b t))))
      (all_marked_mono K t)

  live_mono : (p : ℕ) (K : Constraint) (s : ℕ) → live (reduced p K) m' s ≡ true → live (reduced p K) m s ≡ true
  unfolding live
  live_mono p K zero = λ e. e
  live_mono p K (suc s) =
      and_mono (same (occurs (reduced p K) (suc s))) (not_mono (m (suc s)) (m' (suc s)) (more (suc s)))

module _ {m m' z z' : ℕ → Bool} (more : (s : ℕ) → m s ≡ true → m' s ≡ true) (others : (s : ℕ) → z s ≡ true → z' s ≡ true) where
  divisor_mono : (t r : ℕ) → divisor m z t r ≡ true → divisor m' z' t r ≡ true
  unfolding divisor
  divisor_mono t r = and_mono (and_mono (more r) (others r)) (same (not (eqb r t)))

  quotient_met_mono : (K : Constraint) (t r : ℕ) → quotient_met K m z t r ≡ true → quotient_met K m' z' t r ≡ true
  unfolding quotient_met
  quotient_met_mono K t r =
      and_mono (and_mono (divisor_mono t r) (same (divides K.a K.b t r && not (names K.c t)))) (all_marked_mono more K t)

-- what each kind gives
pub data Sorted : Kind → Change → Type 0 where
  root : {x : ℕ} → Sorted Kind.Root (at_most x)
  sum : {x : ℕ} → Sorted Kind.Sum (at_most x)
  marker : {q : Kind} → Sorted q fixed
  excluder : Sorted Kind.Nonzero not_zero

-- what holds of every kind
pub record Grows (q : Kind) (r r' : Rule) : Type 0 where
  pub still_met : r.met ≡ true → r'.met ≡ true
  pub stronger : Stronger r.change r'.change
  pub sort : Sorted q r.change

marker_grows : {q : Kind} {a a' : Bool} → (a ≡ true → a' ≡ true) → Grows q (record { met = a; change = fixed }) (record { met = a'; change = fixed })
marker_grows h = record { still_met = h; stronger = same_change; sort = marker }

pub grows : (q : Kind) (J : Subject) {S S' : Standing} → AtLeast S S' → (t r : ℕ) → Grows q (rule q J S t r) (rule q J S' t r)
grows Kind.Root J g t r = record { still_met = λ e. e; stronger = same_change; sort = root }
grows Kind.Sum J g t r =
    let h = sum_bound_mono _ _ g.bounds J.p J.n J.equation t in
    record { still_met = sum_met_from J.p J.n J.equation _ _ t h; stronger = lower_bound h; sort = sum }
grows Kind.Zero J g t r = marker_grows (zero_met_mono _ _ g.bounds t)
grows Kind.Product J g t r = marker_grows (product_met_mono g.marks J.equation t)
grows Kind.Digits J g t r =
    marker_grows (digits_met_from J.p J.equation _ _ _ _ g.bounds (live_mono g.marks J.p J.equation) J.n t r)
grows Kind.Nonzero J g t r = record { still_met = λ e. e; stronger = same_change; sort = excluder }
grows Kind.Quotient J g t r = marker_grows (quotient_met_mono g.marks g.nonzeros J.equation t r)

module _ (P : Problem) {S S' : Standing} (g : AtLeast S S') (x : Step) where
  step_grows : Grows x.kind (rule_of P S x) (rule_of P S' x)
  unfolding rule_of
  step_grows = grows x.kind (subject (names_of x.kind) P x.constraint) g x.target x.reference

  pub met_mono : met P S x ≡ true → met P S' x ≡ true
  unfolding met
  met_mono = step_grows.still_met

  pub after_mono : AtLeast (after P S x) (after P S' x)
  unfolding after change
  after_mono = apply_mono x.target g step_grows.stronger
