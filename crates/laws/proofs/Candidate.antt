-- A constraint has at most one step that lowers a bound, from any bounds: a root, or a sum at the strict maximum.
use Prim.Native.Nat.{ℕ, ◌≤◌, ◌<◌}
use mathlib.Core.Path.{◌≡◌, refl}
use mathlib.Core.Bool.{true, ◌&&◌}
use native.Mathlib.Omega.{arith}
use lib.Dec.{eqb}
use borrow.Author.Tests.{eqb-true}
use Rattle.field.specs.Prime.{Prime}
use Rattle.circuit.specs.Circuit.{Form, Constraint, names}
use Rattle.laws.specs.Problem.{Subject}
use Rattle.laws.specs.Standing.{Standing, value}
use Rattle.laws.specs.Rules.{names_none, linear, is_zero, names_only, root_met}
use Rattle.laws.specs.Step.{Kind, rule}
use Rattle.laws.proofs.Sum.{and_left, and_right, or_cases}
use Rattle.laws.proofs.Forms.{none_at, only_at}
use Rattle.laws.proofs.SumRule.{sum_met_lem}
use Rattle.laws.proofs.Best.{Bounding, by_root, by_sum}
use Rattle.laws.proofs.Maximum.{one_target}

-- the rule is met and lowers the bound of t
pub record Gains (q : Kind) (J : Subject) (S : Standing) (t : ℕ) : Type 0 where
  pub meets : (rule q J S t 0).met ≡ true
  pub less : value (rule q J S t 0).change < S.bound t

root_names : (K : Constraint) (t : ℕ) → root_met K t ≡ true
    → ((names K.a t && names_only t K.a) ≡ true) × ((names K.b t && names_only t K.b) ≡ true)
unfolding root_met
root_names K t e = (and_right (is_zero K.c) _ (and_left _ _ e), and_right (is_zero K.c && (names K.a t && names_only t K.a)) _ e)

names_none_lem : (f : Form) (t : ℕ) → 1 ≤ t → names f t ≡ true → names_none f ≡ true → ⊥
names_none_lem f t l n e = absurd (omega (arith, none_at f e t n))

-- a root's constraint isn't linear
root_linear : (K : Constraint) (t : ℕ) → 1 ≤ t → root_met K t ≡ true → linear K ≡ true → ⊥
unfolding linear
root_linear K t l e i =
    let n = root_names K t e in
    or_cases (names_none K.a) (names_none K.b) i (names_none_lem K.a t l (and_left _ _ n.0)) (names_none_lem K.b t l (and_left _ _ n.1))

pub one_candidate : (J : Subject) (S : Standing) → Prime J.p → {q q' : Kind} (t u : ℕ) → Bounding q → Bounding q'
    → 1 ≤ t → t ≤ J.n → 1 ≤ u → u ≤ J.n → Gains q J S t → Gains q' J S u → (q ≡ q') × (t ≡ u)
one_candidate J S P t u by_root by_root lt mt lu mu g h =
    let n = (root_names J.equation t g.meets).0 in
    let m = (root_names J.equation u h.meets).0 in (
      refl,
      or_cases (eqb t 0) (eqb t u) (only_at u J.equation.a (and_right (names J.equation.a u) _ m) t (and_left _ _ n))
          (λ i. absurd (omega (arith, eqb-true t 0 i))) (λ i. eqb-true t u i),
    )
one_candidate J S P t u by_root by_sum lt mt lu mu g h =
    absurd (root_linear J.equation t lt g.meets (sum_met_lem _ _ _ _ _ h.meets).is_linear)
one_candidate J S P t u by_sum by_root lt mt lu mu g h =
    absurd (root_linear J.equation u lu h.meets (sum_met_lem _ _ _ _ _ g.meets).is_linear)
one_candidate J S P t u by_sum by_sum lt mt lu mu g h = (
  refl,
  one_target P J.n J.equation S.bound t u lt mt lu mu (sum_met_lem _ _ _ _ _ g.meets).has_target
      (sum_met_lem _ _ _ _ _ h.meets).has_target g.less h.less,
)
