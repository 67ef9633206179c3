-- The ways out of the search for a constraint's key.
use Prim.Native.Nat.{ℕ, ◌≤◌, ◌<◌}
use mathlib.Core.Path.{◌≡◌}
use mathlib.Core.Bool.{true, false}
use native.Mathlib.Omega.{arith}
use lib.Dec.{eqb}
use borrow.Author.Tests.{eqb-true}
use Rattle.field.specs.Prime.{Prime}
use Rattle.circuit.specs.Circuit.{Form, Rises, Constraint, WellFormedConstraint, names}
use Rattle.laws.specs.Rules.{linear, reduced, root_met, root_bound}
use Rattle.laws.specs.Step.{Kind}
use Rattle.laws.proofs.Sum.{or_cases, true_or_false, by_order}
use Rattle.laws.proofs.Forms.{only_at, unnamed_beyond}
use Rattle.std.specs.Prelude.{None, Some}
use Rattle.laws.specs.Rules.{sum_bound}
use Rattle.laws.proofs.SumRule.{SumMet}
use Rattle.rules.specs.Steps.{OneSum}
use Rattle.rules.specs.declared.sums.Lowering.{Lowering}
use Rattle.solver.specs.Bounds.{key_of, no_key, LowersTo, IsKey}
use Rattle.solver.proofs.KeyLaws.{LowersBy, a_root, a_sum, lowers_by, lowers_root, lowers_sum, root_names, root_linear, no_key_lem, one_key}

-- a form names signals up to n
pub named_within : {n p : ℕ} {f : Form} → Rises n p 0 f → (t : ℕ) → names f t ≡ true → t ≤ n
named_within {n} r t e = by_order n t (λ h. true_or_false _ e (unnamed_beyond r t h)) (λ h. h)

module _ {p n : ℕ} {K : Constraint} (b : ℕ → ℕ) (P : Prime p) where
  -- Not linear: a root at a signal of A
  module _ (W : WellFormedConstraint n p K) (nonlinear : linear K ≡ false) where
    root_by : {q : Kind} {u x : ℕ} → LowersTo p n K b q u x → (root_met K u ≡ true) × (root_bound p K u < b u)
    root_by {q} {u} {x} L = go (lowers_by p n K b L)
      where
        go : {q : Kind} → LowersBy p n K b u x q → (root_met K u ≡ true) × (root_bound p K u < b u)
        go (a_root e g) = (e, omega (arith, L.less))
        go (a_sum M g) = true_or_false _ M.is_linear nonlinear

    pub root_unnamed : ((s : ℕ) → 1 ≤ s → names K.a s ≡ true → ⊥) → IsKey p n K b no_key
    root_unnamed missed =
        no_key_lem p n K b (λ q u x L. missed u L.least (root_names K u (root_by L).0).0)

    module _ {t : ℕ} (U : (1 ≤ t) × (names K.a t ≡ true)) where
      root_only : {q : Kind} {u x : ℕ} → LowersTo p n K b q u x → (root_met K t ≡ true) × (root_bound p K t < b t)
      root_only {q} {u} {x} L =
          let e = root_by L in
          let same : t ≡ u
          = or_cases (eqb t 0) (eqb t u) (only_at u K.a (root_names K u e.0).1 t U.1) (λ z. absurd (omega (arith, eqb-true t 0 z))) (λ z. eqb-true t u z) in
          rw same e

      pub root_unmet : root_met K t ≡ false → IsKey p n K b no_key
      root_unmet f = no_key_lem p n K b (λ q u x L. true_or_false _ (root_only L).0 f)

      pub root_high : b t ≤ root_bound p K t → IsKey p n K b no_key
      root_high h = no_key_lem p n K b (λ q u y L. omega (arith, (root_only L).1))

      pub root_found : root_met K t ≡ true → root_bound p K t < b t → IsKey p n K b (key_of (root_bound p K t) t 1)
      root_found e h = one_key p n K b P (lowers_root p n K b t U.0 (named_within W.rises_a t U.1) e h)

  -- Linear: the one sum that lowers a bound
  module _ (is_linear : linear K ≡ true) where
    sum_by : {q : Kind} {u y : ℕ} → LowersTo p n K b q u y → SumMet p n K b u × (sum_bound p n (reduced p K) b u < b u)
    sum_by {q} {u} {y} L = go (lowers_by p n K b L)
      where
        go : {q : Kind} → LowersBy p n K b u y q → SumMet p n K b u × (sum_bound p n (reduced p K) b u < b u)
        go (a_root e g) = absurd (root_linear K u L.least e is_linear)
        go (a_sum M g) = (M, omega (arith, L.less, g))

    pub sum_none : OneSum p n (reduced p K) b None → IsKey p n K b no_key
    sum_none O =
        no_key_lem p n K b (λ q u y L. let M = sum_by L in let e = O.only u L.least L.most M.0.has_target M.0.below M.1 in cc)

    pub sum_found : {low : Lowering} → OneSum p n (reduced p K) b (Some low) → IsKey p n K b (key_of low.bound low.target 2)
    sum_found {low} O =
        let H = O.held in
        rw (← H.is) (one_key p n K b P (lowers_sum p n K b low.target H.least H.most is_linear H.present (omega (arith, H.is, H.below)) (omega (arith, H.is, H.lower))))
