-- The nonzero rule is sound: where the target is 0, the one term on it is, so A · B is, and C is a constant from 1 to p - 1.
use Prim.Native.Nat.{ℕ, ◌*◌}
use mathlib.Core.Path.{◌≡◌, ap, ◌∙◌}
use mathlib.Core.Bool.{true}
use native.Mathlib.Omega.{arith}
use Rattle.field.specs.Prime.{Prime}
use Rattle.field.proofs.Residue.{congruent_below}
use Rattle.circuit.specs.Circuit.{Form, Constraint, Rises, WellFormedConstraint, Satisfies, eval}
use Rattle.laws.specs.Rules.{single, nonzero_met}
use Rattle.laws.proofs.Sum.{and_left, and_right, or_cases, none_times}
use Rattle.laws.proofs.Forms.{single_says}

single_zero : {n p t : ℕ} {f : Form} (v : ℕ → ℕ) → Rises n p 0 f → single t f ≡ true → v t ≡ 0 → eval f v ≡ 0
single_zero v r e z = let S = single_says r e in S.value v ∙ ap (λ (x : ℕ). S.factor * x) z ∙ omega arith

pub nonzero_sound : {n p : ℕ} {K : Constraint} (v : ℕ → ℕ) → Prime p → WellFormedConstraint n p K → v 0 ≡ 1 → Satisfies p K v
    → (t : ℕ) → nonzero_met K t ≡ true → v t ≡ 0 → ⊥
unfolding nonzero_met
nonzero_sound {K = K} v P W one sat t e z =
    let C = single_says W.rises_c (and_left (single 0 K.c) _ e) in
    let constant : eval K.c v ≡ C.factor = C.value v ∙ ap (λ (x : ℕ). C.factor * x) one ∙ omega arith in
    let product : eval K.a v * eval K.b v ≡ 0 =
    or_cases (single t K.a) (single t K.b) (and_right (single 0 K.c) _ e) (λ i. none_times _ (eval K.b v) (single_zero v W.rises_a i z))
    (λ i. omega (arith, none_times _ (eval K.a v) (single_zero v W.rises_b i z))) in
    let zero : 0 ≡ C.factor = congruent_below (omega (arith, P.above)) C.below (rw (product, constant) at sat) in
    omega (arith, zero, C.positive)
