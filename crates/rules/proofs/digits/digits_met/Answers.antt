-- `rules::digits::digits_met`: where the constraint is linear and target and reference occur, what is added up, then coefficients, then whether all stand out.
use Rattle.std.proofs.Common.{◌<◌, sym, ap, ◌∙◌, arith}
use Rattle.field.specs.Inverse as field
use Rattle.rules.proofs.AddedLaws as added
use Rattle.rules.proofs.RowDigits as laws
use Rattle.rules.proofs.digits.digits_met.Goals as goal
use Rattle.rules.proofs.digits.digits_met.Goals.{then-p-eq0-via-then-p-eq0, then-p-eq0-via-else-p-eq0+then-not-is_linear}

pub returns-then-from-added : goal.returns-then-from-added
returns-then-from-added c n P L t₁ tₙ r₁ rₙ =
    let coef = c.coef_of-coef.ensures _ _ _ (omega (arith, P.above)) L r₁ rₙ in
    laws.digits_by _ _ _ _ _ _ _ (sym c.is_linear.ensures ∙ c.if-not-is_linear.false)
    (λ e. c.if-coef_of-eq0.false (c.coef_of.ensures _ _ _ (omega (arith, P.above)) L t₁ tₙ ∙ e))
    (λ e. c.if-coef-eq0.false (coef ∙ e)) _
    (λ er.
    sym (laws.fails_total L P _ _ _ er _ (c.inverse-scale.ensures.algorithm ∙ ap (field.inverse _) coef)
    (added.adds_over _ _ _ c.add_up-added.ensures.taken (omega arith))))

pub returns-then-coefs_differ : goal.returns-then-coefs_differ
returns-then-coefs_differ c n P L t₁ tₙ r₁ rₙ =
    let coef = c.coef_of-coef.ensures _ _ _ (omega (arith, P.above)) L r₁ rₙ in
    let short : c.add_up-added.result.total < c.args.p = omega arith in
    laws.digits_by _ _ _ _ _ _ _ (sym c.is_linear.ensures ∙ c.if-not-is_linear.false)
    (λ e. c.if-coef_of-eq0.false (c.coef_of.ensures _ _ _ (omega (arith, P.above)) L t₁ tₙ ∙ e))
    (λ e. c.if-coef-eq0.false (coef ∙ e)) _
    (λ er.
    c.stand_out.ensures _ _ _ _ P L (c.coefs_differ.ensures.0 c.if-coefs_differ.true) (c.add_up-added.ensures.held short)
    (omega (arith, short, added.adds_below _ _ _ c.add_up-added.ensures.taken short)) (c.inverse-scale.ensures.algorithm ∙ ap (field.inverse _) coef) er)

pub returns-else-coefs_differ : goal.returns-else-coefs_differ
returns-else-coefs_differ c n P L t₁ tₙ r₁ rₙ =
    let coef = c.coef_of-coef.ensures _ _ _ (omega (arith, P.above)) L r₁ rₙ in
    laws.digits_by _ _ _ _ _ _ _ (sym c.is_linear.ensures ∙ c.if-not-is_linear.false)
    (λ e. c.if-coef_of-eq0.false (c.coef_of.ensures _ _ _ (omega (arith, P.above)) L t₁ tₙ ∙ e))
    (λ e. c.if-coef-eq0.false (coef ∙ e)) _
    (λ er.
    c.if-coefs_differ.false
    ∙ sym (laws.fails_alike L P _ _ _ er _ (c.inverse-scale.ensures.algorithm ∙ ap (field.inverse _) coef) (c.coefs_differ.ensures.1 c.if-coefs_differ.false)))

pub stand_out-requires : goal.stand_out-requires
stand_out-requires c =
    (omega arith, added.kept_total _ _ _ _ _ _ c.add_up-added.ensures.taken _ c.add_up-added.ensures.held (omega arith))

pub returns-then-p-eq0 : goal.returns-then-p-eq0
returns-then-p-eq0 c n P L t₁ tₙ r₁ rₙ =
    elim c.then-p-eq0.branch [
      | then-p-eq0-via-then-p-eq0 w ↦ absurd (omega (arith, P.above, w.if-p-eq0.true))
      | then-p-eq0-via-else-p-eq0+then-not-is_linear w ↦
          laws.digits_crooked _ _ _ _ _ _ _ (sym w.is_linear.ensures ∙ w.if-not-is_linear.true)
    ]

pub returns-then-coef_of-eq0 : goal.returns-then-coef_of-eq0
returns-then-coef_of-eq0 c n P L t₁ tₙ r₁ rₙ =
    laws.digits_targetless _ _ _ _ _ _ _ (sym (c.coef_of.ensures _ _ _ (omega (arith, P.above)) L t₁ tₙ) ∙ c.if-coef_of-eq0.true)

pub returns-then-coef-eq0 : goal.returns-then-coef-eq0
returns-then-coef-eq0 c n P L t₁ tₙ r₁ rₙ =
    laws.digits_unreferred _ _ _ _ _ _ _ (sym (c.coef_of-coef.ensures _ _ _ (omega (arith, P.above)) L r₁ rₙ) ∙ c.if-coef-eq0.true)
