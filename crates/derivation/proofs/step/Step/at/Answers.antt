-- `derivation::step::Step::at`: the kind, then the fields.
use Rattle.std.proofs.Common.{◌∙◌, ap}
use Rattle.derivation.specs.Steps.{kind_of, step_start}
use Rattle.derivation.proofs.StepBytes as laws
use Rattle.derivation.proofs.step.Step.at.Goals as goal

pub returns-in_err-kind : goal.returns-in_err-kind
unfolding step_start
returns-in_err-kind c = rw (c.from_residual.ensures) (laws.step_unknown _ _ c.derivation_size-start.ensures (c.in_err-kind.ensures ∙ ap kind_of c.byte_at.ensures.0))

pub returns : goal.returns
unfolding step_start
returns c =
    laws.step_known _ _ c.derivation_size-start.ensures (c.in_ok-kind.ensures ∙ ap kind_of c.byte_at.ensures.0)
    c.u16_at.ensures.0 c.u16_at-2.ensures.0 c.u16_at-3.ensures.0
