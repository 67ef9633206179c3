-- `derivation::step::Step::is_in_range`: the three fields by the table's entry of the kind.
use Rattle.derivation.specs.Inner.{step_in}
use Rattle.derivation.proofs.StepBytes.{ranges_are}
use Rattle.derivation.proofs.step.Step.is_in_range.Goals as goal

pub returns : goal.returns
returns c P e f =
    let E = c.entry_of-entry in
    ranges_are P (step_in c.args.self) _ _ E.result.names e f E.ensures.names E.ensures.refers
    (rw c.from.ensures at c.within-target.ensures)
    (rw c.from-2.ensures at c.field_within-constraint.ensures)
    (rw c.from-3.ensures at c.field_within-reference.ensures)
