-- `runs::evaluate::satisfied`: the remainders of the forms' values tell whether the constraint holds.
use Rattle.std.proofs.Common.{List, ℕ, ◌∙◌, ap}
use Rattle.circuit.specs.Circuit.{eval}
use Rattle.circuit.specs.Reader.{form_in}
use Rattle.circuit.specs.Run.{values_in}
use Rattle.circuit.proofs.RunLaws.{holds_not}
use Rattle.runs.proofs.EvalLaws as laws
use Rattle.runs.proofs.evaluate.satisfied.Goals as goal

pub returns-then-p-eq0 : goal.returns-then-p-eq0
returns-then-p-eq0 c = holds_not _ _ _ c.if-p-eq0.true

pub returns : goal.returns
returns c =
    let first = c.eval_form.ensures ∙ ap (λ (s : List ℕ). eval (form_in s) (values_in c.args.values.now)) c.of.ensures.0 in
    rw c.from-p.ensures
    (laws.holds_whole c.args.p c.args.part.now _ c.if-p-eq0.false _ _ _ _ _ c.of.ensures.1 c.of.ensures.2 first c.eval_form-2.ensures c.eval_form-3.ensures)
