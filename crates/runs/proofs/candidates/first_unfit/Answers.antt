-- A value below p leads on, any other out.
use Rattle.std.proofs.Common.{rules, ◌∙◌}
use Rattle.runs.proofs.CountLaws.{unfit_none, unfit_some}
use Rattle.runs.proofs.candidates.first_unfit.Goals as goal

pub returns-in_err-index : goal.returns-in_err-index
returns-in_err-index c = c.from_residual.ensures ∙ unfit_none _ _ (λ k l. search rules)

pub returns : goal.returns
returns c = unfit_some _ _ _ (search rules) (search rules) (λ k l. search rules)
