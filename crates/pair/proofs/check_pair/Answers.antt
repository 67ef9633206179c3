-- EXACT holds of the call's answer.
use mathlib.Core.Path.{◌∙◌}
use Rattle.pair.proofs.Exact.{exact}
use Rattle.pair.proofs.check_pair.Goals as goal

pub returns-clause-exact : goal.returns-clause-exact
returns-clause-exact c = rw (c.from.ensures ∙ c.judged.ensures) (exact _ _ _)
