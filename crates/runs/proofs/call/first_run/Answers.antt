-- `runs::call::first_run`: what was found, as the enum of the call.
use Rattle.runs.proofs.CallLaws as laws
use Rattle.runs.proofs.call.first_run.Goals as goal

pub returns-clause-least : goal.returns-clause-least
returns-clause-least c = rw c.from.ensures (laws.first_says _ _ c.first_on.ensures.answered)

pub returns-clause-listed : goal.returns-clause-listed
returns-clause-listed c = rw c.from.ensures (laws.first_lists _ _ c.first_on.ensures.answered)
