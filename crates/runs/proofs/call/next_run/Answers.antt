-- `runs::call::next_run`: what was found, as the enum of the call.
use Rattle.runs.proofs.CallLaws as laws
use Rattle.runs.proofs.call.next_run.Goals as goal

pub returns-clause-least : goal.returns-clause-least
returns-clause-least c = rw c.from.ensures (laws.next_says _ _ _ c.next_on.ensures.answered)
