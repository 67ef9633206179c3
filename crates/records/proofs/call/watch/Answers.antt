-- `records::call::watch`: WATCHED and ACCEPTED hold of the call's answer.
use Rattle.std.proofs.Common.{◌∙◌}
use Rattle.records.proofs.Watched.{watches}
use Rattle.records.proofs.Accepted.{accepted}
use Rattle.records.proofs.call.watch.Goals as goal

pub returns-clause-first : goal.returns-clause-first
returns-clause-first c = rw (c.from.ensures ∙ c.watched.ensures.0) (watches _ _ _ _)

pub returns-clause-accepted : goal.returns-clause-accepted
returns-clause-accepted c = rw (c.from.ensures ∙ c.watched.ensures.0, c.watched.ensures.1) (accepted _ _ _ _)
