-- `rules::standing::set_flag`: the flag is stored.
use Rattle.std.proofs.Common.{refl}
use Rattle.rules.proofs.ViewLaws.{mark_within}
use Rattle.rules.proofs.standing.set_flag.Goals as goal

pub returns-then-at-flags : goal.returns-then-at-flags
returns-then-at-flags c h = (c.if-not-met.false, mark_within _ _, refl)
