-- `rules::standing::Standing::quotient`: the rule is met or not.
use Rattle.std.proofs.Common.{arith}
use Rattle.rules.specs.View.{view_of}
use Rattle.rules.proofs.standing.Standing.quotient.Goals as goal

pub returns : goal.returns
unfolding view_of
returns c p n row A = rw c.quotient_met-met.ensures at (c.mark-idle.ensures p (omega (arith, A.few, A.most)))
