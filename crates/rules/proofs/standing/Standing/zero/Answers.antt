-- `rules::standing::Standing::zero`: the bound is 0 or not.
use Rattle.std.proofs.Common.{arith}
use Rattle.laws.specs.Rules.{zero_met}
use Rattle.rules.specs.View.{view_of}
use Rattle.rules.proofs.standing.Standing.zero.Goals as goal

pub returns : goal.returns
unfolding zero_met view_of
returns c n r part row A = rw c.bound_at-met.ensures at (c.mark-idle.ensures c.args.p (omega (arith, A.few, A.most)))
