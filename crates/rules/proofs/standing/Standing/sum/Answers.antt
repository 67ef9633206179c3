-- `rules::standing::Standing::sum`: the sum rule gives a bound or not.
use Rattle.std.proofs.Common.{refl, arith}
use Rattle.rules.specs.View.{view_of}
use Rattle.rules.proofs.standing.Standing.sum.Goals as goal

pub returns : goal.returns
unfolding view_of
returns c n r A =
    c.lower-idle.ensures c.args.p _ _ (c.sum_step-total.ensures n A.prime (A.by_row refl refl) A.least A.most) (omega (arith, A.few, A.most))
