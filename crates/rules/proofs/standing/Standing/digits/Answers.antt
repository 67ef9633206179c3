-- `rules::standing::Standing::digits`: the rule is met or not.
use Rattle.std.proofs.Common.{refl, arith}
use Rattle.rules.specs.View.{view_of}
use Rattle.rules.proofs.standing.Standing.digits.Goals as goal

pub returns : goal.returns
unfolding view_of
returns c n A =
    let met = c.digits_met-met.ensures n A.prime (A.by_row refl refl) A.least A.most (A.reference refl).0 (A.reference refl).1 in
    rw met at (c.mark-idle.ensures c.args.p (omega (arith, A.few, A.most)))
