-- `rules::standing::Standing::exclude_zero`: the flag is a nonzero mark.
use Rattle.std.proofs.Common.{rules, ◌≡◌, ◌<◌, refl, length, arith}
use Rattle.laws.specs.Standing.{not_zero}
use Rattle.rules.specs.View.{view_of}
use Rattle.rules.proofs.ViewLaws.{view_nonzero}
use Rattle.rules.proofs.Outcomes.{told_flag}
use Rattle.rules.proofs.standing.Standing.exclude_zero.Goals as goal

pub returns : goal.returns
unfolding view_of
returns c p h =
    let self = c.args.self.now in
    let sized : length self.nonzeros ≡ 257 = search rules in
    let fits : c.args.t < length self.nonzeros = omega arith in
    told_flag (λ x. view_of p self.bounds self.marks x) not_zero c.args.t self.nonzeros c.args.met refl (view_nonzero p self.bounds self.marks self.nonzeros c.args.t fits) _ _ (c.set_flag.ensures fits)
