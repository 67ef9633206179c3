-- `rules::standing::Standing::mark`: the flag is a mark.
use Rattle.std.proofs.Common.{rules, ◌≡◌, ◌<◌, refl, length, arith}
use Rattle.laws.specs.Standing.{fixed}
use Rattle.rules.specs.View.{view_of}
use Rattle.rules.proofs.ViewLaws.{view_mark}
use Rattle.rules.proofs.Outcomes.{told_flag}
use Rattle.rules.proofs.standing.Standing.mark.Goals as goal

pub returns : goal.returns
unfolding view_of
returns c p h =
    let self = c.args.self.now in
    let sized : length self.marks ≡ 257 = search rules in
    let fits : c.args.t < length self.marks = omega arith in
    told_flag (λ x. view_of p self.bounds x self.nonzeros) fixed c.args.t self.marks c.args.met refl (view_mark p self.bounds self.marks self.nonzeros c.args.t fits) _ _ (c.set_flag.ensures fits)
