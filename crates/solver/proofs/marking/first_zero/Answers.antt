use Rattle.std.proofs.Common.{rules, ap, ◌≡◌, true, false}
use Rattle.std.specs.Prelude.{not}
use Rattle.circuit.proofs.FindLaws.{find_first}
use Rattle.rules.specs.View.{bound_in, mark_in}
use Rattle.solver.specs.Marks.{zero_at}
use Rattle.solver.proofs.MarkKeyLaws.{failing, first_is}
use Rattle.solver.proofs.marking.first_zero.Goals as goal

pub returns : goal.returns
unfolding failing
returns c =
    let zero = zero_at (bound_in c.args.sizes.p c.args.standing.now.bounds) (mark_in c.args.standing.now.marks) in
    first_is _ _
    (find_first (failing zero c.args.sizes.n) _ _
    (λ x q l m called. let is : zero x ≡ true = search rules in ap not is)
    (λ x q l m called. (search rules, let is : zero x ≡ false = search rules in ap not is))
    _ _ _ c.find.ensures.ran c.new.ensures.start c.new.ensures.end c.new.ensures.exhausted)
