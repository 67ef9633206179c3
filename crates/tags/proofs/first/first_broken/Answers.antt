-- A value within the least limit on its input leads on, any other out.
use Rattle.std.proofs.Common.{rules, arith, sym, ◌∙◌}
use Rattle.circuit.specs.Run.{values_in}
use Rattle.circuit.proofs.FindLaws.{find_first}
use Rattle.tags.proofs.TagLaws.{kept_by}
use Rattle.tags.proofs.first.first_broken.Goals as goal

pub returns : goal.returns
unfolding values_in
returns c =
    rw (sym c.min.ensures)
    (find_first _ _ _
    (λ x q l m called. kept_by c.lower_inputs.ensures _ x l (omega arith) (omega (arith, c.type_inv.values x)) ∙ search rules)
    (λ x q l m called. (search rules, kept_by c.lower_inputs.ensures _ x l (omega arith) (omega (arith, c.type_inv.values x)) ∙ search rules))
    _ _ _ c.find.ensures.ran c.new.ensures.start c.new.ensures.end c.new.ensures.exhausted)
