-- An entry that fits leads on, any other out.
use Rattle.std.proofs.Common.{rules, sym}
use Rattle.circuit.proofs.FindLaws.{find_first}
use Rattle.tags.proofs.sheet.first_wrong.Goals as goal

pub returns : goal.returns
returns c =
    rw (sym c.count_of.ensures)
    (find_first _ _ _ (λ x q l m called. search rules) (λ x q l m called. search rules)
    _ _ _ c.find.ensures.ran c.new.ensures.start c.new.ensures.end c.new.ensures.exhausted)
