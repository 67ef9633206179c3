-- A tag that isn't missed leads on, any other out.
use Rattle.std.proofs.Common.{rules, arith, sym}
use Rattle.laws.specs.Sum.{implies}
use Rattle.tags.specs.Tag.{not_missed}
use Rattle.circuit.proofs.FindLaws.{find_first}
use Rattle.tags.proofs.shown.Showing.first_missed.Goals as goal

pub returns : goal.returns
unfolding not_missed implies
returns c =
    rw (sym c.count_of.ensures)
    (find_first _ _ _ (λ x q l m called. grind arith) (λ x q l m called. search rules)
    _ _ _ c.find.ensures.ran c.new.ensures.start c.new.ensures.end c.new.ensures.exhausted)
