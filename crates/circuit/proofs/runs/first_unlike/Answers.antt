-- A signal with the same value leads on, any other out.
use Rattle.std.proofs.Common.{rules}
use Rattle.circuit.specs.Runs.{agree}
use Rattle.circuit.proofs.FindLaws.{find_first}
use Rattle.circuit.proofs.runs.first_unlike.Goals as goal

pub returns : goal.returns
unfolding agree
returns c =
    find_first _ _ _ (λ x q l m called. search rules) (λ x q l m called. search rules)
    _ _ _ c.find.ensures.ran c.new.ensures.start c.new.ensures.end c.new.ensures.exhausted
