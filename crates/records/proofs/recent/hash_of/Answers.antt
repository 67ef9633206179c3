-- `records::recent::hash_of`: one value more at each turn.
use Rattle.std.proofs.Common.{arith, ◌∙◌}
use Rattle.records.proofs.HashLaws as laws
use Rattle.records.proofs.recent.hash_of.Goals as goal

pub loop-s-init : goal.loop-s-init
loop-s-init c = (omega arith, laws.hash_start _)

pub loop-s-preserved : goal.loop-s-preserved
loop-s-preserved c =
    let l = c.loop-s in
    (omega (arith, c.loop-s-test.true), laws.hash_more _ l.s _ _ l.auto.s l.invariant.1 (c.from.ensures ∙ c.value_of.ensures))

pub returns-2 : goal.returns-2
returns-2 c =
    let l = c.loop-s in
    laws.hash_end _ _ _ _ (laws.hash_next _ l.s _ _ l.auto.s l.invariant.1 (c.from.ensures ∙ c.value_of.ensures)) (omega arith)
