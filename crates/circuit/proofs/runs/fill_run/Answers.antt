-- `circuit::runs::fill_run`: one value more at each turn.
use Rattle.std.proofs.Common.{arith, ◌∙◌}
use lib.ListN.{length-set}
use Rattle.circuit.proofs.CopyLaws as laws
use Rattle.circuit.proofs.runs.fill_run.Goals as goal

pub loop-s-init : goal.loop-s-init
loop-s-init c = (omega arith, c.told-run, laws.fill_start _ _)

pub loop-s-preserved : goal.loop-s-preserved
loop-s-preserved c =
    let l = c.loop-s in (
      omega (arith, c.loop-s-test.true),
      length-set l.run l.s c.value_at.result ∙ l.invariant.1,
      laws.fill_again _ _ _ _ _ l.invariant.2 l.auto.s (omega (arith, l.invariant.1, c.loop-s-test.true, c.min-s-end.ensures)) c.value_at.ensures,
    )

pub returns-2 : goal.returns-2
returns-2 c =
    let l = c.loop-s in
    laws.fill_end _ _ _ _ _
    (laws.fill_again _ _ _ _ _ l.invariant.2 l.auto.s (omega (arith, l.invariant.1, c.loop-s-test.true, c.min-s-end.ensures)) c.value_at.ensures)
    (omega (arith, c.min-s-end.ensures))
