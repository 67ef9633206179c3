-- `runs::candidates::advance`: from the last signal down, a digit rises or becomes 0.
use Rattle.std.proofs.Common.{arith}
use Rattle.runs.proofs.CountLaws as laws
use Rattle.runs.proofs.candidates.advance.Goals as goal

pub loop-s-init : goal.loop-s-init
loop-s-init c = laws.count_start _ _ _ _

pub returns-then-value-p-clause-rose : goal.returns-then-value-p-clause-rose
returns-then-value-p-clause-rose c =
    laws.count_risen c.loop-s.values c.loop-s.invariant (omega arith) c.loop-s-test.true c.if-s-h.true c.if-value-p.true

pub overflow_add-value : goal.overflow_add-value
overflow_add-value c =
    omega (arith, laws.count_low c.loop-s.values c.loop-s.invariant (omega arith) c.loop-s-test.true c.requires.1)

pub loop-s-preserved : goal.loop-s-preserved
loop-s-preserved c =
    laws.count_again c.loop-s.values c.loop-s.invariant (omega arith) c.loop-s-test.true c.else-s-h.either

pub returns-clause-rose : goal.returns-clause-rose
returns-clause-rose c = laws.count_end c.loop-s.invariant c.loop-s-test.false
