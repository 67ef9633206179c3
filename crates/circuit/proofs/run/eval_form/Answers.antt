-- `circuit::run::eval_form`: the sum's start, a turn, and its end.
use mathlib.Core.Path.{◌∙◌}
use native.Mathlib.Omega.{arith}
use Rattle.circuit.proofs.RunLaws as laws
use Rattle.circuit.proofs.run.eval_form.Goals as goal

pub loop-i-init : goal.loop-i-init
loop-i-init c = (omega arith, laws.sum_start _ _ _ _ c.term_count-i-end.ensures.0 c.requires)

pub loop-i-preserved : goal.loop-i-preserved
loop-i-preserved c = (
  omega (arith, c.loop-i.invariant.0, c.from-sum.ensures, c.term_value.type_inv),
  laws.sum_again _ _ _ _ _ _ _ _ c.loop-i.invariant.1 c.loop-i-test.true (c.from-sum.ensures ∙ c.term_value.ensures.0),
)

pub returns : goal.returns
returns c = rw c.remainder.ensures.0 (laws.sum_end _ _ _ _ _ _ _ c.loop-i.invariant.1 (omega arith))
