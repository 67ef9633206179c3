-- `runs::evaluate::eval_form`: the sum's start, a turn, and its end.
use Rattle.std.proofs.Common.{◌∙◌, ◌*◌, ◌≤◌, ap, arith}
use Rattle.circuit.specs.Run.{values_in}
use Rattle.runs.proofs.EvalLaws as laws
use Rattle.runs.proofs.evaluate.eval_form.Goals as goal

pub loop-i-init : goal.loop-i-init
loop-i-init c = (omega arith, laws.whole_start _ _ c.requires _ c.term_count-i-end.ensures.0)

-- what is added at a turn
added : (c : goal.After-from-in-loop-i) → c.from.result * c.from-in-loop-i.result ≤ 281470681677825
added c =
    laws.product_most _ _ (omega (arith, c.from.ensures, c.term_in-term.type_inv))
    (omega (arith, c.from-in-loop-i.ensures, c.value_of.ensures, c.requires.below c.term_in-term.result.signal))

pub overflow_add-sum : goal.overflow_add-sum
overflow_add-sum c = omega (arith, added c, c.loop-i.invariant.0, c.loop-i-test.true, c.term_count-i-end.ensures.1)

pub loop-i-preserved : goal.loop-i-preserved
loop-i-preserved c = (
  omega (arith, added c, c.loop-i.invariant.0),
  laws.whole_again _ _ c.requires _ _ _ _ _ _ c.loop-i.invariant.1 c.loop-i-test.true (c.from.ensures ∙ c.term_in-term.ensures.1)
      (c.from-in-loop-i.ensures ∙ c.value_of.ensures ∙ ap (values_in c.args.values.now) c.term_in-term.ensures.0),
)

pub returns : goal.returns
returns c = laws.whole_end _ _ c.requires _ _ _ _ c.loop-i.invariant.1 (omega arith)
