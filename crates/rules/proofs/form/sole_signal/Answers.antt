-- `rules::form::sole_signal`: each term that is kept, by the walk.
use Rattle.std.proofs.Common.{◌∙◌, sym, ap, arith}
use Rattle.rules.specs.Steps.{sole, sole_after}
use Rattle.rules.proofs.Walk as walk
use Rattle.rules.proofs.form.sole_signal.Goals as goal

pub loop-i-init : goal.loop-i-init
unfolding sole
loop-i-init c = (ap (sole_after _) (walk.left_start _ _ c.term_count-i-end.ensures.0), tt)

pub loop-i-preserved-then-term-gt-SIGNALS_MOST : goal.loop-i-preserved-then-term-gt-SIGNALS_MOST
loop-i-preserved-then-term-gt-SIGNALS_MOST c = (
  c.loop-i.invariant.0
      ∙ walk.sole_passed _ _ _ c.loop-i-test.true _ c.term_at-term.ensures.0 c.loop-i.found (omega (arith, c.if-term-gt-SIGNALS_MOST.true)),
  c.loop-i.invariant.1,
)

pub returns-then-is_some-clause-is : goal.returns-then-is_some-clause-is
returns-then-is_some-clause-is c =
    walk.sole_second _ _ _ c.loop-i-test.true _ c.term_at-term.ensures.0 c.loop-i.found (sym c.is_some.ensures ∙ c.if-is_some.true)
    c.if-term-gt-SIGNALS_MOST.false
    ∙ sym c.loop-i.invariant.0

pub loop-i-preserved : goal.loop-i-preserved
loop-i-preserved c = (
  c.loop-i.invariant.0
      ∙ walk.sole_first _ _ _ c.loop-i-test.true _ c.term_at-term.ensures.0 c.loop-i.found (sym c.is_some.ensures ∙ c.if-is_some.false)
      c.if-term-gt-SIGNALS_MOST.false,
  c.if-term-gt-SIGNALS_MOST.false,
)

pub returns-clause-is : goal.returns-clause-is
returns-clause-is c = sym (c.loop-i.invariant.0 ∙ ap (sole_after _) (walk.left_end _ _ _ c.loop-i-test.false))
