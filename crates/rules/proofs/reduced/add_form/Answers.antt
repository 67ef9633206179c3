use Rattle.rules.specs.Rows.{nothing, entry_at, coef_on, forms_on}
use Rattle.rules.proofs.ReducedForm as laws
use Rattle.rules.proofs.reduced.add_form.Goals as goal
use Rattle.rules.proofs.reduced.add_form.Goals.{then-signal-reduced, else-signal-reduced}

pub loop-i-init : goal.loop-i-init
loop-i-init c = laws.walk_start c.requires _ c.term_count-i-end.ensures.0

pub loop-i-preserved : goal.loop-i-preserved
unfolding coef_on forms_on entry_at nothing
loop-i-preserved c =
    let walk = c.loop-i.invariant in
    let more = c.loop-i-test.true in
    let known = c.term_at-term.ensures.0 in
    elim c.if-signal-reduced.branch [
      | then-signal-reduced w ↦
          rw (w.reduced-is)
          (laws.walk_at walk more _ known w.if-signal-reduced.true _ c.term_at-term.ensures.1 _ w.add_multiple-entry.ensures w.with_bit-entry.ensures)
      | else-signal-reduced w ↦ rw (w.reduced-is) (laws.walk_past walk more _ known w.if-signal-reduced.false)
    ]

pub returns : goal.returns
returns c = laws.walk_end c.loop-i.invariant c.loop-i-test.false
