use Rattle.std.proofs.Common.{◌∙◌, sym}
use Rattle.rules.proofs.Walk as walk
use Rattle.rules.proofs.form.names_beside.Goals as goal

pub loop-i-init : goal.loop-i-init
loop-i-init c = walk.naming_start c.term_count-i-end.ensures.0

pub returns-then-not-other_marked : goal.returns-then-not-other_marked
returns-then-not-other_marked c =
    walk.naming_stop c.loop-i.invariant c.loop-i-test.true _ c.term_at-term.ensures.0
    (sym c.other_marked.ensures ∙ c.if-not-other_marked.true)

pub loop-i-preserved : goal.loop-i-preserved
loop-i-preserved c =
    rw (c.is_on-names.ensures)
    (walk.naming_on c.loop-i.invariant c.loop-i-test.true _ c.term_at-term.ensures.0
    (sym c.other_marked.ensures ∙ c.if-not-other_marked.false))

pub returns : goal.returns
returns c = walk.naming_end c.loop-i.invariant c.loop-i-test.false
