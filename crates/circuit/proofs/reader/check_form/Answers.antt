-- `circuit::reader::check_form`: each test leads out or on.
use Rattle.std.proofs.Common.{sym, arith}
use Rattle.std.proofs.lemmas.Grind.{common_steps}
use Rattle.circuit.proofs.ReaderLaws as laws
use Rattle.circuit.proofs.reader.check_form.Goals as goal

pub returns-then-is_empty : goal.returns-then-is_empty
returns-then-is_empty c = let start = laws.form_start c.args.n c.args.p c.args.part.now in grind (arith, start, common_steps)

pub returns-then-count-gt-TERMS_MOST : goal.returns-then-count-gt-TERMS_MOST
returns-then-count-gt-TERMS_MOST c = let start = laws.form_start c.args.n c.args.p c.args.part.now in grind (arith, start, common_steps)

pub loop-i-init : goal.loop-i-init
loop-i-init c = laws.terms_start _ _ _ c.term_count-count.ensures.0 (grind (arith, common_steps)) c.if-count-gt-TERMS_MOST.false

pub returns-then-part-at : goal.returns-then-part-at
returns-then-part-at c = let turn = laws.term_turn c.loop-i.invariant c.loop-i-test.true in grind (arith, turn, common_steps)

pub returns-then-not-contains : goal.returns-then-not-contains
returns-then-not-contains c = let turn = laws.term_turn c.loop-i.invariant c.loop-i-test.true in grind (arith, turn, common_steps)

pub returns-then-not-contains-2 : goal.returns-then-not-contains-2
returns-then-not-contains-2 c =
    let turn = laws.term_turn c.loop-i.invariant c.loop-i-test.true in
    grind (arith, turn, common_steps)

pub loop-i-preserved : goal.loop-i-preserved
loop-i-preserved c =
    laws.term_again c.loop-i.invariant c.loop-i-test.true _ _ (grind (arith, common_steps)) c.term_at-term.ensures.0 (grind (arith, common_steps))
    (grind (arith, common_steps)) c.term_at-term.ensures.1 (grind (arith, common_steps)) (grind (arith, common_steps))

pub returns : goal.returns
returns c = rw c.form_size.ensures (sym (laws.terms_end c.loop-i.invariant c.loop-i-test.false c.loop-i.auto.i-end))
