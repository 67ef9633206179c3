use Rattle.std.proofs.Common.{refl}
use Rattle.rules.proofs.Walk as walk
use Rattle.rules.proofs.form.coefficients.Goals as goal

pub loop-i-init : goal.loop-i-init
loop-i-init c =
    let count = c.term_count-i-end.ensures in
    (walk.adding_start count.0 count.1, walk.adding_start count.0 count.1)

pub loop-i-preserved : goal.loop-i-preserved
loop-i-preserved c =
    let walks = c.loop-i.invariant in
    let more = c.loop-i-test.true in
    let signal = c.term_at-term.ensures.0 in
    let x = c.term_at-term.ensures.1 in (
      walk.adding_on walks.0 more _ signal _ _ x c.term_on-constant.ensures.0 c.term_on-constant.ensures.1,
      walk.adding_on walks.1 more _ signal _ _ x c.term_on-coef.ensures.0 c.term_on-coef.ensures.1,
    )

pub returns : goal.returns
returns c =
    let walks = c.loop-i.invariant in
    let end = c.loop-i-test.false in
    rw (c.from-modulus.ensures, walk.adding_end walks.0 end, walk.adding_end walks.1 end) (refl, refl)
