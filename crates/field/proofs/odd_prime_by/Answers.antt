-- The walk's start, its ways out, and its next place.
use mathlib.Core.Path.{sym}
use native.Mathlib.Omega.{arith}
use Rattle.field.proofs.Prime.{divided_not, odd_not_even}
use Rattle.field.proofs.Divisors.{walk_above, walk_ends, walk_next, walk_start}
use Rattle.field.proofs.odd_prime_by.Goals as goal

pub loop-i-init : goal.loop-i-init
loop-i-init c =
    let r = c.requires in
    walk_start _ _ _ c.if-p-lt3.false r.0 (odd_not_even _ c.if-p-eq0.false) r.1 r.2

pub returns-then-p-d : goal.returns-then-p-d
returns-then-p-d c = walk_ends c.loop-i.invariant (λ l. rw c.from-d.ensures at c.if-p-d.true)

pub returns-then-p-d-eq0 : goal.returns-then-p-d-eq0
returns-then-p-d-eq0 c =
    let above = walk_above c.loop-i.invariant c.loop-i-test.true in
    sym (divided_not _ _ (rw c.from-d.ensures above) c.if-p-d.false c.if-p-d-eq0.true)

pub loop-i-preserved : goal.loop-i-preserved
loop-i-preserved c =
    walk_next c.loop-i.invariant (rw c.from-d.ensures at c.if-p-d-eq0.false) c.run_end.ensures.1 (rw c.from-d.ensures at c.next_candidate-i.ensures.passed)

pub returns : goal.returns
returns c = walk_ends c.loop-i.invariant (λ l. absurd (omega arith))
