-- What the algorithm found is the inverse.
use Rattle.field.proofs.Euclid.{running_found}
use Rattle.field.proofs.Inverse.{the_inverse}
use Rattle.field.proofs.modular.inverse.Goals as goal

pub returns-then-even-clause-meaning : goal.returns-then-even-clause-meaning
returns-then-even-clause-meaning c =
    the_inverse (rw c.if-even.true at (running_found c.loop-b-test.false c.if-b-eq0.false c.loop-b.invariant))

pub returns-else-even-clause-meaning : goal.returns-else-even-clause-meaning
returns-else-even-clause-meaning c =
    the_inverse (rw c.if-even.false at (running_found c.loop-b-test.false c.if-b-eq0.false c.loop-b.invariant))
