-- `rules::standing::Standing::step`: each kind by its method.
use Rattle.rules.proofs.standing.Standing.step.Goals as goal

pub returns-in-Sum : goal.returns-in-Sum
returns-in-Sum c n A = let e = c.in-Sum.is in rw e (c.sum.ensures _ _ (rw e at A))

pub returns-in-Zero : goal.returns-in-Zero
returns-in-Zero c n A = let e = c.in-Zero.is in rw e (c.zero.ensures _ _ _ _ (rw e at A))

pub returns-in-Product : goal.returns-in-Product
returns-in-Product c n A = let e = c.in-Product.is in rw e (c.product.ensures _ _ _ _ (rw e at A))

pub returns-in-Nonzero : goal.returns-in-Nonzero
returns-in-Nonzero c n A = let e = c.in-Nonzero.is in rw e (c.nonzero.ensures _ _ _ _ (rw e at A))

pub returns-in-Quotient : goal.returns-in-Quotient
returns-in-Quotient c n A = let e = c.in-Quotient.is in rw e (c.quotient.ensures _ _ _ (rw e at A))
