use Rattle.rules.proofs.FormTests as tests
use Rattle.rules.proofs.constraint.root_of.Goals as goal

pub returns-then-p-lt2 : goal.returns-then-p-lt2
returns-then-p-lt2 c = tests.root_small _ _ _ c.if-p-lt2.true

pub returns : goal.returns
returns c =
    let found = c.coefficients-found.ensures in
    tests.root_made _ _ _ _ _ _ _ found.0 found.1 c.inverse.ensures.algorithm c.multiply_add.ensures.0
