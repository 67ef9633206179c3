-- `circuit::reader::check_body`: a constraint leads out or on, and the end.
use Rattle.std.proofs.Common.{arith}
use Rattle.std.proofs.lemmas.Grind.{common_steps}
use Rattle.circuit.proofs.AnswerLaws.{err_is}
use Rattle.circuit.proofs.BodyLaws as laws
use Rattle.circuit.proofs.reader.check_body.Goals as goal

pub loop-init : goal.loop-init
loop-init c = laws.body_start _ _ c.requires

pub shifted-requires : goal.shifted-requires
shifted-requires c = omega (arith, laws.body_inside c.loop.invariant c.check_constraint.ensures)

pub returns-in_err-at : goal.returns-in_err-at
returns-in_err-at c =
    rw (err_is _ c.from_residual.ensures.1) (laws.body_fault c.loop.invariant c.check_constraint.ensures c.loop-test.true c.in_err-at.ensures)

pub loop-preserved : goal.loop-preserved
loop-preserved c =
    laws.body_again c.loop.invariant c.check_constraint.ensures c.loop-test.true c.in_ok-at.ensures c.after_constraint-rest.ensures

pub returns-then-at-s : goal.returns-then-at-s
returns-then-at-s c = let last = laws.body_last c.loop.invariant c.loop-test.false in grind (arith, last, common_steps)

pub returns : goal.returns
returns c = let last = laws.body_last c.loop.invariant c.loop-test.false in grind (arith, last, common_steps)
