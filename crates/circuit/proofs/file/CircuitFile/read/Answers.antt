-- `circuit::file::CircuitFile::read`: the header is refused, or the body decides.
use Rattle.std.proofs.Common.{sym}
use Rattle.circuit.proofs.AnswerLaws.{err_is}
use Rattle.circuit.proofs.HeaderLaws.{header_out, header_on, header_long}
use Rattle.circuit.proofs.file.CircuitFile.read.Goals as goal

pub returns-in_err-sizes-clause-answer : goal.returns-in_err-sizes-clause-answer
returns-in_err-sizes-clause-answer c =
    rw (err_is _ c.from_residual.ensures.1) (header_out _ c.in_err-sizes.ensures)

pub check_body-requires : goal.check_body-requires
check_body-requires c = header_long _ c.in_ok-sizes.ensures

pub returns-in_err-check_body-clause-answer : goal.returns-in_err-check_body-clause-answer
returns-in_err-check_body-clause-answer c =
    rw (err_is _ c.from_residual-in_err-check_body.ensures.1) (header_on _ c.in_ok-sizes.ensures c.in_err-check_body.ensures)

pub invariant_of-result : goal.invariant_of-result
invariant_of-result c = record { read = sym (header_on _ c.in_ok-sizes.ensures c.in_ok-check_body.ensures) }
