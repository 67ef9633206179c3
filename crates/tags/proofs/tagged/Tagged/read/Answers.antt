-- The circuit is refused, or the sheet, or neither.
use Rattle.std.proofs.lemmas.Result.{err_from_is_err_and}
use Rattle.tags.proofs.SheetLaws.{circuit_out, sheet_answer}
use Rattle.tags.proofs.tagged.Tagged.read.Goals as goal

pub returns-in_err-file-clause-answer : goal.returns-in_err-file-clause-answer
returns-in_err-file-clause-answer c =
    let p = err_from_is_err_and c.from_residual.result c.from_residual.ensures.1 in
    rw (p.1, p.2) (circuit_out _ _ c.in_err-file.ensures.answer)

pub returns-in_err-check_sheet-clause-answer : goal.returns-in_err-check_sheet-clause-answer
returns-in_err-check_sheet-clause-answer c =
    let p = err_from_is_err_and c.from_residual-in_err-check_sheet.result c.from_residual-in_err-check_sheet.ensures.1 in
    rw (p.1, p.2) (sheet_answer _ _ c.in_ok-file.ensures.answer c.in_err-check_sheet.ensures.answer)

pub returns-clause-answer : goal.returns-clause-answer
returns-clause-answer c = sheet_answer _ _ c.in_ok-file.ensures.answer c.in_ok-check_sheet.ensures.answer
