-- A sheet that isn't refused fits.
use Rattle.std.proofs.Common.{◌≡◌, ◌∙◌, arith}
use Rattle.std.proofs.lemmas.Grind.{common_steps}
use Rattle.circuit.specs.Answer.{given}
use Rattle.tags.specs.Sheet.{sheet_of, sheet_on}
use Rattle.circuit.proofs.FindLaws.{ask_nothing}
use Rattle.tags.proofs.SheetLaws.{sheet_fitting}
use Rattle.tags.proofs.sheet.check_sheet.Goals as goal

pub returns-in-None-clause-fitting : goal.returns-in-None-clause-fitting
unfolding sheet_on sheet_of
returns-in-None-clause-fitting c T e =
    let whole : sheet_on c.args.sizes c.args.sheet.now ≡ given (sheet_of c.args.sheet.now) = grind (arith, common_steps, ask_nothing) in
    sheet_fitting c.args.sizes c.args.sheet.now T (whole ∙ e)
