-- `derivation::sheets::shown_of`: the same by the view of the bounds.
use Rattle.std.proofs.Common.{◌∙◌}
use Rattle.derivation.proofs.SheetViews.{shown_viewed}
use Rattle.derivation.proofs.sheets.shown_of.Goals as goal

pub returns-clause-fitting : goal.returns-clause-fitting
returns-clause-fitting c F long = c.show.ensures ∙ shown_viewed _ _ F long
