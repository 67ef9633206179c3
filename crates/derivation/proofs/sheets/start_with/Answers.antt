-- `derivation::sheets::start_with`: the start, then the bounds of the inputs.
use Rattle.std.proofs.Common.{rules}
use Rattle.derivation.proofs.SheetViews.{first_viewed}
use Rattle.derivation.proofs.sheets.start_with.Goals as goal

pub returns : goal.returns
returns c = first_viewed _ _ _ _ _ _ _ c.start-start.ensures (search rules) c.lower_inputs.ensures
