use Rattle.rules.proofs.MakingLaws.{row_cut}
use Rattle.rules.proofs.rows.row_of.Goals as goal

pub returns : goal.returns
returns c = row_cut _ _ _ _ _ _ _ _ c.start_of.ensures.0 c.number_at.ensures.0 c.min-end.ensures c.min-start.ensures
