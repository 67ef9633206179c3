use Rattle.solver.proofs.InTable.{prepared_in}
use Rattle.solver.proofs.SweepLaws as laws
use Rattle.solver.proofs.marking.fn.look_at.known.Goals as goal

pub returns : goal.returns
returns c l h b = laws.known_here (prepared_in c.captures.table.now) l h c.row.ensures c.part.ensures c.low_step.ensures
