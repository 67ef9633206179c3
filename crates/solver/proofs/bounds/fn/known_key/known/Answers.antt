use Rattle.solver.proofs.InTable.{prepared_in}
use Rattle.solver.proofs.KeySearch as laws
use Rattle.solver.proofs.bounds.fn.known_key.known.Goals as goal

pub returns : goal.returns
returns c l h low = laws.key_here (prepared_in c.captures.table.now) l h c.part.ensures c.row.ensures c.key_by.ensures low
