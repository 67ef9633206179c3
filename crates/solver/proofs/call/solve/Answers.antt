use Rattle.solver.proofs.SolveLaws.{demanded}
use Rattle.solver.proofs.call.solve.Goals as goal

pub returns-clause-demand : goal.returns-clause-demand
returns-clause-demand c = rw c.from.ensures (demanded c.solved.ensures)
