-- `solver::table::Table::take`: the step's fields, and where it leads.
use Rattle.std.proofs.Common.{arith}
use Rattle.rules.specs.View.{view_of}
use Rattle.solver.specs.Table.{sizes_in}
use Rattle.solver.proofs.InTable.{sized_in, prepared_in}
use Rattle.solver.proofs.Adding.{fields}
use Rattle.solver.proofs.Progress.{step_taken}
use Rattle.solver.proofs.table.Table.take.Goals as goal

pub overflow_cast-target : goal.overflow_cast-target
overflow_cast-target c = record { fits = omega (arith, (fields (sized_in c.args.self.now).formed _ _ c.requires.0).target) }

pub overflow_cast-constraint : goal.overflow_cast-constraint
overflow_cast-constraint c = record { fits = omega (arith, (fields (sized_in c.args.self.now).formed _ _ c.requires.0).constraint) }

pub returns-clause-taken : goal.returns-clause-taken
unfolding view_of
returns-clause-taken c f =
    step_taken (prepared_in c.args.self.now) _ c.part_named-part.ensures c.row-row.ensures _ f (c.requires.0 f) _ (rw c.from.ensures at (c.step-outcome.ensures (sizes_in c.args.self.now).n))
