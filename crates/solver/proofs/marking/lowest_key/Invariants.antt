-- Of the constraints passed the lowest step is exact; in a turn the references passed give no step, and nothing is changed.
use Rattle.std.proofs.Common.{◌≡◌}
use Rattle.rules.specs.View.{bound_in, mark_in}
use Rattle.solver.specs.Bounds.{least_of}
use Rattle.solver.specs.Table.{circuit_in}
use Rattle.solver.proofs.SweepLaws.{Sweeping, Searching}
use Rattle.solver.proofs.marking.lowest_key.Given as goal

abbrev pub invariant-constraints : goal.invariant-constraints
invariant-constraints l =
    Sweeping (circuit_in l.table) (bound_in l.table.constraints.now.file.sizes.p l.standing.bounds) (mark_in l.standing.marks) (mark_in l.standing.nonzeros) (least_of l.initial.lowest) l.passed l.lowest l.kept

abbrev pub invariant-loop-i : goal.invariant-loop-i
invariant-loop-i l =
    record {
      searching : Searching l.table.constraints.now.file.sizes.p l.row l.standing.bounds l.standing.marks l.few l.i;
      same_kept : l.kept ≡ l.initial.kept;
      same_lowest : l.lowest ≡ l.initial.lowest;
    }
