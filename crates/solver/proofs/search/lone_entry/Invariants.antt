-- Of the entries passed all are marked, but one that one form alone names, if it was found.
use Rattle.std.proofs.Common.{◌+◌, length}
use Rattle.solver.proofs.LoneSearch.{Walked}
use Rattle.solver.proofs.search.lone_entry.Given as goal

abbrev pub invariant-loop-entry : goal.invariant-loop-entry
invariant-loop-entry l = Walked l.marks l.row (1 + length l.yielded) l.found
