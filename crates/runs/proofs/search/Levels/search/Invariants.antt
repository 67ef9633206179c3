-- `runs::search::Levels::search`: no solution was passed over, and with each step fewer candidates are left.
use Rattle.circuit.specs.Run.{values_in}
use Rattle.circuit.specs.Call.{circuit_of}
use Rattle.runs.specs.Inner.{level_at}
use Rattle.runs.proofs.SearchLaws.{Searching, left_from}
use Rattle.runs.proofs.search.Levels.search.Given as goal

abbrev pub invariant-loop-broken : goal.invariant-loop-broken
invariant-loop-broken l =
    let file = l.self.constraints.now.file in
    let level = level_at file.bytes.now l.self.constraints.now.offsets file.sizes.n in
    Searching (circuit_of file.bytes.now) level (values_in l.fn.values) (values_in l.values) l.broken

abbrev pub decreases-loop-broken : goal.decreases-loop-broken
decreases-loop-broken l = let sizes = l.self.constraints.now.file.sizes in left_from sizes.p sizes.n (values_in l.values)
