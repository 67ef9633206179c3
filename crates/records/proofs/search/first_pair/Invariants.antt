-- `records::search::first_pair`: no record before k makes a pair, and the array takes a run.
use Rattle.circuit.specs.Run.{values_in}
use Rattle.circuit.specs.Call.{circuit_of}
use Rattle.records.specs.Recorded.{recorded}
use Rattle.records.specs.Inner.{Searched, IsRunFor}
use Rattle.records.proofs.search.first_pair.Given as goal

abbrev pub invariant-loop-k : goal.invariant-loop-k
invariant-loop-k l =
    Searched (recorded (circuit_of l.records.file.bytes.now) l.records.bytes.now) l.window l.k l.recent
    × IsRunFor l.records.file.sizes.n (values_in l.run)
