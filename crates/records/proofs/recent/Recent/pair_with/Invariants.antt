-- `records::recent::Recent::pair_with`: the walk has passed no record that makes a pair, and goes to earlier records.
use Rattle.circuit.specs.Call.{circuit_of}
use Rattle.records.specs.Recorded.{recorded}
use Rattle.records.proofs.WalkLaws.{Walk}
use Rattle.records.proofs.recent.Recent.pair_with.Given as goal

abbrev pub invariant-loop-at : goal.invariant-loop-at
invariant-loop-at l = Walk (recorded (circuit_of l.records.file.bytes.now) l.records.bytes.now) l.k l.at

abbrev pub decreases-loop-at : goal.decreases-loop-at
decreases-loop-at l = l.at
