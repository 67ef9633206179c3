-- `records::recent::hash_of`: at each turn the hash is that of the values of the signals before s.
use Rattle.std.proofs.Common.{◌≡◌, ◌≤◌, ◌+◌, ◌-◌}
use Rattle.circuit.specs.Run.{values_in}
use Rattle.records.specs.Inner.{hash_of}
use Rattle.records.proofs.recent.hash_of.Given as goal

abbrev pub invariant-loop-s : goal.invariant-loop-s
invariant-loop-s l = (l.s ≤ l.inputs + 1) × (l.hash ≡ hash_of (values_in l.run) (l.s - 1))
