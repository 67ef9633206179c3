use Rattle.circuit.specs.Reader.{constraint_in}
use Rattle.rules.proofs.MakingLaws.{Putting}
use Rattle.rules.proofs.rows.put_row.Given as goal

-- after so many turns the entries of the signals below are put, if there is room for all
abbrev pub invariant-loop-signal : goal.invariant-loop-signal
invariant-loop-signal l = Putting l.p l.n (constraint_in l.part) l.start l.initial.rows l.signal l.end l.rows
