-- `circuit::reader::check_form`: at each turn the whole answer is what is still to be read.
use Rattle.circuit.proofs.ReaderLaws.{Terms}
use Rattle.circuit.proofs.reader.check_form.Given as goal

abbrev pub invariant-loop-i : goal.invariant-loop-i
invariant-loop-i l = Terms l.n l.p l.part l.count l.i l.least
