-- `circuit::reader::check_body`: at each turn `rest` starts at `at`, and the whole answer is what is still to be read.
use Rattle.circuit.proofs.BodyLaws.{Body}
use Rattle.circuit.proofs.reader.check_body.Given as goal

abbrev pub invariant-loop : goal.invariant-loop
invariant-loop l = Body l.s l.sizes l.rest l.counter l.at
