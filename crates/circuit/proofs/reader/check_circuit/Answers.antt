-- `circuit::reader::check_circuit`: what is given has the sizes of the circuit.
use mathlib.Core.Path.{sym, ◌∙◌}
use Rattle.circuit.proofs.Sized.{call_sized}
use Rattle.circuit.proofs.reader.check_circuit.Goals as goal

pub returns-clause-sized : goal.returns-clause-sized
returns-clause-sized c = λ z e. call_sized (sym c.read.ensures.answer ∙ sym c.from.ensures ∙ e)
