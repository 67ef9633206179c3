-- The enum of the watching call as an answer.
use Rattle.std.specs.Prelude.{None, Some}
use Rattle.circuit.specs.Answer.{Answer, refused, given}
use Rattle.records.specs.declared.answer.WatchAnswer.{WatchAnswer}
use Rattle.records.specs.declared.answer.WatchAnswer.TheVariants.{Refused, Pair, NoPair}
use Rattle.records.specs.Call.{Found}

abbrev pub paper_of : WatchAnswer → Answer Found
paper_of (Refused number place) = refused number place
paper_of (Pair x) = given (Some x)
paper_of NoPair = given None
