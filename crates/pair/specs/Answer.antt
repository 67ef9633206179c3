-- The enum of the pair call as an answer.
use Rattle.std.specs.Prelude.{ℕ}
use Rattle.circuit.specs.Answer.{Answer, refused, given}
use Rattle.pair.specs.declared.PairAnswer.{PairAnswer}
use Rattle.pair.specs.declared.PairAnswer.TheVariants.{Refused, Accepted}

abbrev pub paper_of : PairAnswer → Answer ℕ
paper_of (Refused number place) = refused number place
paper_of (Accepted q) = given q
