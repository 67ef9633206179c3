-- The answers of the code as those of the definition.
use Rattle.std.specs.Prelude.{ℕ}
use Rattle.circuit.specs.Answer.{Answer, refused, given}
use Rattle.renewal.specs.declared.answer.RenewalAnswer.{RenewalAnswer}
use Rattle.renewal.specs.declared.answer.RenewalAnswer.TheVariants.{Refused, Renewed}

abbrev pub paper_of : RenewalAnswer → Answer ℕ
paper_of (Refused number place) = refused number place
paper_of (Renewed bytes) = given bytes
