-- The enum of both calls as an answer: the run is what the buffer holds afterwards.
use Rattle.std.specs.Prelude.{ℕ, Bool, true, false, List, Result, Ok, Err}
use Rattle.std.proofs.Math.Option.{none, some}
use Rattle.circuit.specs.Answer.{Answer, refused, given, number_of}
use Rattle.circuit.specs.declared.refusal.Refusal.{Refusal}
use Rattle.runs.specs.Call.{Found}
use Rattle.runs.specs.declared.answer.RunAnswer.{RunAnswer}
use Rattle.runs.specs.declared.answer.RunAnswer.TheVariants.{Refused, Written, NoMore}

abbrev pub paper_of : RunAnswer → List ℕ → Answer Found
paper_of (Refused number place) left = refused number place
paper_of Written left = given (some left)
paper_of NoMore left = given none

-- whether a run was written, or a refusal, as the enum of both calls
abbrev pub run_answer : Result Bool Refusal → RunAnswer
run_answer (Ok true) = Written
run_answer (Ok false) = NoMore
run_answer (Err r) = Refused (number_of r.reason) r.place
