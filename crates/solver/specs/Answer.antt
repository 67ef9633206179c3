-- The answers of the code as those of the definition.
use Rattle.circuit.specs.Answer.{Answer, refused, given}
use Rattle.derivation.specs.Answer.{judgement_in}
use Rattle.solver.specs.Call as call
use Rattle.solver.specs.declared.answer.Solved as code
use Rattle.solver.specs.declared.answer.SolverAnswer.{SolverAnswer}
use Rattle.solver.specs.declared.answer.SolverAnswer.TheVariants.{Refused, Solved}

abbrev pub solved_in : code.Solved → call.Solved
solved_in x = record { judgement = judgement_in x.judgement; bytes = x.bytes }

abbrev pub paper_of : SolverAnswer → Answer call.Solved
paper_of (Refused number place) = refused number place
paper_of (Solved x) = given (solved_in x)
