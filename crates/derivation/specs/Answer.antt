-- The answers of the code as those of the definition.
use Rattle.circuit.specs.Answer.{Answer, refused, given}
use Rattle.tags.specs.Answer.{shown_in}
use Rattle.derivation.specs.Call as call
use Rattle.derivation.specs.declared.answer.Verdict.{Verdict}
use Rattle.derivation.specs.declared.answer.Verdict.TheVariants.{Fixed, Open}
use Rattle.derivation.specs.declared.answer.Judgement.{Judgement}
use Rattle.derivation.specs.declared.answer.DerivationAnswer.{DerivationAnswer}
use Rattle.derivation.specs.declared.answer.DerivationAnswer.TheVariants.{Refused, Accepted}

abbrev pub verdict_in : Verdict → call.Verdict
verdict_in Fixed = call.Fixed
verdict_in Open = call.Open

abbrev pub judgement_in : Judgement → call.Judgement
judgement_in x = record { count = x.count; verdict = verdict_in x.verdict; shown = shown_in x.shown }

abbrev pub paper_of : DerivationAnswer → Answer call.Judgement
paper_of (Refused number place) = refused number place
paper_of (Accepted x) = given (judgement_in x)
