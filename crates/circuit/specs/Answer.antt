-- Rule 6.1: what a call answers, and the tests that lead to it in checking order.
use Rattle.std.specs.Prelude.{ℕ, zero, suc, ◌+◌, Bool, true, false, Result, Ok, Err}
use Rattle.circuit.specs.Reading.{Size, sized, faulty}
use Rattle.circuit.specs.declared.reader.Sizes.{Sizes}
use Rattle.circuit.specs.declared.reader.CircuitAnswer.{CircuitAnswer}
use Rattle.circuit.specs.declared.reader.CircuitAnswer.TheVariants as variants
use Rattle.circuit.specs.declared.refusal.Reason.{Reason}
use Rattle.circuit.specs.declared.refusal.Reason.TheVariants as reason
use Rattle.circuit.specs.declared.refusal.Refusal.{Refusal}

-- a refusal's number and place, or a result
pub data Answer (A : Type 0) : Type 0 where
  refused : ℕ → ℕ → Answer A
  given : A → Answer A

-- go on where the test holds, else refuse with the number and place
abbrev pub ask : {A : Type 0} → Bool → ℕ → ℕ → Answer A → Answer A
ask true number place r = r
ask false number place r = refused number place

-- go on where a search found nothing, which is 0, else refuse with the number; the place is what was found, counted on from `base`
abbrev pub ask_none : {A : Type 0} → ℕ → ℕ → ℕ → Answer A → Answer A
ask_none zero number base r = r
ask_none (suc k) number base r = refused number (base + suc k)

-- go on with what was given
abbrev pub and_then : {A B : Type 0} → Answer A → (A → Answer B) → Answer B
and_then (refused number place) f = refused number place
and_then (given x) f = f x

-- the paper's number of a reason to refuse
abbrev pub number_of : Reason → ℕ
number_of reason.CircuitLength = 1
number_of reason.CircuitMark = 2
number_of reason.CircuitVersion = 3
number_of reason.NotPrime = 4
number_of reason.SizesOut = 5
number_of reason.EndsEarly = 6
number_of reason.TermCount = 7
number_of reason.SignalNumber = 8
number_of reason.Coefficient = 9
number_of reason.BytesLeft = 10
number_of reason.DerivationMark = 11
number_of reason.DerivationVersion = 12
number_of reason.DerivationLength = 13
number_of reason.MarksRoom = 14
number_of reason.StepKind = 15
number_of reason.StepField = 16
number_of reason.RuleUnmet = 17
number_of reason.PairMark = 18
number_of reason.PairVersion = 19
number_of reason.PairFrame = 20
number_of reason.PairValue = 21
number_of reason.Unsatisfied = 22
number_of reason.InputsDiffer = 23
number_of reason.OutputAgrees = 24
number_of reason.OutputRoom = 25
number_of reason.SheetFrame = 26
number_of reason.SheetEntry = 27
number_of reason.TagBroken = 28
number_of reason.IdleStep = 29
number_of reason.Candidates = 30
number_of reason.RunBuffers = 31
number_of reason.RecordsLength = 32
number_of reason.RecordValue = 33
number_of reason.WatchArguments = 34

-- a result of the code as an answer, and one whose value stands for another
abbrev pub answer_of : {A : Type 0} → Result A Refusal → Answer A
answer_of (Ok x) = given x
answer_of (Err r) = refused (number_of r.reason) r.place

abbrev pub answer_by : {A B : Type 0} → (A → B) → Result A Refusal → Answer B
answer_by f (Ok x) = given (f x)
answer_by f (Err r) = refused (number_of r.reason) r.place

-- the enum of the circuit call as an answer
abbrev pub paper_of : CircuitAnswer → Answer Sizes
paper_of (variants.Refused number place) = refused number place
paper_of (variants.Sizes z) = given z

-- what the code's readers find: a size, or a refusal whose place is an offset in the part
abbrev pub found_of : Result ℕ Refusal → Size
found_of (Ok size) = sized size
found_of (Err r) = faulty (number_of r.reason) r.place
