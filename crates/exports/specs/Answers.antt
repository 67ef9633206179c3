-- What the exported calls return and write, in numbers (rules 6.1 and 6.4). Lent memory is written on a result that has something to hand over,
-- else not at all.
use Rattle.std.specs.Prelude.{ℕ, ◌+◌, ◌*◌, ◌%◌, List, [], ◌∷◌, ◌++◌, Option, None, Some}
use Rattle.std.proofs.Math.Option.{none, some}
use Rattle.circuit.specs.Answer.{Answer, refused, given}
use Rattle.circuit.specs.declared.reader.Sizes.{Sizes}
use Rattle.derivation.specs.Call.{Verdict, Fixed, Open, Judgement}
use Rattle.records.specs.declared.answer.Watched.{Watched}
use Rattle.runs.specs.Call.{Found}
use Rattle.solver.specs.Call.{Solved}

-- The returned value of every call. High half: the refusal's number, 0 on a result. Low half: the refusal's place; on a result the signal q of
-- an accepted pair or of one that is found, the new length of a renewed derivation, 1 where a run was written, and else 0. The low half holds each whole, but
-- for the place of Refusal 33, which is kept modulo 2^32: all else is far below.
abbrev pub returned : ℕ → ℕ → ℕ
returned number low = number * 4294967296 + low % 4294967296

-- the value returned for an answer, where a result has x in the low half
abbrev pub returned_by : {A : Type 0} → Answer A → (A → ℕ) → ℕ
returned_by (refused number place) low = returned number place
returned_by (given x) low = returned 0 (low x)

-- what an answer leaves in a lent array that held `before`
abbrev pub left_by : {A : Type 0} → Answer A → (A → List ℕ) → List ℕ → List ℕ
left_by (refused number place) numbers before = before
left_by (given x) numbers before = numbers x

-- 1 for fixed and 0 for open
abbrev pub verdict_number : Verdict → ℕ
verdict_number Fixed = 1
verdict_number Open = 0

-- how many signals are marked, the verdict, how many tags are shown, and the first that isn't
abbrev pub judgement_numbers : Judgement → List ℕ
judgement_numbers x = x.count ∷ verdict_number x.verdict ∷ x.shown.count ∷ x.shown.missed ∷ []

-- reading a circuit: p, n, i, o and m
abbrev pub read_returned : Answer Sizes → ℕ
read_returned r = returned_by r (λ z. 0)

abbrev pub read_answer : Answer Sizes → List ℕ → List ℕ
read_answer r before = left_by r (λ z. z.p ∷ z.n ∷ z.i ∷ z.o ∷ z.m ∷ []) before

-- judging a pair: q is returned, and nothing is written
abbrev pub pair_returned : Answer ℕ → ℕ
pair_returned r = returned_by r (λ q. q)

-- judging a derivation: its judgement
abbrev pub mark_returned : Answer Judgement → ℕ
mark_returned r = returned_by r (λ x. 0)

abbrev pub mark_answer : Answer Judgement → List ℕ → List ℕ
mark_answer r before = left_by r judgement_numbers before

-- solving a circuit: the same, and the bytes of the derivation
abbrev pub solve_returned : Answer Solved → ℕ
solve_returned r = returned_by r (λ x. 0)

abbrev pub solve_answer : Answer Solved → List ℕ → List ℕ
solve_answer r before = left_by r (λ x. judgement_numbers x.judgement ++ (x.bytes ∷ [])) before

-- renewing a derivation: its new length is returned, and there is no array
abbrev pub renew_returned : Answer ℕ → ℕ
renew_returned r = returned_by r (λ bytes. bytes)

-- the first and the next run: 1 where one was written and 0 where there are no more; the run itself is in the buffer
abbrev pub found_number : Found → ℕ
found_number (some run) = 1
found_number none = 0

abbrev pub run_returned : Answer Found → ℕ
run_returned r = returned_by r found_number

-- watching recorded runs: q of the pair that is found, 0 where no two records make one
abbrev pub watched_signal : Option Watched → ℕ
watched_signal (Some x) = x.q
watched_signal None = 0

abbrev pub watch_returned : Answer (Option Watched) → ℕ
watch_returned r = returned_by r watched_signal

-- its two records, the earlier and the later, only where a pair is found
abbrev pub watched_numbers : List ℕ → Option Watched → List ℕ
watched_numbers before (Some x) = x.earlier ∷ x.later ∷ []
watched_numbers before None = before

abbrev pub watch_answer : Answer (Option Watched) → List ℕ → List ℕ
watch_answer r before = left_by r (watched_numbers before) before
