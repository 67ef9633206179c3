-- What the pair call is for (rule 7.2): a well-formed pair is accepted exactly if its runs show that the circuit, with the tags on its inputs, leaves
-- the output q open.
use Rattle.std.specs.Prelude.{ℕ, ◌+◌, ◌*◌, ◌≤◌, ◌<◌, ◌≡◌, true, List, length}
use Rattle.circuit.specs.Bytes.{u16_at}
use Rattle.circuit.specs.Circuit.{Circuit, value_of, ShareInputs}
use Rattle.circuit.specs.Reader.{pair_letter, has_mark}
use Rattle.circuit.specs.Runs.{value_at}
use Rattle.circuit.specs.Answer.{Answer, given}
use Rattle.tags.specs.Tag.{Sheet, Allowed}
use Rattle.tags.specs.Sheet.{Unrefused}
use Rattle.pair.specs.Call.{first_run, second_run, signal_of, values_of}

-- Rule 6.9: the bytes s are those of circuit C, h those of sheet T for it, and t is a pair file for it
pub record WellFormedPair (s h t : List ℕ) (C : Circuit) (T : Sheet) : Type 0 where
  pub unrefused : Unrefused s h C T
  pub least : 7 ≤ length t
  pub mark : has_mark pair_letter t ≡ true
  pub version : u16_at t 3 ≡ 1
  pub sized : length t ≡ 7 + 8 * C.n
  pub output_least : C.i < signal_of t
  pub output_most : signal_of t ≤ C.i + C.o
  pub below : (number : ℕ) → 1 ≤ number → number ≤ 2 * C.n → value_at (values_of t) number < C.p

-- both runs are allowed (rule 3.7): they satisfy the circuit, and their inputs obey every tag on them. They agree on all inputs and differ at q.
pub record Shown (C : Circuit) (T : Sheet) (t : List ℕ) : Type 0 where
  pub first : Allowed C T (first_run C.n t)
  pub second : Allowed C T (second_run C.n t)
  pub share : ShareInputs C (first_run C.n t) (second_run C.n t)
  pub differ : value_of (first_run C.n t) (signal_of t) ≡ value_of (second_run C.n t) (signal_of t) → ⊥

-- r is an answer for the bytes s, h and t: a well-formed pair is accepted at its signal exactly if that is shown, and no other pair is accepted
pub record Exact (s h t : List ℕ) (r : Answer ℕ) : Type 0 where
  pub accepts : (C : Circuit) (T : Sheet) → WellFormedPair s h t C T → Shown C T t → r ≡ given (signal_of t)
  pub shows : (C : Circuit) (T : Sheet) → WellFormedPair s h t C T → r ≡ given (signal_of t) → Shown C T t
  pub only : (q : ℕ) → r ≡ given q → (q ≡ signal_of t) × (C : Circuit) × (T : Sheet) × WellFormedPair s h t C T
