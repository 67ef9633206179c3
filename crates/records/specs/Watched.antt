-- Rule 7.14: what the watching call is for. "None" is said exactly if no two records make a pair; the pair that is found is the one that the rule names, and
-- the file that is written is accepted by the pair call.
use Rattle.std.specs.Prelude.{ℕ, ◌+◌, ◌%◌, ◌≤◌, ◌<◌, ◌≡◌, ◌≢◌, List, length, take, None, Some}
use Rattle.circuit.specs.Circuit.{Circuit, value_of, ShareInputs, Satisfying}
use Rattle.circuit.specs.Reading.{whole}
use Rattle.circuit.specs.Reader.{read_circuit}
use Rattle.circuit.specs.Answer.{Answer, given}
use Rattle.tags.specs.Sheet.{empty_sheet}
use Rattle.pair.specs.Call.{first_run, second_run, pair_call}
use Rattle.records.specs.declared.answer.Watched.{Watched}
use Rattle.records.specs.Recorded.{record_size, record_run, records_in}
use Rattle.records.specs.Call.{Found, window_of, pair_size}

-- Rule 6.14: records j and k of a file s, fewer than w places apart, satisfy the circuit, share their inputs and differ at the output q
pub record MakesPair (C : Circuit) (s : List ℕ) (w j k q : ℕ) : Type 0 where
  pub least : 1 ≤ j
  pub order : j < k
  pub most : k ≤ records_in C.n s
  pub near : k < j + w
  pub earlier : Satisfying C (record_run C.n s j)
  pub later : Satisfying C (record_run C.n s k)
  pub share : ShareInputs C (record_run C.n s j) (record_run C.n s k)
  pub above : C.i < q
  pub within : q ≤ C.i + C.o
  pub differ : value_of (record_run C.n s j) q ≢ value_of (record_run C.n s k) q

-- x is the pair with the earliest later record, then the nearest earlier one, then the lowest output
pub record FirstPair (C : Circuit) (s : List ℕ) (w : ℕ) (x : Watched) : Type 0 where
  pub makes : MakesPair C s w x.earlier x.later x.q
  pub earliest : (j k q : ℕ) → MakesPair C s w j k q → x.later ≤ k
  pub nearest : (j q : ℕ) → MakesPair C s w j x.later q → j ≤ x.earlier
  pub lowest : (q : ℕ) → MakesPair C s w x.earlier x.later q → x.q ≤ q

-- that pair, or that no two records make one
abbrev pub IsFirstPair : Circuit → List ℕ → ℕ → Found → Type 0
IsFirstPair C s w None = (j k q : ℕ) → MakesPair C s w j k q → ⊥
IsFirstPair C s w (Some x) = FirstPair C s w x

-- each value of each record is below p
abbrev pub AllBelow : Circuit → List ℕ → Type 0
AllBelow C s = (k j : ℕ) → 1 ≤ k → k ≤ records_in C.n s → 1 ≤ j → j ≤ C.n → value_of (record_run C.n s k) j < C.p

-- r is the call's answer for a window w and a buffer of so many bytes: given where no refusal is met, and then that pair
pub record Watches (C : Circuit) (s : List ℕ) (w room : ℕ) (r : Answer Found) : Type 0 where
  pub answered : length s % record_size C.n ≡ 0 → AllBelow C s → w ≢ 1 → w ≤ 256 → pair_size C.n ≤ room → (x : Found) × (r ≡ given x)
  pub first : (x : Found) → r ≡ given x → IsFirstPair C s (window_of w) x

-- for every circuit that isn't refused
abbrev pub WatchedAnswer : List ℕ → List ℕ → ℕ → ℕ → Answer Found → Type 0
WatchedAnswer c s w room r = (C : Circuit) (size : ℕ) → read_circuit c ≡ whole C size → Watches C s w room r

-- where a pair is answered, the buffer begins with a file that the pair call accepts at q, without tags; its first run is the earlier record
pub record Written (C : Circuit) (c s : List ℕ) (x : Watched) (file : List ℕ) : Type 0 where
  pub accepted : pair_call c empty_sheet file ≡ given x.q
  pub first : first_run C.n file ≡ record_run C.n s x.earlier
  pub second : second_run C.n file ≡ record_run C.n s x.later

abbrev pub PairAccepted : List ℕ → List ℕ → Answer Found → List ℕ → Type 0
PairAccepted c s r output =
    (C : Circuit) (size : ℕ) → read_circuit c ≡ whole C size → (x : Watched) → r ≡ given (Some x) → Written C c s x (take (pair_size C.n) output)
