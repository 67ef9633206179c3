-- Recorded runs (rule 2.7), and which two of them make a pair (rule 6.14): over any records, of which values and satisfaction are known.
use Rattle.std.specs.Prelude.{ℕ, zero, suc, ◌+◌, ◌*◌, ◌-◌, ◌/◌, min, Bool, not, ◌&&◌, eqb, List, length, drop, Option, None, Some}
use Rattle.circuit.specs.Circuit.{Circuit, value_of}
use Rattle.circuit.specs.Runs.{value_size, run_in, first_from, unsatisfied, agree}
use Rattle.records.specs.declared.answer.Watched.{Watched}

-- Rule 2.7: a record (a run as it was recorded) is n values, and record k starts at 4 · n · (k - 1)
abbrev pub record_size : ℕ → ℕ
record_size n = value_size * n

-- the bytes from record k on
unfoldable pub from_record : ℕ → List ℕ → ℕ → List ℕ
from_record n s k = drop (record_size n * (k - 1)) s

-- its run
unfoldable pub record_run : ℕ → List ℕ → ℕ → List ℕ
record_run n s k = run_in (from_record n s k) n

-- how many whole records a file has
unfoldable pub records_in : ℕ → List ℕ → ℕ
records_in n s = length s / record_size n

-- Records 1 to `count`, of circuits with i inputs and o outputs: the value of signal s in record k is `value k s`
pub record Recorded : Type 0 where
  pub i : ℕ
  pub o : ℕ
  pub count : ℕ
  pub value : ℕ → ℕ → ℕ
  pub satisfies : ℕ → Bool

-- the records of a file
abbrev pub recorded : Circuit → List ℕ → Recorded
recorded C s =
    record {
      i = C.i;
      o = C.o;
      count = records_in C.n s;
      value = λ k. value_of (record_run C.n s k);
      satisfies = λ k. eqb (unsatisfied C (record_run C.n s k)) 0;
    }

-- Rule 6.14: records j and k share their inputs
unfoldable pub shares : Recorded → ℕ → ℕ → Bool
shares R j k = eqb (first_from (agree (R.value j) (R.value k)) 1 R.i) 0

-- the lowest output at which they differ; 0 where there is none
unfoldable pub lowest_output : Recorded → ℕ → ℕ → ℕ
lowest_output R j k = first_from (agree (R.value j) (R.value k)) (R.i + 1) R.o

-- both satisfy the circuit, share their inputs and differ at an output
unfoldable pub differ : Recorded → ℕ → ℕ → Bool
differ R j k = R.satisfies j && R.satisfies k && shares R j k && not (eqb (lowest_output R j k) 0)

-- how many places before record k the nearest record is with which it makes a pair, fewer than w places off; 0 where there is none
unfoldable pub distance : Recorded → ℕ → ℕ → ℕ
distance R w k = first_from (λ d. not (differ R (k - d) k)) 1 (min (w - 1) (k - 1))

-- the pair of record k with that record, at the lowest output
unfoldable pub pair_back : Recorded → ℕ → ℕ → Option Watched
pair_back R k zero = None
pair_back R k (suc d) = Some (record { q = lowest_output R (k - suc d) k; earlier = k - suc d; later = k })

unfoldable pub pair_at : Recorded → ℕ → ℕ → Option Watched
pair_at R w k = pair_back R k (distance R w k)

-- the first record that makes a pair with one before it; 0 where there is none
unfoldable pub first_later : Recorded → ℕ → ℕ
first_later R w = first_from (λ k. eqb (distance R w k) 0) 1 R.count

-- Rule 6.14: the earliest later record, the nearest earlier one, the lowest output; None where no two records make a pair
unfoldable pub watched : Recorded → ℕ → Option Watched
watched R w = pair_at R w (first_later R w)
