-- Rule 7.10: what the calls are for. The run that is written is the least, "no more" is said exactly if there is none, and LISTED: from the first run by the
-- next to the end every satisfying run comes, each one time, in rising order.
use Rattle.std.specs.Prelude.{ℕ, ◌^◌, ◌≤◌, ◌<◌, ◌≡◌, length}
use mathlib.Core.List.{List, [], ◌∷◌, Memᴰ}
use Rattle.std.proofs.Math.Option.{none, some}
use Rattle.circuit.specs.Circuit.{Circuit, value_of, Satisfying}
use Rattle.circuit.specs.Reading.{whole}
use Rattle.circuit.specs.Reader.{read_circuit}
use Rattle.circuit.specs.Answer.{Answer, given}
use Rattle.runs.specs.Order.{Before}
use Rattle.runs.specs.Call.{Found, next_call}

-- the least of the runs with a property, or none if there is no such run
pub record Least (P : List ℕ → Type 0) (run : List ℕ) : Type 0 where
  pub has : P run
  pub none_before : (other : List ℕ) → P other → Before (value_of other) (value_of run) → ⊥

pub record IsLeast (P : List ℕ → Type 0) (r : Found) : Type 0 where
  pub found : (run : List ℕ) → r ≡ some run → Least P run
  pub no_more : r ≡ none → (run : List ℕ) → P run → ⊥

-- a satisfying run that the run `from` comes before
pub record Later (C : Circuit) (from run : List ℕ) : Type 0 where
  pub satisfies : Satisfying C run
  pub later : Before (value_of from) (value_of run)

-- each value of n is below p
abbrev pub EachBelow : ℕ → ℕ → List ℕ → Type 0
EachBelow p n run = (s : ℕ) → 1 ≤ s → s ≤ n → value_of run s < p

-- r is the answer of the first-run call: given where no refusal is met, and then the least satisfying run
pub record First (C : Circuit) (room : ℕ) (r : Answer Found) : Type 0 where
  pub answered : C.p ^ C.n ≤ 65536 → room ≡ C.n → (x : Found) × (r ≡ given x)
  pub least : (x : Found) → r ≡ given x → IsLeast (Satisfying C) x

-- r is that of the next-run call
pub record Next (C : Circuit) (run : List ℕ) (room : ℕ) (r : Answer Found) : Type 0 where
  pub answered : C.p ^ C.n ≤ 65536 → length run ≡ C.n → room ≡ C.n → EachBelow C.p C.n run → (x : Found) × (r ≡ given x)
  pub least : (x : Found) → r ≡ given x → IsLeast (Later C run) x

-- for every circuit that isn't refused
abbrev pub FirstAnswer : List ℕ → ℕ → Answer Found → Type 0
FirstAnswer s room r = (C : Circuit) (size : ℕ) → read_circuit s ≡ whole C size → First C room r

abbrev pub NextAnswer : List ℕ → List ℕ → ℕ → Answer Found → Type 0
NextAnswer s run room r = (C : Circuit) (size : ℕ) → read_circuit s ≡ whole C size → Next C run room r

-- the runs that an answer and the next-run call after it give, one after the other, to the end; n is the length of the buffers
pub data Gives (s : List ℕ) (n : ℕ) : Answer Found → List (List ℕ) → Type 0 where
  over : Gives s n (given none) []
  more : {run : List ℕ} {runs : List (List ℕ)} → Gives s n (next_call s run n) runs → Gives s n (given (some run)) (run ∷ runs)

-- a run's place in a list
abbrev pub In : List ℕ → List (List ℕ) → Type 0
In run runs = Memᴰ run runs

-- each run comes before all that follow it: strictly rising, so no run comes twice
pub data Rising : List (List ℕ) → Type 0 where
  no_runs : Rising []
  rises : {run : List ℕ} {runs : List (List ℕ)} → ((other : List ℕ) → In other runs → Before (value_of run) (value_of other)) → Rising runs
      → Rising (run ∷ runs)

-- LISTED: the runs that the calls give on the bytes s of a circuit C, from the answer r of the first-run call by the next-run call to the end
pub record Listed (s : List ℕ) (C : Circuit) (r : Answer Found) (runs : List (List ℕ)) : Type 0 where
  pub gives : Gives s C.n r runs
  pub rising : Rising runs
  pub all : (run : List ℕ) → Satisfying C run → In run runs
  pub only : (run : List ℕ) → In run runs → Satisfying C run

-- for every circuit that isn't refused and isn't too large
abbrev pub ListedAnswer : List ℕ → ℕ → Answer Found → Type 0
ListedAnswer s room r =
    (C : Circuit) (size : ℕ) → read_circuit s ≡ whole C size → C.p ^ C.n ≤ 65536 → room ≡ C.n → (runs : List (List ℕ)) × Listed s C r runs
