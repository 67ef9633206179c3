-- Rule 7.11: the satisfying runs of cases g, b and f, and what they show: that an output is settled, though the rules leave it open, or that it isn't settled.
use Rattle.std.specs.Prelude.{ℕ, ◌≡◌, false, List, [], ◌∷◌}
use Rattle.circuit.specs.Circuit.{Circuit, value_of, Satisfying, ShareInputs}
use Rattle.tags.specs.Tag.{Sheet, tagged}
use Rattle.tags.specs.Sheet.{empty_sheet, sheet_of}
use Rattle.derivation.specs.Call.{Accepted, last_of}
use Rattle.runs.specs.Call.{first_call}
use Rattle.runs.specs.Listed.{In, Listed}
use Rattle.cases.specs.Encode.{circuit_bytes}

abbrev pub runs_g : List (List ℕ)
runs_g =
    (0 ∷ 1 ∷ 0 ∷ []) ∷ (0 ∷ 1 ∷ 1 ∷ []) ∷ (0 ∷ 1 ∷ 2 ∷ []) ∷ (0 ∷ 1 ∷ 3 ∷ []) ∷ (0 ∷ 1 ∷ 4 ∷ []) ∷ (0 ∷ 1 ∷ 5 ∷ []) ∷ (0 ∷ 1 ∷ 6 ∷ [])
    ∷ (1 ∷ 0 ∷ 1 ∷ []) ∷ (2 ∷ 0 ∷ 4 ∷ []) ∷ (3 ∷ 0 ∷ 5 ∷ []) ∷ (4 ∷ 0 ∷ 2 ∷ []) ∷ (5 ∷ 0 ∷ 3 ∷ []) ∷ (6 ∷ 0 ∷ 6 ∷ []) ∷ []

abbrev pub runs_b : List (List ℕ)
runs_b =
    (0 ∷ 1 ∷ 0 ∷ []) ∷ (0 ∷ 2 ∷ 1 ∷ []) ∷ (1 ∷ 4 ∷ 3 ∷ []) ∷ (1 ∷ 6 ∷ 5 ∷ []) ∷ (2 ∷ 5 ∷ 4 ∷ []) ∷ (5 ∷ 0 ∷ 6 ∷ []) ∷ (5 ∷ 3 ∷ 2 ∷ []) ∷ []

abbrev pub runs_f : List (List ℕ)
runs_f = (0 ∷ []) ∷ (1 ∷ []) ∷ []

-- LISTED of a circuit: these are the runs that the calls give on its bytes, from the first to the end
abbrev pub Lists : Circuit → List (List ℕ) → Type 0
Lists C runs = Listed (circuit_bytes C) C (first_call (circuit_bytes C) C.n) runs

-- the sheet that says nothing
abbrev pub no_sheet : Sheet
no_sheet = sheet_of empty_sheet

-- Derivations of C are accepted, and none of them marks signal s, whatever sheet comes with it; and yet the value of s is the same in all satisfying runs that
-- share their inputs.
pub record OpenThoughSettled (C : Circuit) (s : ℕ) : Type 0 where
  pub some : (d : List ℕ) × Accepted (tagged C no_sheet) no_sheet d
  pub unmarked : (T : Sheet) (d : List ℕ) → Accepted (tagged C T) T d → (last_of (tagged C T) d).marked s ≡ false
  pub settled : (run other : List ℕ) → Satisfying C run → Satisfying C other → ShareInputs C run other → value_of run s ≡ value_of other s

-- two runs of a list that share their inputs and differ at signal q
pub record PairAmong (C : Circuit) (runs : List (List ℕ)) (q : ℕ) (first second : List ℕ) : Type 0 where
  pub first_in : In first runs
  pub second_in : In second runs
  pub share : ShareInputs C first second
  pub differ : value_of first q ≡ value_of second q → ⊥
