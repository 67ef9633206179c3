-- Rows: for a constraint the constant and the signals that it names, rising, each with the forms that name it and its coefficient in the reduced
-- form, also where that is 0.
-- A row is made once per call and then read. How calls run, not what they mean.
use Rattle.std.specs.Prelude.{ℕ, zero, suc, ◌+◌, ◌*◌, ◌-◌, ◌/◌, ◌%◌, ◌≤◌, ◌<◌, ◌≡◌, Bool, true, ◌||◌, List, ◌⊎◌, length, get_or, take, drop}
use Rattle.circuit.specs.Circuit.{Form, Circuit, Constraint, constraint_at, coef, names}
use Rattle.circuit.specs.Reader.{signals_most}
use Rattle.laws.specs.Sum.{sum, keep}
use Rattle.laws.specs.Rules.{reduced}
use Rattle.rules.specs.View.{bound_in, mark_in}
use Rattle.rules.specs.declared.rows.Entry.{Entry}

-- the number at a place, 0 past the end
unfoldable pub at : List ℕ → ℕ → ℕ
at list i = get_or list i 0

unfoldable pub one : (ℕ → Bool) → ℕ → ℕ
one q s = keep (q s) 1

-- how many indices below s pass
unfoldable pub rank : (ℕ → Bool) → ℕ → ℕ
rank q s = sum s (one q)

-- one of the three forms names the signal
unfoldable pub involves : Constraint → ℕ → Bool
involves K s = names K.a s || names K.b s || names K.c s

-- what a row has an entry for: the constant, and each signal that is named
unfoldable pub stands : Constraint → ℕ → Bool
stands K zero = true
stands K (suc s) = involves K (suc s)

-- which forms name the signal: 1 for A, 2 for B and 4 for C, added
unfoldable pub forms_of : Constraint → ℕ → ℕ
forms_of K s = keep (names K.a s) 1 + keep (names K.b s) 2 + keep (names K.c s) 4

-- an entry of the constant that no form names: what a row holds past its end
unfoldable pub nothing : Entry
nothing = record { coefficient = 0; signal = 0; forms = 0 }

-- the entry of a signal (0 for the constant)
unfoldable pub entry_of : ℕ → Constraint → ℕ → Entry
entry_of p K s = record { coefficient = reduced p K s; signal = s; forms = forms_of K s }

-- how many entries a row has
abbrev pub entries : List Entry → ℕ
entries row = length row

-- the entry at a place, `nothing` past the end
unfoldable pub entry_at : List Entry → ℕ → Entry
entry_at row i = get_or row i nothing

unfoldable pub signal_on : List Entry → ℕ → ℕ
signal_on row i = (entry_at row i).signal

unfoldable pub forms_on : List Entry → ℕ → ℕ
forms_on row i = (entry_at row i).forms

unfoldable pub coef_on : List Entry → ℕ → ℕ
coef_on row i = (entry_at row i).coefficient

-- bound and mark of the signal of entry i
unfoldable pub bound_on : ℕ → List ℕ → List Entry → ℕ → ℕ
bound_on p bounds row i = bound_in p bounds (signal_on row i)

unfoldable pub mark_on : List Bool → List Entry → ℕ → Bool
mark_on marks row i = mark_in marks (signal_on row i)

-- The row of a constraint: what stands in it, in rising order, and nothing else.
pub record Row (p n : ℕ) (K : Constraint) (row : List Entry) : Type 0 where
  pub counted : entries row ≡ rank (stands K) (suc n)
  pub signal : (s : ℕ) → s ≤ n → stands K s ≡ true → signal_on row (rank (stands K) s) ≡ s
  pub forms : (s : ℕ) → s ≤ n → stands K s ≡ true → forms_on row (rank (stands K) s) ≡ forms_of K s
  pub coef : (s : ℕ) → s ≤ n → stands K s ≡ true → coef_on row (rank (stands K) s) ≡ reduced p K s

-- Rows of all constraints in one array

-- Where row k starts: a term takes six bytes, so that what the constraints before it need lies before it.
unfoldable pub start_of : List ℕ → ℕ → ℕ
start_of table k = at table k / 6 + k

-- how many entries row k has
unfoldable pub row_size : Circuit → ℕ → ℕ
row_size C k = rank (stands (constraint_at C k)) (suc C.n)

-- the entries of row k, which ends where `ends` says
unfoldable pub row_of : List ℕ → List ℕ → List Entry → ℕ → List Entry
row_of table ends rows k = take (at ends k - start_of table k) (drop (start_of table k) rows)

-- the row of each constraint that has been made; `ends` is 0 at the others
pub record Rows (C : Circuit) (table ends : List ℕ) (rows : List Entry) : Type 0 where
  pub each : (k : ℕ) → 1 ≤ k → k ≤ C.m → (at ends k ≡ 0) ⊎ Row C.p C.n (constraint_at C k) (row_of table ends rows k)

-- how many places for entries the rows of so many bytes and m constraints lie in
abbrev pub places : ℕ → ℕ → ℕ
places bytes m = bytes / 6 + m + 1

-- room for the rows of every circuit of so many bytes, and for m ends
pub record Roomy (bytes m : ℕ) (ends : List ℕ) (rows : List Entry) : Type 0 where
  pub ends_room : m < length ends
  pub rows_room : places bytes m ≤ length rows

-- Making rows

-- what a form is added with: a modulus, a bit, and an entry for every signal
pub record Addable (p bit : ℕ) (form : List Entry) : Type 0 where
  pub modulus : 0 < p
  pub bit_most : bit ≤ 4
  pub wide : length form ≡ 1 + signals_most

-- A form has been added: its multiple by k to the coefficients, modulo p, and the bit to the forms of each signal that it names.
pub record FormAdded (p k bit : ℕ) (F : Form) (form form' : List Entry) : Type 0 where
  pub added : (s : ℕ) → s ≤ signals_most → coef_on form s < p → coef_on form' s ≡ (coef_on form s + k * coef F s) % p
  pub named : (s : ℕ) → s ≤ signals_most → forms_on form s < bit → forms_on form' s ≡ forms_on form s + keep (names F s) bit

-- By signal: the coefficient in the reduced form, and the forms that name it.
pub record Reduces (p : ℕ) (K : Constraint) (form : List Entry) : Type 0 where
  pub coefficient : (s : ℕ) → s ≤ signals_most → coef_on form s ≡ reduced p K s
  pub named : (s : ℕ) → s ≤ signals_most → forms_on form s ≡ forms_of K s

-- From `start` to `end` the entries of the signals below n are put, and the other places are as before.
pub record Put (p n : ℕ) (K : Constraint) (start end : ℕ) (rows rows' : List Entry) : Type 0 where
  pub ends : end ≡ start + rank (stands K) n
  pub entry : (s : ℕ) → s < n → stands K s ≡ true → entry_at rows' (start + rank (stands K) s) ≡ entry_of p K s
  pub others : (i : ℕ) → (i < start) ⊎ (end ≤ i) → entry_at rows' i ≡ entry_at rows i

-- Row k is there. It was made now, unless it was there before; the rows that were there before are as they were.
pub record RowMade (C : Circuit) (table : List ℕ) (k : ℕ) (ends : List ℕ) (rows : List Entry) (ends' : List ℕ) (rows' : List Entry) : Type 0 where
  pub all : Rows C table ends' rows'
  pub made : at ends' k ≡ 0 → ⊥
  pub kept : (j : ℕ) → 1 ≤ j → j ≤ C.m → (at ends j ≡ 0 → ⊥) → row_of table ends' rows' j ≡ row_of table ends rows j
  pub ends_kept : (j : ℕ) → (j ≡ k → ⊥) → at ends' j ≡ at ends j
  pub end : at ends k ≡ 0 → at ends' k ≡ start_of table k + row_size C k
  pub others : (i : ℕ) → (i < start_of table k) ⊎ (at ends' k ≤ i) → entry_at rows' i ≡ entry_at rows i
