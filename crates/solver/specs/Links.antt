-- Links between the entries of rows that hold the same signal. How the solver runs, not what it means.
use Rattle.std.specs.Prelude.{ℕ, ◌+◌, ◌-◌, ◌≤◌, ◌<◌, ◌≡◌, false, List, ◌⊎◌, length, get_or, Option, None}
use Rattle.circuit.specs.Circuit.{Circuit, constraint_at}
use Rattle.circuit.specs.Call.{circuit_of, Sized}
use Rattle.circuit.specs.Offsets.{Offsets}
use Rattle.circuit.specs.declared.reader.Sizes.{Sizes}
use Rattle.rules.specs.Rows.{at, signal_on, involves, Row, start_of, row_size, row_of, Rows, Roomy}
use Rattle.rules.specs.declared.rows.Entry.{Entry}
use Rattle.solver.specs.declared.links.Link.{Link}

-- the row of every constraint
pub record AllRows (C : Circuit) (table ends : List ℕ) (rows : List Entry) : Type 0 where
  pub row : (k : ℕ) → 1 ≤ k → k ≤ C.m → Row C.p C.n (constraint_at C k) (row_of table ends rows k)

-- a circuit that was read, its sizes, where its constraints stand, and their rows
pub record Prepared (c table ends : List ℕ) (rows : List Entry) (z : Sizes) : Type 0 where
  pub sized : Sized c z
  pub offsets : Offsets c z.m table
  pub made : AllRows (circuit_of c) table ends rows

-- what a list of links holds past its end
unfoldable pub unlinked : Link
unlinked = record { before = 0; owner = 0 }

-- of entry i: one more than the last entry before it with the same signal, and the constraint whose row it is in
unfoldable pub before_on : List Link → ℕ → ℕ
before_on links i = (get_or links i unlinked).before

unfoldable pub owner_on : List Link → ℕ → ℕ
owner_on links i = (get_or links i unlinked).owner

-- x is one more than the last entry below e that holds s, 0 where none does
pub record Last (rows : List Entry) (s e x : ℕ) : Type 0 where
  pub before : x ≤ e
  pub holds : 1 ≤ x → signal_on rows (x - 1) ≡ s
  pub later : (j : ℕ) → x ≤ j → j < e → signal_on rows j ≡ s → ⊥

-- of the first e entries: each signal's last one, and for each entry the last one before it with the same signal
pub record Linked (rows : List Entry) (e : ℕ) (lasts : List ℕ) (links : List Link) : Type 0 where
  pub last : (s : ℕ) → s < length lasts → Last rows s e (at lasts s)
  pub before : (i : ℕ) → i < e → signal_on rows i < length lasts → Last rows (signal_on rows i) i (before_on links i)
  pub falls : (i : ℕ) → i < e → before_on links i ≤ i

-- each entry is in the row that it was in
pub record SameOwners (before after : List Link) : Type 0 where
  pub sized : length after ≡ length before
  pub owner : (i : ℕ) → owner_on after i ≡ owner_on before i

-- what linking asks: room for the links, and nothing linked yet
pub record Linkable (end : ℕ) (rows : List Entry) (lasts : List ℕ) (links : List Link) : Type 0 where
  pub inside : end ≤ length rows
  pub room : end ≤ length links
  pub small : end < 65536
  pub fresh : (s : ℕ) → at lasts s ≡ 0

-- the entries from start to end are in row k, and the others in those in which they were
pub record Owned (k start end : ℕ) (before after : List Link) : Type 0 where
  pub each : (i : ℕ) → start ≤ i → i < end → owner_on after i ≡ k
  pub kept : (i : ℕ) → (i < start) ⊎ (end ≤ i) → owner_on after i ≡ owner_on before i

-- the entries of all rows, up to `end`, are linked, and each belongs to its constraint
pub record Links (C : Circuit) (end : ℕ) (table ends : List ℕ) (rows : List Entry) (lasts : List ℕ) (links : List Link) : Type 0 where
  pub linked : Linked rows end lasts links
  pub owner : (k e : ℕ) → 1 ≤ k → k ≤ C.m → start_of table k ≤ e → e < at ends k → owner_on links e ≡ k
  pub within : (k : ℕ) → 1 ≤ k → k ≤ C.m → at ends k ≤ end
  pub lasts_room : C.n < length lasts
  pub links_room : end ≤ length links

-- what was kept is forgotten, but for constraints that don't name the signal
pub record Forgotten {A : Type 0} (C : Circuit) (signal : ℕ) (before after : List (Option A)) : Type 0 where
  pub sized : length after ≡ length before
  pub each : (k : ℕ) → 1 ≤ k → k ≤ C.m
      → (get_or after k None ≡ None) ⊎ ((get_or after k None ≡ get_or before k None) × (involves (constraint_at C k) signal ≡ false))

-- Making the rows of all constraints

-- what is asked: room for the rows of so many bytes and m constraints, of which none is made, and for their links
pub record Blank (bytes m : ℕ) (ends : List ℕ) (rows : List Entry) (links : List Link) : Type 0 where
  pub roomy : Roomy bytes m ends rows
  pub links_room : length rows ≤ length links
  pub none : (k : ℕ) → at ends k ≡ 0

-- the rows of constraints 1 to k are made, and their entries are those of these constraints
pub record Made (C : Circuit) (table : List ℕ) (k : ℕ) (ends : List ℕ) (rows : List Entry) (links : List Link) : Type 0 where
  pub all : Rows C table ends rows
  pub end : (j : ℕ) → 1 ≤ j → j ≤ k → at ends j ≡ start_of table j + row_size C j
  pub rest : (j : ℕ) → k < j → at ends j ≡ 0
  pub owner : (j e : ℕ) → 1 ≤ j → j ≤ k → start_of table j ≤ e → e < at ends j → owner_on links e ≡ j

-- nothing is linked yet, and there is room for each signal's last entry
pub record Unlinked (n : ℕ) (lasts : List ℕ) : Type 0 where
  pub lasts_room : n < length lasts
  pub fresh : (s : ℕ) → at lasts s ≡ 0
