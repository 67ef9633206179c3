-- What the bounds phase keeps of each constraint: the one step by which it lowers a bound, as a key. Keys are compared as numbers.
-- How the solver runs, not what it means.
use Rattle.std.specs.Prelude.{ℕ, ◌+◌, ◌*◌, ◌≤◌, ◌<◌, ◌≡◌, true, cond, eqb, List, ◌⊎◌, length, get_or, Option, None, Some}
use Rattle.circuit.specs.Circuit.{Circuit, Constraint, constraint_at}
use Rattle.laws.specs.Standing.{Standing, at_most, none_of}
use Rattle.laws.specs.Step.{Kind, kind_number, Rule, rule}
use Rattle.rules.specs.Promise.{kind_of}
use Rattle.solver.specs.declared.keys.Key.{Key}
use Rattle.solver.specs.declared.keys.Choice.{Choice}

-- Keys

-- the key of a step: new bound, target (32 bits) and number of the kind (3 bits), as one number, so that keys are ordered as numbers are
unfoldable pub key_of : ℕ → ℕ → ℕ → ℕ
key_of bound target kind = (bound * 4294967296 + target) * 8 + kind

-- above all keys of steps
abbrev pub no_key : ℕ
no_key = 147573952589676412928

abbrev pub key_in : Key → ℕ
key_in key = key_of key.bound key.target (kind_number (kind_of key.kind))

abbrev pub least_in : Option Key → ℕ
least_in None = no_key
least_in (Some key) = key_in key

-- what is kept of a constraint: its key, or 0 where nothing is known
abbrev pub known_in : Option (Option Key) → ℕ
known_in None = 0
known_in (Some found) = least_in found

abbrev pub key_at : List (Option (Option Key)) → ℕ → ℕ
key_at keys k = known_in (get_or keys k None)

-- the lowest step so far: its key, and the place that it has by its constraint
abbrev pub least_of : Option Choice → ℕ
least_of None = no_key
least_of (Some choice) = key_in choice.key

abbrev pub place_of : Option Choice → ℕ
place_of None = 0
place_of (Some choice) = choice.constraint

abbrev pub reference_of : Option Choice → ℕ
reference_of None = 0
reference_of (Some choice) = choice.reference

-- a key whose numbers have 32 bits
pub record Narrow (key : Key) : Type 0 where
  pub bound : key.bound < 4294967296
  pub target : key.target < 4294967296

abbrev pub AllNarrow : Option Choice → Type 0
AllNarrow None = Unit {0}
AllNarrow (Some choice) = Narrow choice.key

-- the lower of the lowest step so far and that of constraint k, if it has a key; of two with equal keys the former
pub data Lower (lowest : Option Choice) (k : ℕ) : Option Key → Option Choice → Type 0 where
  no_step : Lower lowest k None lowest
  stays : {key : Key} → least_of lowest ≤ key_in key → Lower lowest k (Some key) lowest
  lowers : {key : Key} → Narrow key → key_in key < least_of lowest → Lower lowest k (Some key) (Some (record { key = key; constraint = k; reference = 0 }))

-- keys of constraints, with x at place 0
unfoldable pub with_zeroth : ℕ → (ℕ → ℕ) → ℕ → ℕ
with_zeroth x keys k = cond (eqb k 0) x (keys k)

-- bounds alone as a standing: the rules that give bounds ask for no marks
abbrev pub bounds_only : (ℕ → ℕ) → Standing
bounds_only b = record { bound = b; marked = none_of; nonzero = none_of }

-- the rule of a kind by one constraint, over bounds alone
abbrev pub rule_by : ℕ → ℕ → Constraint → (ℕ → ℕ) → Kind → ℕ → Rule
rule_by p n K b q t = rule q (record { p = p; n = n; equation = K }) (bounds_only b) t 0

-- by the constraint, a step of kind q lowers the bound of t to x
pub record LowersTo (p n : ℕ) (K : Constraint) (b : ℕ → ℕ) (q : Kind) (t x : ℕ) : Type 0 where
  pub least : 1 ≤ t
  pub most : t ≤ n
  pub meets : (rule_by p n K b q t).met ≡ true
  pub gives : (rule_by p n K b q t).change ≡ at_most x
  pub less : x < b t

-- a step by the constraint that lowers a bound and has the key
pub record Holder (p n : ℕ) (K : Constraint) (b : ℕ → ℕ) (key : ℕ) : Type 0 where
  pub kind : Kind
  pub target : ℕ
  pub bound : ℕ
  pub lowers : LowersTo p n K b kind target bound
  pub is_key : key ≡ key_of bound target (kind_number kind)

-- every step by the constraint that lowers a bound has the key; a key other than `no_key` is that of such a step
pub record IsKey (p n : ℕ) (K : Constraint) (b : ℕ → ℕ) (key : ℕ) : Type 0 where
  pub only : (q : Kind) (t x : ℕ) → LowersTo p n K b q t x → key ≡ key_of x t (kind_number q)
  pub held : (key ≡ no_key) ⊎ Holder p n K b key

-- that of constraint k, if it has one
abbrev pub IsKeyOf : Circuit → (ℕ → ℕ) → ℕ → Option Key → Type 0
IsKeyOf C b k key = IsKey C.p C.n (constraint_at C k) b (least_in key)

-- the key of each constraint
pub record Keys (C : Circuit) (b : ℕ → ℕ) (keys : List (Option (Option Key))) : Type 0 where
  pub each : (k : ℕ) → 1 ≤ k → k ≤ C.m → IsKey C.p C.n (constraint_at C k) b (key_at keys k)

-- the key of each constraint of which something is known; over bounds below p
pub record SomeKeys (C : Circuit) (b : ℕ → ℕ) (keys : List (Option (Option Key))) : Type 0 where
  pub low : (s : ℕ) → b s < C.p
  pub each : (k : ℕ) → 1 ≤ k → k ≤ C.m → (get_or keys k None ≡ None) ⊎ IsKey C.p C.n (constraint_at C k) b (key_at keys k)

-- the key of constraint k is found, and the others are kept
pub record Found (C : Circuit) (b : ℕ → ℕ) (k : ℕ) (key : Option Key) (before later : List (Option (Option Key))) : Type 0 where
  pub is_key : IsKey C.p C.n (constraint_at C k) b (least_in key)
  pub here : get_or later k None ≡ Some key
  pub kept : (j : ℕ) → (j ≡ k → ⊥) → get_or later j None ≡ get_or before j None
  pub sized : length later ≡ length before

-- r is the place of the least of the keys 0 to m, the first of them
pub record Least (keys : ℕ → ℕ) (m r : ℕ) : Type 0 where
  pub within : r ≤ m
  pub least : (k : ℕ) → k ≤ m → keys r ≤ keys k
  pub first : (k : ℕ) → k < r → keys r < keys k
