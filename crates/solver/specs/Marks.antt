-- What the marks phase keeps of each constraint: its first step that marks an unmarked signal, as a key. How the solver runs, not what it means.
use Rattle.std.specs.Prelude.{ℕ, ◌≤◌, ◌≡◌, Bool, true, false, not, ◌&&◌, List, ◌⊎◌, ⊤, length, get_or, Option, None, Some}
use Rattle.circuit.specs.Circuit.{Circuit, Constraint, constraint_at}
use Rattle.laws.specs.Rules.{linear, reduced, zero_met, product_met, digits_met, quotient_met}
use Rattle.laws.specs.Step.{Kind, Zero, Product, Digits, Quotient, kind_number}
use Rattle.rules.specs.Promise.{kind_of}
use Rattle.rules.specs.Weights.{LowestLive}
use Rattle.solver.specs.Bounds.{key_of, no_key, least_of, place_of, reference_of, AllNarrow, with_zeroth, Least}
use Rattle.solver.specs.declared.keys.Choice.{Choice}
use Rattle.solver.specs.declared.marking.Candidate.{Candidate}

-- Steps that mark

-- a target of 1 to n that isn't marked
pub record Unmarked (m : ℕ → Bool) (n t : ℕ) : Type 0 where
  pub least : 1 ≤ t
  pub most : t ≤ n
  pub free : m t ≡ false

-- a step of this kind by the constraint marks t, with reference r; nz are the nonzero marks, which stay in this phase
pub data MarksBy (p n : ℕ) (K : Constraint) (b : ℕ → ℕ) (m nz : ℕ → Bool) : Kind → ℕ → ℕ → Type 0 where
  product : {t : ℕ} → Unmarked m n t → product_met K m t ≡ true → MarksBy p n K b m nz Product t 0
  digits : {t r : ℕ} → Unmarked m n t → 1 ≤ r → r ≤ n → digits_met p n K b m t r ≡ true → MarksBy p n K b m nz Digits t r
  quotient : {t r : ℕ} → Unmarked m n t → 1 ≤ r → r ≤ n → quotient_met K m nz t r ≡ true → MarksBy p n K b m nz Quotient t r

-- .. by no constraint
pub data MarksZero (n : ℕ) (b : ℕ → ℕ) (m : ℕ → Bool) : Kind → ℕ → ℕ → Type 0 where
  zero : {t : ℕ} → Unmarked m n t → zero_met b t ≡ true → MarksZero n b m Zero t 0

-- an unmarked signal with bound 0
unfoldable pub zero_at : (ℕ → ℕ) → (ℕ → Bool) → ℕ → Bool
zero_at b m t = zero_met b t && not (m t)

-- the lowest signal of 1 to n that passes the test, if one does
abbrev pub First : (ℕ → Bool) → ℕ → Option ℕ → Type 0
First test n None = (s : ℕ) → 1 ≤ s → s ≤ n → test s ≡ true → ⊥
First test n (Some t) = (1 ≤ t) × (t ≤ n) × (test t ≡ true) × ((s : ℕ) → 1 ≤ s → test s ≡ true → t ≤ s)

-- Keys

-- the key of a step that marks: target and number of the kind; a mark has no new bound
abbrev pub mark_key : Kind → ℕ → ℕ
mark_key q t = key_of 0 t (kind_number q)

-- the step of these that has the key and the reference
pub record KeyHolder (Q : Kind → ℕ → ℕ → Type 0) (key reference : ℕ) : Type 0 where
  pub kind : Kind
  pub target : ℕ
  pub is : Q kind target reference
  pub is_key : key ≡ mark_key kind target

-- the key and the reference of the first of these steps; `no_key` where there is none
pub record FirstKey (Q : Kind → ℕ → ℕ → Type 0) (key reference : ℕ) : Type 0 where
  pub low : (q : Kind) (t r : ℕ) → Q q t r → (key ≤ mark_key q t) × (key ≡ mark_key q t → reference ≤ r)
  pub held : (key ≡ no_key) ⊎ KeyHolder Q key reference

-- the first zero step, by no constraint
pub record ZeroStep (n : ℕ) (b : ℕ → ℕ) (m : ℕ → Bool) (found : Option Choice) : Type 0 where
  pub first : FirstKey (MarksZero n b m) (least_of found) 0
  pub place : place_of found ≡ 0
  pub alone : reference_of found ≡ 0
  pub narrow : AllNarrow found

-- a loose key, of a linear constraint: the first digits step if some reference separates the unmarked signals
pub record Loose (p n : ℕ) (K : Constraint) (m : ℕ → Bool) (key : ℕ) : Type 0 where
  pub is_linear : linear K ≡ true
  pub target : ℕ
  pub first : LowestLive n (reduced p K) m target
  pub is_key : key ≡ mark_key Digits target

-- a reference as a field of a step, 0 where there is none
abbrev pub reference_in : Option ℕ → ℕ
reference_in None = 0
reference_in (Some r) = r

-- what is kept of a constraint where something is known; there is no reference while the key is loose
pub data Known (p n : ℕ) (K : Constraint) (b : ℕ → ℕ) (m nz : ℕ → Bool) (key : ℕ) (reference : Option ℕ) : Type 0 where
  loose : reference ≡ None → Loose p n K m key → Known p n K b m nz key reference
  exact : FirstKey (MarksBy p n K b m nz) key (reference_in reference) → Known p n K b m nz key reference

-- What is kept of the constraints

abbrev pub found_key : Option Candidate → ℕ
found_key None = no_key
found_key (Some x) = mark_key (kind_of x.kind) x.target

abbrev pub found_reference : Option Candidate → Option ℕ
found_reference None = None
found_reference (Some x) = x.reference

-- what is kept of a constraint is known, and gives no step below the lowest so far
abbrev pub Passed : Option Choice → Option (Option Candidate) → Type 0
Passed lowest None = ⊥
Passed lowest (Some None) = ⊤
Passed lowest (Some (Some x)) = least_of lowest ≤ found_key (Some x)

-- the key, 0 where nothing is known
abbrev pub known_key : Option (Option Candidate) → ℕ
known_key None = 0
known_key (Some found) = found_key found

abbrev pub known_reference : Option (Option Candidate) → Option ℕ
known_reference None = None
known_reference (Some found) = found_reference found

abbrev pub mark_keys : List (Option (Option Candidate)) → ℕ → ℕ
mark_keys kept k = known_key (get_or kept k None)

abbrev pub mark_references : List (Option (Option Candidate)) → ℕ → Option ℕ
mark_references kept k = known_reference (get_or kept k None)

-- what is found of constraint k
abbrev pub IsKnown : Circuit → (ℕ → ℕ) → (m nz : ℕ → Bool) → ℕ → Option Candidate → Type 0
IsKnown C b m nz k found = Known C.p C.n (constraint_at C k) b m nz (found_key found) (found_reference found)

-- what is known of each constraint of which something is
pub record MarkKeys (C : Circuit) (b : ℕ → ℕ) (m nz : ℕ → Bool) (kept : List (Option (Option Candidate))) : Type 0 where
  pub each : (k : ℕ) → 1 ≤ k → k ≤ C.m
      → (get_or kept k None ≡ None) ⊎ Known C.p C.n (constraint_at C k) b m nz (mark_keys kept k) (mark_references kept k)

-- constraint k has been looked at: something is known of it, and what is known of the others is as before
pub record Looked (C : Circuit) (b : ℕ → ℕ) (m nz : ℕ → Bool) (k : ℕ) (found : Option Candidate) (before later : List (Option (Option Candidate)))
    : Type 0 where
  pub known : Known C.p C.n (constraint_at C k) b m nz (found_key found) (found_reference found)
  pub here : get_or later k None ≡ Some found
  pub others : (j : ℕ) → (j ≡ k → ⊥) → get_or later j None ≡ get_or before j None
  pub sized : length later ≡ length before

-- constraints 1 to k have been looked at, and x is the key of the zero steps: the key at r is exact, the least, and the first of the least
pub record Swept (C : Circuit) (b : ℕ → ℕ) (m nz : ℕ → Bool) (x k r : ℕ) (kept : List (Option (Option Candidate))) : Type 0 where
  pub known : MarkKeys C b m nz kept
  pub zeros : FirstKey (MarksZero C.n b m) x 0
  pub least : Least (with_zeroth x (mark_keys kept)) k r
  pub exact : 1 ≤ r → FirstKey (MarksBy C.p C.n (constraint_at C r) b m nz) (mark_keys kept r) (reference_in (mark_references kept r))
