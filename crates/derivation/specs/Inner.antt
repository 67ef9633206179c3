-- How the functions inside the call run: what they promise one another, not what the call means.
use Rattle.std.specs.Prelude as prelude
use Rattle.std.specs.Prelude.{ℕ, zero, suc, ◌≤◌, min, ◌≡◌, Bool, true, false, List, [], ◌∷◌, ◌++◌, length, get_or, set, Some, None, Result, Ok, Err}
use Rattle.std.proofs.Math.Option.{Option, none, some}
use Rattle.circuit.specs.Answer.{Answer, refused, given, and_then, number_of}
use Rattle.circuit.specs.declared.refusal.Refusal.{Refusal}
use Rattle.circuit.specs.Bytes.{u16_at}
use Rattle.circuit.specs.Reader.{signals_most}
use Rattle.circuit.specs.Circuit.{constraint_at}
use Rattle.circuit.specs.Call.{circuit_call, circuit_of}
use Rattle.circuit.specs.declared.reader.Sizes.{Sizes}
use Rattle.circuit.specs.Offsets.{part_of}
use Rattle.laws.specs.Sum.{all}
use Rattle.laws.specs.Problem as laws
use Rattle.laws.specs.Problem.{Problem}
use Rattle.laws.specs.Standing as standing
use Rattle.laws.specs.Step as step
use Rattle.tags.specs.Tag.{first_bound, tagged, shown_by}
use Rattle.tags.specs.Sheet.{sheet_of}
use Rattle.rules.specs.Promise.{subject_in, kind_of, reduces}
use Rattle.rules.specs.Rows.{Row, Rows, Roomy, row_of}
use Rattle.rules.specs.declared.rows.Entry as row
use Rattle.rules.specs.declared.standing.Kind.{Kind}
use Rattle.derivation.specs.Steps.{read_step, tried, walk_from, steps_of}
use Rattle.derivation.specs.Call.{Judgement, marks_from, total, output_marked, verdict_by, derivation_call, derivation_marks}
use Rattle.derivation.specs.declared.kinds.Entry.{Entry}
use Rattle.derivation.specs.declared.step.Step.{Step}
use Rattle.derivation.specs.declared.walk.IdleSteps.{IdleSteps}
use Rattle.derivation.specs.declared.walk.IdleSteps.TheVariants.{Refused, LetPass}

-- the circuit with any first bounds: no step looks at them but through the standing
abbrev pub problem_of : List ℕ → (ℕ → ℕ) → Problem
problem_of c first = laws.given (circuit_of c) first

-- The code's enums and structs as what they stand for

abbrev pub kind_found : prelude.Option Kind → Option step.Kind
kind_found (Some kind) = some (kind_of kind)
kind_found None = none

abbrev pub names_in : Bool → laws.Names
names_in false = laws.nothing
names_in true = laws.a_constraint

-- a kind's row of the table
pub record EntryOf (kind : Kind) (e : Entry) : Type 0 where
  pub names : names_in e.names ≡ step.names_of (kind_of kind)
  pub refers : e.refers ≡ step.refers (kind_of kind)

-- the values of a field, if it names one of this many things
abbrev pub range_of : Bool → ℕ → step.Range
range_of false most = step.only_zero
range_of true most = step.from_one most

abbrev pub step_in : Step → step.Step
step_in x = record { kind = kind_of x.kind; target = x.target; constraint = x.constraint; reference = x.reference }

abbrev pub step_found : prelude.Option Step → Option step.Step
step_found (Some x) = some (step_in x)
step_found None = none

-- step k, counted from 0, is known and in range; or it is refused, whatever the standing is
abbrev pub Reads : Problem → List ℕ → ℕ → Result Step Refusal → Type 0
Reads P d k (Ok x) = (read_step d k ≡ some (step_in x)) × (step.in_range P (step_in x) ≡ true)
Reads P d k (Err r) = (padded : Bool) (S : standing.Standing) → tried padded P S (read_step d k) (suc k) ≡ refused (number_of r.reason) r.place

-- whether idle steps are let pass
abbrev pub padded_by : IdleSteps → Bool
padded_by Refused = false
padded_by LetPass = true

-- the circuit with the sheet in the bytes
abbrev pub tagged_in : List ℕ → List ℕ → Problem
tagged_in c h = tagged (circuit_of c) (sheet_of h)

-- a step as a list, empty where it is noted as idle or has no known kind
abbrev pub unnoted : Bool → Option step.Step → List step.Step
unnoted true o = []
unnoted false none = []
unnoted false (some x) = x ∷ []

-- the first k steps, less those noted as idle
unfoldable pub unflagged : List Bool → List ℕ → ℕ → List step.Step
unflagged idle d zero = []
unflagged idle d (suc k) = unflagged idle d k ++ unnoted (get_or idle k false) (read_step d k)

-- the notes, in an array with this much room, say of each step whether it is idle where it stands
pub record Noted (P : Problem) (S : standing.Standing) (d : List ℕ) (room : ℕ) (idle : List Bool) : Type 0 where
  pub tells : u16_at d 5 ≤ room → unflagged idle d (u16_at d 5) ≡ step.less_idle P S (steps_of d)

-- what follows from what was given, or what stands where it was refused
abbrev pub given_or : {A B : Type 0} → Answer A → (A → B) → B → B
given_or (refused number place) f x = x
given_or (given y) f x = f y

-- whether a step is idle; one that wasn't read isn't
abbrev pub idle_in : Problem → standing.Standing → Option step.Step → Bool
idle_in P S none = false
idle_in P S (some x) = step.is_idle P S x

-- What the notes hold after the steps from k (counted from 0) on, `left` of them: of each step taken, whether it is idle where it stands, as far as there is
-- room. The step that is refused isn't noted, nor those after it.
unfoldable pub notes_from : Bool → Problem → List ℕ → ℕ → ℕ → standing.Standing → List Bool → List Bool
notes_from padded P d k zero S notes = notes
notes_from padded P d k (suc left) S notes =
    given_or (tried padded P S (read_step d k) (suc k))
    (λ S'. notes_from padded P d (suc k) left S' (set notes k (idle_in P S (read_step d k)))) notes

-- the notes of all steps from the start that a sheet gives; a circuit that is refused leaves them as they are
abbrev pub notes_of : Bool → List ℕ → List ℕ → List ℕ → List Bool → List Bool
notes_of padded c h d notes =
    given_or (circuit_call c) (λ z. notes_from padded (tagged_in c h) d 0 (u16_at d 5) (standing.start (tagged_in c h)) notes) notes

-- All steps of d taken on S in the circuit c, whatever its first bounds: they are refused as r says, and the standing stays, or they lead to S'; and what
-- the notes hold then, which held `before`.
pub record Walks {A : Type 0} (padded : Bool) (c d : List ℕ) (S : standing.Standing) (before : List Bool) (r : Answer A) (S' : standing.Standing)
    (notes : List Bool) : Type 0 where
  pub way : (first : ℕ → ℕ) → and_then r (λ done. given S') ≡ walk_from padded (problem_of c first) d 0 (u16_at d 5) S
  pub kept : (number place : ℕ) → r ≡ refused number place → S' ≡ S
  pub noted : (first : ℕ → ℕ) → notes ≡ notes_from padded (problem_of c first) d 0 (u16_at d 5) S before

-- the call's answer, and what it leaves in the buffer that held `marks`
pub record Answers (c h d marks : List ℕ) (r : Answer Judgement) (left : List ℕ) : Type 0 where
  pub answer : r ≡ derivation_call c h d (length marks)
  pub written : left ≡ derivation_marks c h d marks

-- the judgement of a standing, with the sizes and the sheet at hand
abbrev pub judged_by : Sizes → List ℕ → standing.Standing → Judgement
judged_by z h S =
    record {
      count = total (marks_from S.marked 0 z.n);
      verdict = verdict_by (all z.o (output_marked S.marked z.i));
      shown = shown_by z.i (sheet_of h) S.bound;
    }

-- the arrays of the start of a problem with first bounds by a sheet, up to 256 inputs
abbrev pub first_view : ℕ → ℕ → List ℕ → standing.Standing
first_view p i h =
    record {
      bound = first_bound p (min i signals_most) (sheet_of h);
      marked = standing.is_input (min i signals_most);
      nonzero = standing.none_of;
    }

-- the part of the circuit bytes that a step looks at, by what its constraint field names
abbrev pub part_named : laws.Names → List ℕ → List ℕ → ℕ → List ℕ
part_named laws.nothing c table k = []
part_named laws.a_constraint c table k = part_of c table k

-- a step's rule, over that part
unfoldable pub rule_in : ℕ → ℕ → List ℕ → List ℕ → standing.Standing → step.Step → step.Rule
rule_in p n c table S x =
    step.rule x.kind (subject_in p n (part_named (step.names_of x.kind) c table x.constraint)) S x.target x.reference

-- the rows of a circuit that have been made, in arrays with room for all of them
pub record Kept (c : List ℕ) (z : Sizes) (table ends : List ℕ) (rows : List row.Entry) : Type 0 where
  pub roomy : Roomy (length c) z.m ends rows
  pub made : Rows (circuit_of c) table ends rows

-- and row k is one of them, if a step of this kind names constraint k and looks at its row
pub record Ready (q : step.Kind) (k : ℕ) (c : List ℕ) (z : Sizes) (table ends : List ℕ) (rows : List row.Entry) : Type 0 where
  pub kept : Kept c z table ends rows
  pub row : step.names_of q ≡ laws.a_constraint → reduces q ≡ true
      → Row (circuit_of c).p (circuit_of c).n (constraint_at (circuit_of c) k) (row_of table ends rows k)
