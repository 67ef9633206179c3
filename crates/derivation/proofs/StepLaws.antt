-- Laws of the walk in the code's terms: a step read from its bytes, its rule over the part that it names, and the turns of the loop.
use Prim.Native.Nat.{ℕ, suc, ◌+◌, ◌-◌, ◌/◌, ◌≤◌, ◌<◌}
use mathlib.Core.Path.{◌≡◌, refl, sym, ◌∙◌}
use mathlib.Core.Bool.{Bool, true, false, not, ◌&&◌, ◌||◌}
use mathlib.Core.List.{List, []}
use mathlib.Core.Logic.{inl, ⊎_elim}
use native.Mathlib.Numerals.{add-one}
use native.Mathlib.Omega.{arith}
use borrow.Author.Tests.{not-true}
use lib.ListN.{length, drop, take, get_or, set}
use lib.Seq.{drop-length}
use Rattle.std.specs.Prelude as prelude
use Rattle.std.specs.Prelude.{Some, None, Ok, Err}
use Rattle.std.specs.Option.{ok_or}
use Rattle.circuit.specs.Bytes.{byte_at, u16_at}
use Rattle.circuit.specs.Circuit.{no_constraint, constraint_at}
use Rattle.circuit.specs.Reader.{after_form, terms_in, form_in, constraint_in}
use Rattle.circuit.specs.Answer.{Answer, refused, given, ask, and_then, number_of}
use Rattle.circuit.specs.Offsets.{Offsets}
use Rattle.circuit.specs.declared.reader.Sizes.{Sizes}
use Rattle.circuit.specs.declared.refusal.Refusal.{Refusal}
use Rattle.circuit.specs.declared.file.CircuitFile.{CircuitFile}
use Rattle.circuit.specs.declared.file.Constraints.{Constraints}
use Rattle.circuit.specs.Call.{circuit_of, Sized}
use Rattle.circuit.proofs.ReaderLaws.{part_drop}
use Rattle.circuit.proofs.OffsetLaws.{sized_part}
use Rattle.circuit.proofs.Sized.{call_sized}
use Rattle.laws.specs.Problem.{Problem, Names, nothing, a_constraint, equation_at}
use Rattle.laws.specs.Standing.{Standing}
use Rattle.laws.specs.Step.{Kind, names_of, Step, within, inside, named, constraints, references}
use Rattle.laws.specs.Step.{in_range, rule, rule_of, met, change, is_idle, after}
use Rattle.laws.proofs.Sum.{and_left, and_right, true_or_false}
use Rattle.laws.proofs.Sound.{within_least, within_most}
use Rattle.rules.specs.Promise as promise
use Rattle.rules.specs.Promise.{subject_in, reduces, Taken, Gives, Asked}
use Rattle.rules.specs.Rows.{at, Row, row_of, RowMade}
use Rattle.rules.specs.declared.rows.Entry.{Entry}
use Rattle.rules.specs.declared.standing.Outcome.{Outcome}
use Rattle.derivation.specs.Steps.{read_step, tried, walk_from}
use Rattle.derivation.specs.Inner.{problem_of, step_in, given_or, idle_in, notes_from, Reads, Kept, Ready, part_named, rule_in, Walks}
use Rattle.derivation.specs.declared.step.Step as code

-- What a step looks at

-- the fields of a step are in range
record Ranged (P : Problem) (x : Step) : Type 0 where
  target : within P.n x.target ≡ true
  constraint : inside (constraints x.kind P) x.constraint ≡ true
  reference : inside (references x.kind P) x.reference ≡ true

pub nothing_named : (c : List ℕ) → take (length c - length c) (drop (length c) c) ≡ []
nothing_named c = part_drop c (length c) (omega arith) ∙ drop-length c

no_constraint_lem : constraint_in [] ≡ no_constraint
unfolding constraint_in after_form form_in terms_in byte_at
no_constraint_lem = refl

module _ {c : List ℕ} {z : Sizes} {table : List ℕ} (Z : Sized c z) (O : Offsets c z.m table) (first : ℕ → ℕ) where
  equation_is : (f : Names) (k : ℕ) → inside (named f (problem_of c first)) k ≡ true → constraint_in (part_named f c table k) ≡ equation_at f (problem_of c first) k
  equation_is nothing k e = no_constraint_lem
  equation_is a_constraint k e = sized_part Z O k (within_least _ _ e) (omega (arith, within_most _ _ e, Z.is_m))

  module _ (x : Step) (ranged : in_range (problem_of c first) x ≡ true) where
    fields : Ranged (problem_of c first) x
    unfolding in_range
    fields =
        let P = problem_of c first in
        let f = and_right (within P.n x.target) _ ranged in
        record {
          target = and_left (within P.n x.target) _ ranged;
          constraint = and_left (inside (constraints x.kind P) x.constraint) _ f;
          reference = and_right (inside (constraints x.kind P) x.constraint) _ f;
        }

    -- the constraint that a step names is one of the circuit's
    pub constraint_named : names_of x.kind ≡ a_constraint → (1 ≤ x.constraint) × (x.constraint ≤ z.m)
    constraint_named e =
        let k : within (circuit_of c).m x.constraint ≡ true = rw e at fields.constraint in
        (within_least _ _ k, omega (arith, within_most _ _ k, Z.is_m))

    -- what the code asks is the rule of the step
    pub rule_is : (S : Standing) → rule_in z.p z.n c table S x ≡ rule_of (problem_of c first) S x
    unfolding rule_in rule_of
    rule_is S = rw (Z.is_p, Z.is_n, equation_is (names_of x.kind) x.constraint fields.constraint)

    pub step_asked : {row : List Entry}
        → (names_of x.kind ≡ a_constraint → reduces x.kind ≡ true
        → Row (circuit_of c).p (circuit_of c).n (constraint_at (circuit_of c) x.constraint) row)
        → Asked x.kind z.p z.n (part_named (names_of x.kind) c table x.constraint) row x.target x.reference
    step_asked known =
        record {
          prime = rw Z.is_p Z.formed.prime;
          few = omega (arith, Z.formed.n_most, Z.is_n);
          least = within_least _ _ fields.target;
          most = omega (arith, within_most _ _ fields.target, Z.is_n);
          reference = λ e.
              let r : within (circuit_of c).n x.reference ≡ true = rw e at fields.reference in
              (within_least _ _ r, omega (arith, within_most _ _ r, Z.is_n));
          by_row = λ e f. rw (Z.is_p, Z.is_n, equation_is (names_of x.kind) x.constraint fields.constraint, e) (known e f);
        }

-- whether it is idle, by what became of an `Option` of that
pub idle_none : (o : prelude.Option Bool) (r : Refusal) {q : Refusal} → ok_or o r ≡ Err q → (o ≡ None) × (q ≡ r)
idle_none None r e = (refl, cc)
idle_none (Some b) r e = let z : ◌≡◌ {A = ℕ} 0 1 = cc in absurd (omega arith)

pub idle_some : (o : prelude.Option Bool) (r : Refusal) {b : Bool} → ok_or o r ≡ Ok b → o ≡ Some b
idle_some None r e = let z : ◌≡◌ {A = ℕ} 0 1 = cc in absurd (omega arith)
idle_some (Some x) r e = cc

-- Rows that are made

-- no row is made yet
pub none_made : {c : List ℕ} {z : Sizes} {table ends : List ℕ} {rows : List Entry} → Sized c z → length ends ≡ 513
    → ((k : ℕ) → k < 513 → get_or ends k 0 ≡ 0) → length c / 6 + z.m + 1 ≤ length rows → Kept c z table ends rows
unfolding at
none_made {z = z} Z long zeros room =
    let few : z.m ≤ 512 = omega (arith, Z.formed.m_most, Z.is_m) in
    record {
      roomy = record { ends_room = omega arith; rows_room = room };
      made = record { each = λ k l h. inl (zeros k (omega (arith, h, Z.is_m))) };
    }

module _ {q : Kind} {k : ℕ} {c : List ℕ} {z : Sizes} {table ends : List ℕ} {rows : List Entry} (K : Kept c z table ends rows) where
  -- a row that is asked for is made, or was
  pub row_ready : {ends' : List ℕ} {rows' : List Entry} → Sized c z → length ends' ≡ length ends → length rows' ≡ length rows → (1 ≤ k) × (k ≤ z.m)
      → RowMade (circuit_of c) table k ends rows ends' rows' → Ready q k c z table ends' rows'
  row_ready Z e f h M =
      record {
        kept = record { roomy = record { ends_room = omega (arith, K.roomy.ends_room); rows_room = omega (arith, K.roomy.rows_room) }; made = M.all };
        row = λ _ _. ⊎_elim (λ z. absurd (M.made z)) (λ r. r) (M.all.each k h.0 (omega (arith, h.1, Z.is_m)));
      }

  -- a row at which no step of this kind looks need not be there, since it names nothing or its rule looks at no row
  pub row_unnamed : nothing ≡ names_of q → Ready q k c z table ends rows
  row_unnamed n = record { kept = K; row = λ e f. let none : nothing ≡ a_constraint = n ∙ e in let z : ◌≡◌ {A = ℕ} 0 1 = cc in absurd (omega arith) }

  pub row_idle : reduces q ≡ false → Ready q k c z table ends rows
  row_idle i = record { kept = K; row = λ e f. true_or_false (reduces q) f i }

-- a step that was read, its row kept, the part and the row that its rule is asked by, and what it gives
pub step_taken : {t : CircuitFile} (C : Constraints) → C.file ≡ t → (first : ℕ → ℕ) (d : List ℕ) (k : ℕ) (x : code.Step)
    → ((P : Problem) → P.n ≡ t.sizes.n → P.m ≡ t.sizes.m → Reads P d k (Ok x))
    → {ends ends' part : List ℕ} {rows rows' row : List Entry} {t' c' r' : ℕ} → Kept t.bytes.now t.sizes C.offsets ends rows
    → t' ≡ x.target → c' ≡ x.constraint → r' ≡ x.reference
    → (Kept C.file.bytes.now C.file.sizes C.offsets ends rows
    → (names_of (promise.kind_of x.kind) ≡ a_constraint → (1 ≤ c') × (c' ≤ C.file.sizes.m))
    → Ready (promise.kind_of x.kind) c' C.file.bytes.now C.file.sizes C.offsets ends' rows')
    → part ≡ part_named (names_of (promise.kind_of x.kind)) t.bytes.now C.offsets c' → row ≡ row_of C.offsets ends' rows' c'
    → (S : Standing) (o : Outcome)
    → ((n : ℕ) → Asked (promise.kind_of x.kind) t.sizes.p n part row t' r'
    → Gives t.sizes.p o S t' (rule (promise.kind_of x.kind) (subject_in t.sizes.p n part) S t' r'))
    → Kept t.bytes.now t.sizes C.offsets ends' rows' × Gives t.sizes.p o S x.target (rule_of (problem_of t.bytes.now first) S (step_in x))
unfolding rule_in
step_taken {t} C is first d k x reads K target constraint reference keeps is-part is-row S o gives =
    let Z = call_sized t.read in
    let P = problem_of t.bytes.now first in
    let O = rw is at C.placed in
    let ranged = (reads P (sym Z.is_n) (sym Z.is_m)).1 in
    let ready = (rw (is, constraint) at keeps) K (constraint_named Z O first (step_in x) ranged) in
    let asked = step_asked Z O first (step_in x) ranged ready.row in
    let given = rw (target, reference, rw constraint at is-part, rw constraint at is-row) at (gives t.sizes.n) in
    (ready.kept, rw (← (rule_is Z O first (step_in x) ranged S)) (given asked))

let-pass : (same padded : Bool) → (same && not padded) ≡ false → (padded || not same) ≡ true
let-pass same true e = refl
let-pass true false e = sym e
let-pass false false e = refl

-- The turns of the loop

-- before step k: the whole walk from S₀ is what is left of it from S, and so are its notes, which held `before`
pub record Walking (padded : Bool) (P : Problem) (d : List ℕ) (S₀ : Standing) (before notes : List Bool) (k : ℕ) (S : Standing) : Type 0 where
  pub left : walk_from padded P d 0 (u16_at d 5) S₀ ≡ walk_from padded P d k (u16_at d 5 - k) S
  pub noted : notes_from padded P d 0 (u16_at d 5) S₀ before ≡ notes_from padded P d k (u16_at d 5 - k) S notes

-- what the whole walk answers, and its notes
abbrev pub Ends : Bool → Problem → List ℕ → Standing → List Bool → Answer Standing → List Bool → Type 0
Ends padded P d S₀ before r notes = (r ≡ walk_from padded P d 0 (u16_at d 5) S₀) × (notes ≡ notes_from padded P d 0 (u16_at d 5) S₀ before)

pub walk_starts : {padded : Bool} {P : Problem} {d : List ℕ} {notes : List Bool} {S : Standing} → Walking padded P d S notes notes 0 S
walk_starts {d = d} =
    let all : u16_at d 5 - 0 ≡ u16_at d 5 = omega arith in
    record { left = rw all; noted = rw all }

module _ {padded : Bool} {P : Problem} {d : List ℕ} {S₀ : Standing} {before notes : List Bool} {k : ℕ} {S : Standing}
    (W : Walking padded P d S₀ before notes k S) where
  pub walk_ended : u16_at d 5 ≤ k → Ends padded P d S₀ before (given S) notes
  unfolding walk_from notes_from
  walk_ended h =
      let z : u16_at d 5 - k ≡ 0 = omega arith in
      (sym (W.left ∙ rw z), sym (W.noted ∙ rw z))

  module _ (some_left : k < u16_at d 5) where
    turn : walk_from padded P d 0 (u16_at d 5) S₀ ≡ and_then (tried padded P S (read_step d k) (suc k)) (walk_from padded P d (k + 1) (u16_at d 5 - (k + 1)))
    unfolding walk_from
    turn = W.left ∙ (let z : u16_at d 5 - k ≡ suc (u16_at d 5 - (k + 1)) = omega arith in rw (z, add-one k))

    turn_noted : notes_from padded P d 0 (u16_at d 5) S₀ before
        ≡ given_or (tried padded P S (read_step d k) (suc k))
        (λ S'. notes_from padded P d (k + 1) (u16_at d 5 - (k + 1)) S' (set notes k (idle_in P S (read_step d k)))) notes
    unfolding notes_from
    turn_noted = W.noted ∙ (let z : u16_at d 5 - k ≡ suc (u16_at d 5 - (k + 1)) = omega arith in rw (z, add-one k))

    -- step k is refused
    stopped : {number place : ℕ} → tried padded P S (read_step d k) (suc k) ≡ refused number place → Ends padded P d S₀ before (refused number place) notes
    stopped e = (sym (turn ∙ rw e), sym (turn_noted ∙ rw e))

    pub walk_refused : (r : Refusal) → Reads P d k (Err r) → Ends padded P d S₀ before (refused (number_of r.reason) r.place) notes
    walk_refused r R = stopped (R padded S)

    -- step k, by whether it is met and idle
    module _ (x : code.Step) (R : Reads P d k (Ok x)) where
      tried_is : tried padded P S (read_step d k) (suc k)
          ≡ ask (rule_of P S (step_in x)).met 17 (suc k)
          (ask (padded || not (is_idle P S (step_in x))) 29 (suc k) (given (after P S (step_in x))))
      unfolding met
      tried_is = rw (R.0, R.1)

      pub walk_unmet : (rule_of P S (step_in x)).met ≡ false → Ends padded P d S₀ before (refused 17 (k + 1)) notes
      walk_unmet e = stopped (rw (tried_is, e, add-one k))

      module _ {idle : Bool} {next : Standing} (T : Taken idle next S x.target (rule_of P S (step_in x))) where
        next_is : next ≡ after P S (step_in x)
        unfolding after change
        next_is = T.after

        idle_is : idle ≡ is_idle P S (step_in x)
        unfolding change
        idle_is = T.idle

        pub walk_idle : (idle && not padded) ≡ true → Ends padded P d S₀ before (refused 29 (k + 1)) notes
        walk_idle e =
            let same : is_idle P S (step_in x) ≡ true = sym idle_is ∙ and_left idle (not padded) e in
            stopped (rw (tried_is, T.met, same, not-true padded (and_right idle (not padded) e), add-one k))

        pub walk_on : (idle && not padded) ≡ false → {later : List Bool} → later ≡ set notes k idle
            → Walking padded P d S₀ before later (k + 1) next
        walk_on pass {later} is =
            let goes : tried padded P S (read_step d k) (suc k) ≡ given next = rw (tried_is, T.met, ← idle_is, let-pass idle padded pass, ← next_is) in
            record { left = turn ∙ rw goes; noted = turn_noted ∙ rw (goes, is, R.0, ← idle_is) }

-- The walk

-- it is refused ..
pub walks_refused : {A : Type 0} {padded : Bool} {c d : List ℕ} {S : Standing} {before notes : List Bool} {number place : ℕ}
    → ((first : ℕ → ℕ) → Ends padded (problem_of c first) d S before (refused number place) notes)
    → Walks {A = A} padded c d S before (refused number place) S notes
walks_refused E = record { way = λ first. (E first).0; kept = λ number place e. refl; noted = λ first. (E first).1 }

-- .. or comes to its end
pub walks_ended : {A : Type 0} {done : A} {padded : Bool} {c d : List ℕ} {S : Standing} {before notes : List Bool} {k : ℕ} {S' : Standing}
    → ((first : ℕ → ℕ) → Walking padded (problem_of c first) d S before notes k S') → u16_at d 5 ≤ k
    → Walks padded c d S before (given done) S' notes
walks_ended W last =
    record {
      way = λ first. (walk_ended (W first) last).0;
      kept = λ number place e. let z : ◌≡◌ {A = ℕ} 0 1 = cc in absurd (omega arith);
      noted = λ first. (walk_ended (W first) last).1;
    }
