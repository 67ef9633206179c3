-- The call from what its parts answer: the three phases one after the other, the bytes that they leave, and the answer.
use Prim.Native.Nat.{ℕ, ◌+◌, ◌*◌, ◌≤◌, ◌<◌, min}
use mathlib.Core.Path.{◌≡◌, refl, sym, ap, ◌∙◌}
use mathlib.Core.Bool.{Bool, true, false}
use mathlib.Core.List.{List, ◌++◌, append_assoc}
use native.Mathlib.Omega.{arith}
use lib.Dec.{leb}
use lib.ListN.{length, drop, replicate, length-append, length-replicate}
use borrow.Author.Tests.{le-leb, lt-leb}
use Rattle.circuit.specs.Circuit.{Circuit, WellFormed}
use Rattle.circuit.specs.Answer.{Answer, refused, given, ask}
use Rattle.circuit.specs.Call.{circuit_of, circuit_call, Sized}
use Rattle.circuit.specs.declared.reader.Sizes.{Sizes}
use Rattle.circuit.proofs.Sized.{call_sized}
use Rattle.laws.specs.Problem.{Problem, largest}
use Rattle.laws.specs.Standing.{Standing, none_of, start, marks, nonzeros}
use Rattle.laws.specs.Solver.{best_bound, first_adding, turns, bound_steps, bounded, nonzero_steps, excluded, mark_steps, solution}
use Rattle.laws.proofs.Order.{replay_append}
use Rattle.laws.proofs.Solution.{solution_length}
use Rattle.tags.specs.Tag.{Sheet, tagged}
use Rattle.tags.specs.Sheet.{sheet_of, sheet_on, Unrefused}
use Rattle.tags.specs.Tagged.{tagged_call}
use Rattle.tags.proofs.SheetLaws.{sized_unrefused, tagged_refused}
use Rattle.tags.proofs.TaggedLaws.{first_most}
use Rattle.derivation.specs.Encoded.{header_bytes, steps_bytes, encoded, stored}
use Rattle.derivation.specs.Inner.{tagged_in, judged_by, first_view}
use Rattle.derivation.proofs.CallLaws.{start_is, judged_is}
use Rattle.derivation.proofs.Encoding.{encoded_lists}
use Rattle.derivation.proofs.Written.{written_append, header_written}
use Rattle.solver.specs.Call.{Solved, own, reached, solved, room_for, solver_on, solver_call, left_by, solver_output}
use Rattle.laws.specs.Problem as laws
use Rattle.laws.proofs.Turns.{turns_short}
use Rattle.laws.proofs.Greedy.{reached_start, bound_phase}
use Rattle.rules.proofs.ViewLaws.{get_d_repeated}
use Rattle.rules.specs.Rows.{at}
use Rattle.rules.specs.declared.rows.Entry.{Entry}
use Rattle.rules.specs.Rows.{places}
use Rattle.solver.specs.Links.{Blank, Unlinked}
use Rattle.solver.specs.declared.links.Link.{Link}
use Rattle.laws.specs.Step.{Step, replay}
use Rattle.solver.specs.Phases.{Lowered, Excluded, Marked, Taken}
use Rattle.solver.specs.Demand.{Demand}
use Rattle.solver.specs.Inner.{Solves}
use Rattle.solver.proofs.Demand.{call_on, output_on, demand}

-- A circuit or a sheet that is refused

solves_refused : {c h output : List ℕ} {number place : ℕ} → refused number place ≡ solver_call c h (length output)
    → Solves c h output (refused number place) output
unfolding solver_output
solves_refused e = record { answer = e; written = rw (← e) }

pub call_refused : {c h output : List ℕ} {number place : ℕ} → refused number place ≡ tagged_call c h → Solves c h output (refused number place) output
unfolding solver_call
call_refused {c} {h} {output} e =
    solves_refused (tagged_refused c h (λ (C : Circuit) (T : Sheet). solver_on (tagged C T) T (length output)) e)

-- A circuit and a sheet that aren't refused

-- what a circuit with a sheet says of both
pub record Taking (c h : List ℕ) (z : Sizes) : Type 0 where
  pub sized : Sized c z
  pub sheeted : sheet_on z h ≡ given (sheet_of h)

pub taking : {c h : List ℕ} {z : Sizes} → circuit_call c ≡ given z → sheet_on z h ≡ given (sheet_of h) → Taking c h z
taking read fits = record { sized = call_sized read; sheeted = fits }

module _ {c h : List ℕ} {z : Sizes} (K : Taking c h z) where
  abbrev C : Circuit
  C = circuit_of c

  abbrev T : Sheet
  T = sheet_of h

  abbrev P : Problem
  P = tagged_in c h

  abbrev Z : Sized c z
  Z = K.sized

  abbrev U : Unrefused c h C T
  U = sized_unrefused K.sized K.sheeted

  abbrev W : WellFormed C
  W = Z.formed

  -- refusal 25
  pub room_short : {output : List ℕ} → length output < 7 + 21 * z.n
      → Solves c h output (refused 25 0) output
  room_short {output} short =
      let few : leb (room_for C.n) (length output) ≡ false = lt-leb (room_for C.n) (length output) (omega (arith, Z.is_n)) in
      solves_refused (sym (call_on output U ∙ ap (λ (b : Bool). ask b 25 0 (given (solved P T))) few))

  -- the start
  pub start_low : {S : Standing} → S ≡ first_view z.p z.i h → (s : ℕ) → S.bound s < z.p
  start_low e s = rw e (omega (arith, first_most z.p (min z.i 256) T s, Z.is_p, W.p_least))

  -- after the phases
  module _ {output output₂ : List ℕ} {S S₂ : Standing} {steps : ℕ} (first : S ≡ first_view z.p z.i h) (L : Taken P S S₂ output output₂ steps)
      (roomy : 7 + 21 * z.n ≤ length output) where
    begin : S ≡ start P
    begin = start_is c z Z h first

    bounds_are : turns (best_bound P) P P.n S ≡ bound_steps P
    unfolding bound_steps
    bounds_are = rw begin refl

    bounded_at : L.bounded ≡ bounded P
    bounded_at = L.lowers.reached ∙ rw (bounds_are, begin) refl

    nonzeros_are : turns (first_adding nonzeros P) P P.n L.bounded ≡ nonzero_steps P
    unfolding nonzero_steps
    nonzeros_are = rw bounded_at refl

    excluded_at : L.excluded ≡ excluded P
    excluded_at = L.excludes.reached ∙ rw (nonzeros_are, bounded_at) refl

    marks_are : turns (first_adding marks P) P P.n L.excluded ≡ mark_steps P
    unfolding mark_steps
    marks_are = rw excluded_at refl

    lowerings_counted : L.lowerings ≡ length (bound_steps P)
    lowerings_counted = omega (arith, L.lowers.counted, ap length bounds_are)

    before_counted : L.before_marks ≡ length (bound_steps P ++ nonzero_steps P)
    before_counted =
        omega (arith, L.excludes.counted, ap length nonzeros_are, lowerings_counted, length-append (bound_steps P) (nonzero_steps P))

    -- the steps of all phases
    in_order : bound_steps P ++ nonzero_steps P ++ mark_steps P ≡ solution P
    unfolding solution
    in_order = append_assoc (bound_steps P) (nonzero_steps P) (mark_steps P)

    steps_counted : steps ≡ length (solution P)
    steps_counted =
        omega (
          arith,
          L.marks.counted,
          ap length marks_are,
          before_counted,
          length-append (bound_steps P ++ nonzero_steps P) (mark_steps P),
          ap length in_order,
        )

    pub steps_small : steps ≤ 768
    steps_small = omega (arith, steps_counted, solution_length P, W.n_most)

    reached_view : S₂ ≡ reached P
    unfolding reached
    reached_view =
        L.marks.reached
        ∙ rw (marks_are, excluded_at) refl
        ∙ ap (λ (Z : Standing). replay P Z (mark_steps P)) (sym (replay_append P (start P) (bound_steps P) (nonzero_steps P)))
        ∙ sym (replay_append P (start P) (bound_steps P ++ nonzero_steps P) (mark_steps P))
        ∙ ap (replay P (start P)) in_order

    first_written : L.lowered_output ≡ stored output 7 (steps_bytes (bound_steps P))
    first_written = L.lowers.written ∙ rw bounds_are refl

    second_written : L.excluded_output ≡ stored output 7 (steps_bytes (bound_steps P ++ nonzero_steps P))
    second_written =
        L.excludes.written
        ∙ rw (nonzeros_are, lowerings_counted) refl
        ∙ written_append output L.lowered_output 7 (bound_steps P) (nonzero_steps P) first_written

    all_written : output₂ ≡ stored output 7 (steps_bytes (solution P))
    all_written =
        L.marks.written
        ∙ rw (marks_are, before_counted) refl
        ∙ written_append output L.excluded_output 7 (bound_steps P ++ nonzero_steps P) (mark_steps P) second_written
        ∙ ap (λ (xs : List Step). stored output 7 (steps_bytes xs)) in_order

    own_length : length (own P) ≡ 7 + 7 * length (solution P)
    unfolding own
    own_length = (encoded_lists (solution P)).sized

    fits : leb (room_for C.n) (length output) ≡ true
    fits = le-leb (room_for C.n) (length output) (omega (arith, Z.is_n))

    -- the answer, and what is left once the header is written too
    pub solves : {r : Answer Solved} → r ≡ given (record { judgement = judged_by z h S₂; bytes = 7 + 7 * steps }) → {output₃ : List ℕ}
        → output₃ ≡ stored output₂ 0 (header_bytes steps) → Solves c h output r output₃
    unfolding own solved
    solves e w =
        let room : 7 + 7 * length (solution P) ≤ length output = omega (arith, solution_length P, Z.is_n) in
        record {
          answer =
              e
              ∙ rw (judged_is c z Z h S₂, reached_view, steps_counted, sym own_length)
              (sym (call_on output U ∙ ap (λ (b : Bool). ask b 25 0 (given (solved P T))) fits));
          written =
              w
              ∙ ap (λ (k : ℕ). stored output₂ 0 (header_bytes k)) steps_counted
              ∙ header_written output output₂ (solution P) all_written room
              ∙ ap (λ (k : ℕ). encoded (solution P) ++ drop k output) (sym own_length)
              ∙ sym (output_on output U ∙ ap (λ (b : Bool). left_by (ask b 25 0 (given (solved P T))) P output) fits);
        }

-- DEMAND 3 of an answer that is the call's and of what it leaves
pub demanded : {c h output : List ℕ} {r : Answer Solved} {left : List ℕ} → Solves c h output r left → Demand c h output r left
demanded {c} {h} {output} A = rw (A.answer, A.written) (demand c h output)

-- Between the parts

-- the bounds phase takes at most n steps, whichever the first bounds are
pub bounds_few : {c : List ℕ} {z : Sizes} {S S' : Standing} {output output' : List ℕ} {count : ℕ} → Sized c z
    → ((f : ℕ → ℕ) → Lowered (laws.given (circuit_of c) f) S S' output output' count) → count ≤ z.n
bounds_few {c} {z} {S = S} Z L =
    let P = laws.given (circuit_of c) (largest z.p) in
    omega (arith, (L (largest z.p)).counted, turns_short (bound_phase P) P.n none_of S (reached_start P S), Z.is_n)

-- the phases, each on what the one before it left
pub all_taken : {P : Problem} {S S₁ S₂ S₃ : Standing} {output output₁ output₂ output₃ : List ℕ} {base before steps : ℕ}
    → Lowered P S S₁ output output₁ base → Excluded P S₁ S₂ output₁ output₂ base before → Marked P S₂ S₃ output₂ output₃ before steps
    → Taken P S S₃ output output₃ steps
all_taken L E M =
    record {
      bounded = _;
      excluded = _;
      lowered_output = _;
      excluded_output = _;
      lowerings = _;
      before_marks = _;
      lowers = L;
      excludes = E;
      marks = M;
    }

-- what making the table asks, of arrays of the call's own
module _ {c : List ℕ} {z : Sizes} (Z : Sized c z) where
  pub table_blank : (x : ℕ) (entry : Entry) (link : Link) → places (length c) z.m ≤ x
      → Blank (length c) z.m (replicate 513 0) (replicate x entry) (replicate x link)
  unfolding at
  table_blank x entry link few =
      record {
        roomy = record {
          ends_room = simp length-replicate (omega (arith, Z.is_m, Z.formed.m_most));
          rows_room = simp length-replicate few;
        };
        links_room = simp length-replicate (omega arith);
        none = λ k. get_d_repeated {A = ℕ} 513 k 0;
      }

  pub table_unlinked : Unlinked z.n (replicate 257 0)
  unfolding at
  table_unlinked =
      record {
        lasts_room = simp length-replicate (omega (arith, Z.is_n, Z.formed.n_most));
        fresh = λ s. get_d_repeated {A = ℕ} 257 s 0;
      }

  -- the room that is always enough
  pub most_places : places (length c) z.m ≤ 10513
  most_places = omega (arith, Z.most, Z.is_m, Z.formed.m_most)
