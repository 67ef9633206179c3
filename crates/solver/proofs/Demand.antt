-- DEMAND 3 holds: every accepted derivation is sound; the solver's own is accepted, short, leaves nothing to add, and is the best of all.
use Prim.Native.Nat.{ℕ, ◌-◌, ◌≤◌}
use mathlib.Core.Path.{◌≡◌, refl, sym, ap, ◌∙◌}
use mathlib.Core.Bool.{Bool, true, false}
use mathlib.Core.List.{List}
use native.Mathlib.Omega.{arith}
use lib.Dec.{leb}
use lib.ListN.{length, take, drop, get_or}
use lib.Seq.{take_at}
use borrow.Author.Tests.{le-leb}
use Rattle.circuit.specs.Circuit.{Circuit}
use Rattle.circuit.specs.Answer.{given, ask}
use Rattle.circuit.proofs.WellFormed.{read_well_formed}
use Rattle.laws.specs.Problem.{Problem}
use Rattle.laws.specs.Standing.{Standing, start}
use Rattle.laws.specs.Solver.{solution}
use Rattle.laws.proofs.Idle.{accepted_formerly}
use Rattle.laws.proofs.Solution.{solution_accepted, solution_short, solution_length, solution_closed, solution_best}
use Rattle.tags.specs.Tag.{Sheet, tagged}
use Rattle.tags.specs.Sheet.{Unrefused}
use Rattle.tags.proofs.SheetLaws.{unrefused_circuit, unrefused_sheet}
use Rattle.derivation.specs.Steps.{steps_of}
use Rattle.derivation.specs.Call.{judged, derivation_on, bit, derivation_marks, Accepted, last_of}
use Rattle.derivation.proofs.Exact.{AcceptedAs, Lists, lists_accepted, derivation_accepted, accepted_derivation}
use Rattle.derivation.proofs.Encoding.{encoded_lists}
use Rattle.derivation.proofs.Sound.{marks_at, marks_left, last_sound}
use Rattle.solver.specs.Call.{Solved, own, reached, solved, room_for, solver_on, solver_call, left_by, solver_output}
use Rattle.solver.specs.Demand.{Best, Demand3, Demand}

-- The solver's own derivation
module _ (P : Problem) (T : Sheet) (few : P.n ≤ 256) where
  own_lists : Lists (own P) (solution P)
  unfolding own
  own_lists = encoded_lists (solution P)

  own_steps : steps_of (own P) ≡ solution P
  own_steps = own_lists.steps

  own_last : last_of P (own P) ≡ reached P
  unfolding last_of reached
  own_last = rw own_steps refl

  own_accepted : derivation_on P T (own P) P.n ≡ given (judged P T (reached P))
  own_accepted =
      let A = lists_accepted P T (own P) (solution P) own_lists (omega (arith, solution_length P)) (solution_accepted P) in
      accepted_derivation P T (own P) P.n (derivation_accepted P T (own P) P.n A.0.is)
      ∙ ap (λ (S : Standing). given (judged P T S)) own_last

  pub own_is_best : Best P T (own P) (solved P T)
  unfolding solved last_of
  own_is_best =
      record {
        is_accepted = own_accepted;
        is_sized = rw own_steps own_lists.sized;
        is_whole = refl;
        is_short = λ t. rw own_steps (solution_short P t);
        is_closed = rw own_steps (solution_closed P);
        is_best = λ e a.
            rw own_steps
            (solution_best P (steps_of e) (accepted_formerly P (start P) (steps_of e) (derivation_accepted P T e P.n a.is).adds));
      }

-- The call on a circuit and a sheet that aren't refused
module _ (output : List ℕ) {c h : List ℕ} {C : Circuit} {T : Sheet} (U : Unrefused c h C T) where
  abbrev P : Problem
  P = tagged C T

  pub call_on : solver_call c h (length output) ≡ ask (leb (room_for C.n) (length output)) 25 0 (given (solved P T))
  unfolding solver_call solver_on
  call_on = rw (U.read, U.sheeted)

  pub output_on : solver_output c h output ≡ left_by (ask (leb (room_for C.n) (length output)) 25 0 (given (solved P T))) P output
  unfolding solver_output
  output_on = rw (call_on, unrefused_circuit U, unrefused_sheet U)

  answered : room_for C.n ≤ length output → (x : Solved) × (solver_call c h (length output) ≡ given x)
  answered h = (solved P T, call_on ∙ ap (λ (b : Bool). ask b 25 0 (given (solved P T))) (le-leb _ _ h))

  -- what is solved is written
  written : (b : Bool) (x : Solved) → ask b 25 0 (given (solved P T)) ≡ given x
      → Best P T (take x.bytes (left_by (ask b 25 0 (given (solved P T))) P output)) x
  unfolding solved
  written true x h =
      let is : x ≡ solved P T = cc in
      rw (is, take_at (own P) (drop (length (own P)) output) (length (own P)) refl)
      (own_is_best P T (read_well_formed c C U.size U.read).n_most)
  written false x h = let z : ◌≡◌ {A = ℕ} 0 1 = cc in absurd (omega arith)

  -- a longer buffer is as good as one of n bytes
  writes : (d marks : List ℕ) → Accepted P T d → C.n ≤ length marks
      → (s : ℕ) → 1 ≤ s → s ≤ C.n → get_or (derivation_marks c h d marks) (s - 1) 0 ≡ bit ((last_of P d).marked s)
  writes d marks a h s l m =
      let A = derivation_accepted P T d C.n a.is in
      let longer : AcceptedAs P d (length marks) = record { framed = A.framed; roomy = h; adds = A.adds; counted = A.counted } in
      rw (marks_left d U marks (accepted_derivation P T d (length marks) longer)) (marks_at C.n (last_of P d) (drop C.n marks) s l m)

  demand_3 : Demand3 c h C T output (solver_call c h (length output)) (solver_output c h output)
  demand_3 =
      record {
        sound = λ d a. last_sound d U C.n a.is;
        writes = writes;
        answered = answered;
        own = λ x h. rw output_on (written (leb (room_for C.n) (length output)) x (sym call_on ∙ h));
      }

-- DEMAND 3, whole
pub demand : (c h output : List ℕ) → Demand c h output (solver_call c h (length output)) (solver_output c h output)
demand c h output C T U = demand_3 output U
