-- LISTINGS (rule 7.11): what the calls give on cases g, b and f, by LISTED and computation; and what the lists show.
use Prim.Native.Nat.{ℕ, ◌^◌, ◌≤◌}
use mathlib.Core.Path.{◌≡◌, refl, sym, ap, ap₂, ◌∙◌}
use mathlib.Core.Bool.{Bool, true, false, not, ◌&&◌, cond}
use mathlib.Core.List.{List, [], ◌∷◌}
use mathlib.Core.List.Memᴰ
use native.Mathlib.Omega.{arith}
use borrow.Author.Tests.{eqb-true}
use lib.Dec.{eqb}
use Rattle.field.specs.Prime.{trial, no_divisor, odd_prime}
use Rattle.field.specs.Residue.{opposite}
use Rattle.field.specs.Inverse.{inverse_from, inverse}
use Rattle.circuit.specs.Bytes.{byte_at, u16_at, u32_at}
use Rattle.circuit.specs.Circuit.{Circuit, Constraint, constraint_at, coef, names, value_of, eval, Satisfying}
use Rattle.circuit.specs.Reading.{whole}
use Rattle.circuit.specs.Reader.{read_terms, read_form, read_constraint, read_constraints, has_mark, sizes_fit, read_body, read_circuit}
use Rattle.circuit.specs.Run.{holds}
use Rattle.circuit.specs.Runs.{first_from, satisfied_by, unsatisfied}
use Rattle.laws.specs.Problem.{Problem, given, Names, nothing, a_constraint, equation_at}
use Rattle.laws.specs.Rules.{names_none, linear, reduced, occurs, is_zero, names_only, root_met, sum_weight, ceiling, sum_term, sum_bound, sum_met, zero_met}
use Rattle.laws.specs.Rules.{others_marked, product_met, live, differs, separated, digits_met, single, nonzero_met, divisor, quotient_met}
use Rattle.laws.specs.Solver.{solution, bound_steps, nonzero_steps, mark_steps, turns, best_bound, best_of_constraints, best_of_targets, consider, adds_by, new_bound}
use Rattle.laws.specs.Solver.{precedes, first_by, first_up, try, try_references, try_kind, try_kinds, first_adding}
use Rattle.laws.specs.Sound.{AtLeast, Closed}
use Rattle.laws.specs.Standing.{Standing, idle, is_input, none_of, start}
use Rattle.laws.specs.Step.{Step, names_of, refers, named, referred, in_range, within, Rule, rule, rule_of, met, change, fits, adds, replay}
use Rattle.laws.specs.Sum.{sum, all, keep, implies}
use Rattle.laws.proofs.Idle.{accepted_formerly}
use Rattle.laws.proofs.Optimum.{optimum}
use Rattle.laws.proofs.Solution.{solution_closed}
use Rattle.laws.proofs.Sum.{false_by}
use Rattle.tags.specs.Tag.{Sheet, lowered, first_bound, tagged}
use Rattle.derivation.specs.Steps.{steps_of}
use Rattle.derivation.specs.Call.{Accepted, last_of}
use Rattle.derivation.proofs.Exact.{derivation_accepted}
use Rattle.solver.specs.Call.{own, solved}
use Rattle.solver.proofs.Demand.{own_is_best}
use Rattle.runs.specs.Order.{starting_below, candidates, passing, satisfies, runs_of}
use Rattle.runs.proofs.CandidateLaws.{in_passing}
use Rattle.runs.proofs.Listed.{listed}
use Rattle.cases.specs.Encode.{u16_bytes, u32_bytes, terms_bytes, form_bytes, constraints_bytes, circuit_bytes}
use Rattle.cases.specs.Circuits.{circuit_b, circuit_f, circuit_g}
use Rattle.cases.specs.Listings.{runs_g, runs_b, runs_f, Lists, no_sheet, OpenThoughSettled, PairAmong}

-- a circuit and the length of its bytes
abbrev IsRead : Circuit → ℕ → Type 0
IsRead C size = read_circuit (circuit_bytes C) ≡ whole C size

read : IsRead circuit_g 59 × IsRead circuit_b 71 × IsRead circuit_f 38
unfolding byte_at u16_at u32_at read_terms read_form read_constraint read_constraints has_mark sizes_fit read_body read_circuit trial no_divisor odd_prime
    u16_bytes u32_bytes terms_bytes form_bytes constraints_bytes circuit_bytes
read = (refl, refl, refl)

runs_are : (runs_of circuit_g ≡ runs_g) × (runs_of circuit_b ≡ runs_b) × (runs_of circuit_f ≡ runs_f)
unfolding starting_below candidates passing satisfies runs_of first_from satisfied_by unsatisfied constraint_at holds value_of eval
runs_are = (refl, refl, refl)

lists : (C : Circuit) (size : ℕ) (runs : List (List ℕ)) → IsRead C size → C.p ^ C.n ≤ 65536 → runs_of C ≡ runs → Lists C runs
lists C size runs read h e = rw e at (listed (circuit_bytes C) C size read h)

pub lists_g : Lists circuit_g runs_g
lists_g = lists circuit_g 59 runs_g read.0 (omega arith) runs_are.0

pub lists_b : Lists circuit_b runs_b
lists_b = lists circuit_b 71 runs_b read.1 (omega arith) runs_are.1

pub lists_f : Lists circuit_f runs_f
lists_f = lists circuit_f 38 runs_f read.2 (omega arith) runs_are.2

-- The lowest first bounds that tags can give g: with them too the solver finds no step, so none adds, and output 2 isn't marked.
lowest : ℕ → ℕ
lowest s = cond (is_input 1 s) 0 6

abbrev at_lowest : Problem
at_lowest = given circuit_g lowest

no_steps : solution at_lowest ≡ []
unfolding names_none linear reduced occurs is_zero names_only root_met sum_weight ceiling sum_term sum_bound sum_met zero_met others_marked product_met live
    differs separated digits_met single nonzero_met divisor quotient_met solution bound_steps nonzero_steps mark_steps turns best_bound best_of_constraints best_of_targets consider adds_by new_bound precedes
    first_by first_up try try_references try_kind try_kinds first_adding is_input none_of start in_range within rule_of met fits adds replay sum all keep implies
    constraint_at coef names opposite inverse_from inverse lowest change
no_steps = refl

lowest_closed : Closed at_lowest (start at_lowest)
unfolding replay
lowest_closed = rw no_steps at (solution_closed at_lowest)

lowest_unmarked : (start at_lowest).marked 2 ≡ false
unfolding start is_input
lowest_unmarked = refl

-- what a step gives doesn't rest on the first bounds
module _ (f g : ℕ → ℕ) where
  named_same : (q : Names) → named q (given circuit_g f) ≡ named q (given circuit_g g)
  named_same nothing = refl
  named_same a_constraint = refl

  referred_same : (b : Bool) → referred b (given circuit_g f) ≡ referred b (given circuit_g g)
  referred_same true = refl
  referred_same false = refl

  equation_same : (q : Names) (k : ℕ) → equation_at q (given circuit_g f) k ≡ equation_at q (given circuit_g g) k
  equation_same nothing k = refl
  equation_same a_constraint k = refl

  in_range_same : (x : Step) → in_range (given circuit_g f) x ≡ in_range (given circuit_g g) x
  unfolding in_range
  in_range_same x = rw (named_same (names_of x.kind), referred_same (refers x.kind)) refl

  rule_same : (S : Standing) (x : Step) → rule_of (given circuit_g f) S x ≡ rule_of (given circuit_g g) S x
  unfolding rule_of
  rule_same S x =
      ap (λ (K : Constraint). rule x.kind (record { p = 7; n = 3; equation = K }) S x.target x.reference)
      (equation_same (names_of x.kind) x.constraint)

  adds_same : (S : Standing) (x : Step) → adds (given circuit_g f) S x ≡ adds (given circuit_g g) S x
  unfolding adds fits met change
  adds_same S x = ap₂ (λ (b : Bool) (r : Rule). b && r.met && not (idle r.change S x.target)) (in_range_same x) (rule_same S x)

-- .. so with any tags none adds there, and no derivation gets further
tagged_closed : (T : Sheet) → Closed (tagged circuit_g T) (start at_lowest)
tagged_closed T = record { closed = λ x. adds_same (tagged circuit_g T).first lowest (start at_lowest) x ∙ lowest_closed.closed x }

zero_least : (b : Bool) (x : ℕ) → cond b 0 6 ≤ cond b x 6
zero_least true x = omega arith
zero_least false x = omega arith

start_below : (T : Sheet) → AtLeast (start (tagged circuit_g T)) (start at_lowest)
unfolding start first_bound lowered lowest is_input
start_below T = record { bounds = λ s. zero_least (is_input 1 s) _; marks = λ s e. e; nonzeros = λ s e. e }

no_further : (T : Sheet) (d : List ℕ) → Accepted (tagged circuit_g T) T d → AtLeast (last_of (tagged circuit_g T) d) (start at_lowest)
unfolding last_of
no_further T d A =
    let P = tagged circuit_g T in
    let steps = accepted_formerly P (start P) (steps_of d) (derivation_accepted P T d 3 A.is).adds in
    optimum {P = P} {S = start P} {S' = start at_lowest} (tagged_closed T) (start_below T) (steps_of d) steps

-- output 2 is 1 where input 1 is 0, else 0
abbrev is_zero_first : List ℕ → ℕ
is_zero_first run = cond (eqb (value_of run 1) 0) 1 0

all_are : passing (λ run. eqb (value_of run 2) (is_zero_first run)) runs_g ≡ runs_g
unfolding passing value_of
all_are = refl

output_g : (run : List ℕ) → Satisfying circuit_g run → value_of run 2 ≡ is_zero_first run
output_g run S = eqb-true _ _ (in_passing (λ (run : List ℕ). eqb (value_of run 2) (is_zero_first run)) runs_g (rw all_are (lists_g.all run S))).1

not_true : {b : Bool} → b ≡ false → b ≡ true → ⊥
not_true e f = let z : ◌≡◌ {A = ℕ} 0 1 = cc in absurd (omega arith)

pub open_g : OpenThoughSettled circuit_g 2
open_g =
    record {
      some =
          let P = tagged circuit_g no_sheet in
          (own P, record { judgement = (solved P no_sheet).judgement; is = (own_is_best P no_sheet (omega arith)).is_accepted });
      unmarked = λ T d A. false_by _ (λ e. not_true lowest_unmarked ((no_further T d A).marks 2 e));
      settled = λ run other S S' share.
          let same = share 1 (omega arith) (omega arith) in
          output_g run S ∙ rw same refl ∙ sym (output_g other S');
    }

pub pair_b : PairAmong circuit_b runs_b 2 (0 ∷ 1 ∷ 0 ∷ []) (0 ∷ 2 ∷ 1 ∷ [])
unfolding value_of
pair_b =
    record {
      first_in = Memᴰ.head refl;
      second_in = Memᴰ.tail (Memᴰ.head refl);
      share = λ s l m. let z : s ≡ 1 = omega (arith, l, m) in rw z refl;
      differ = λ e. absurd (omega (arith, e));
    }

pub pair_f : PairAmong circuit_f runs_f 1 (0 ∷ []) (1 ∷ [])
unfolding value_of
pair_f =
    record {
      first_in = Memᴰ.head refl;
      second_in = Memᴰ.tail (Memᴰ.head refl);
      share = λ s l m. absurd (omega (arith, l, m));
      differ = λ e. absurd (omega (arith, e));
    }
