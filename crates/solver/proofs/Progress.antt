-- A phase of the solver under way: the steps so far, what is still to come, and where a step that is taken leads.
use Prim.Native.Nat.{ℕ, zero, suc, ◌+◌, ◌*◌, ◌-◌, ◌≤◌, ◌<◌}
use mathlib.Core.Path.{◌≡◌, refl, sym, ap, ◌∙◌}
use mathlib.Core.Bool.{Bool, true}
use mathlib.Core.List.{List, [], ◌∷◌, ◌++◌, append_assoc, append-nil}
use mathlib.Core.Option as math
use mathlib.Core.Option.{none, some}
use Rattle.std.specs.Prelude.{Option, None, Some}
use native.Mathlib.Omega.{arith}
use lib.ListN.{length, length-append}
use Rattle.circuit.specs.Call.{circuit_of}
use Rattle.circuit.specs.declared.reader.Sizes.{Sizes}
use Rattle.laws.specs.Problem.{Problem, given}
use Rattle.laws.specs.Standing.{Standing, apply}
use Rattle.laws.specs.Step.{names_of, Step, in_range, Rule, rule, rule_of, met, change, adds, after, replay}
use Rattle.laws.specs.Solver.{turns}
use Rattle.laws.proofs.Order.{replay_append}
use Rattle.laws.proofs.Sum.{true_or_false}
use Rattle.laws.proofs.Turns.{adds_says}
use Rattle.laws.proofs.Optimum.{fits_says}
use Rattle.rules.specs.Promise.{subject_in, Told, Asked}
use Rattle.rules.specs.declared.rows.Entry.{Entry}
use Rattle.rules.specs.Rows.{row_of}
use Rattle.derivation.specs.Steps.{head_size, step_size}
use Rattle.derivation.specs.Encoded.{step_bytes, steps_bytes, stored}
use Rattle.derivation.specs.Inner.{part_named, rule_in}
use Rattle.derivation.proofs.Written.{nothing_stored, written_next}
use Rattle.derivation.proofs.StepLaws.{constraint_named, rule_is, step_asked}
use Rattle.solver.specs.Links.{Prepared}
use Rattle.solver.specs.Phases.{Phased}

-- Turns

turns_none : (choose : Standing → math.Option Step) (P : Problem) (fuel : ℕ) (S : Standing) → choose S ≡ none → turns choose P fuel S ≡ []
unfolding turns
turns_none choose P zero S e = refl
turns_none choose P (suc fuel) S e = rw e

turns_some : (choose : Standing → math.Option Step) (P : Problem) (fuel : ℕ) (S : Standing) (x : Step) → choose S ≡ some x
    → turns choose P (suc fuel) S ≡ x ∷ turns choose P fuel (after P S x)
unfolding turns
turns_some choose P fuel S x e = rw e

-- Turns that are written

-- the steps so far, where they led, what is still to come, and the bytes written, after those of the `base` steps before
pub record Turning (choose : Standing → math.Option Step) (P : Problem) (S₀ : Standing) (output₀ output : List ℕ) (base count : ℕ) (S : Standing) : Type 0 where
  pub steps : List Step
  pub led : S ≡ replay P S₀ steps
  pub rest : turns choose P P.n S₀ ≡ steps ++ turns choose P (P.n - length steps) S
  pub counted : count ≡ length steps
  pub written : output ≡ stored output₀ (head_size + step_size * base) (steps_bytes steps)

pub turning_start : (choose : Standing → math.Option Step) (P : Problem) (S : Standing) (output : List ℕ) (base : ℕ) → Turning choose P S output output base 0 S
unfolding steps_bytes replay
turning_start choose P S output base =
    let all : P.n ≡ P.n - 0 = omega arith in
    record {
      steps = [];
      led = refl;
      rest = ap (λ (k : ℕ). turns choose P k S) all;
      counted = refl;
      written = nothing_stored output (head_size + step_size * base);
    }

module _ {choose : Standing → math.Option Step} {P : Problem} {S₀ : Standing} {output₀ output : List ℕ} {base count : ℕ} {S : Standing}
    (T : Turning choose P S₀ output₀ output base count S) where
  ended : turns choose P P.n S₀ ≡ T.steps → Phased choose P S₀ S output₀ output base (base + count)
  ended e = record { reached = rw e T.led; counted = rw (e, T.counted) refl; written = rw e T.written }

  pub turning_all : P.n ≤ count → Phased choose P S₀ S output₀ output base (base + count)
  unfolding turns
  turning_all h =
      let left : P.n - length T.steps ≡ 0 = omega (arith, T.counted) in
      ended (T.rest ∙ ap (λ (k : ℕ). T.steps ++ turns choose P k S) left ∙ append-nil T.steps)

  pub turning_none : choose S ≡ none → Phased choose P S₀ S output₀ output base (base + count)
  turning_none e =
      ended (T.rest ∙ ap (λ (ys : List Step). T.steps ++ ys) (turns_none choose P (P.n - length T.steps) S e) ∙ append-nil T.steps)

  pub turning_next : count < P.n → (x : Step) → choose S ≡ some x → {output' : List ℕ} {k : ℕ} → k ≡ base + count
      → output' ≡ stored output (head_size + step_size * k) (step_bytes x)
      → {S' : Standing} → S' ≡ after P S x → Turning choose P S₀ output₀ output' base (count + 1) S'
  unfolding replay
  turning_next more x taken {k = k} is-k e s =
      let xs = T.steps in
      let longer = length-append xs (x ∷ []) in
      let later = P.n - length (xs ++ (x ∷ [])) in
      let left : P.n - length xs ≡ suc later = omega (arith, T.counted, longer) in
      let place : head_size + step_size * k ≡ head_size + step_size * base + step_size * length xs = omega (arith, T.counted) in
      record {
        steps = xs ++ (x ∷ []);
        led = s ∙ ap (λ (Z : Standing). after P Z x) T.led ∙ sym (replay_append P S₀ xs (x ∷ []));
        rest =
            rw s
            (T.rest
            ∙ ap (λ (j : ℕ). xs ++ turns choose P j S) left
            ∙ ap (λ (ys : List Step). xs ++ ys) (turns_some choose P later S x taken)
            ∙ sym (append_assoc xs (x ∷ []) (turns choose P later (after P S x))));
        counted = omega (arith, T.counted, longer);
        written =
            e
            ∙ ap (λ (j : ℕ). stored output j (step_bytes x)) place
            ∙ written_next output₀ output (head_size + step_size * base) xs x T.written;
      }

-- A step that is taken

-- a step that adds, taken by the part of the file that it names and the row of its constraint, leads to the standing after it
module _ {c table ends : List ℕ} {rows : List Entry} {z : Sizes} (D : Prepared c table ends rows z) (x : Step) {part : List ℕ} {row : List Entry}
    (is-part : part ≡ part_named (names_of x.kind) c table x.constraint) (is_row : row ≡ row_of table ends rows x.constraint)
    (S : Standing) (first : ℕ → ℕ) (a : adds (given (circuit_of c) first) S x ≡ true) where
  abbrev P : Problem
  P = given (circuit_of c) first

  says : (in_range P x ≡ true) × (met P S x ≡ true)
  says = fits_says P S x (adds_says P S x a).0

  asked : Asked x.kind z.p z.n part row x.target x.reference
  asked =
      rw (is-part, is_row)
      (step_asked D.sized D.offsets first x says.0
      (λ e f.
      let k = constraint_named D.sized D.offsets first x says.0 e in
      D.made.row x.constraint k.0 (omega (arith, k.1, D.sized.is_m))))

  same_rule : rule x.kind (subject_in z.p z.n part) S x.target x.reference ≡ rule_of P S x
  unfolding rule_in
  same_rule =
      ap (λ (p : List ℕ). rule x.kind (subject_in z.p z.n p) S x.target x.reference) is-part ∙ rule_is D.sized D.offsets first x says.0 S

  pub step_taken : (told : Option Bool) {next : Standing}
      → (Asked x.kind z.p z.n part row x.target x.reference → Told told next S x.target (rule x.kind (subject_in z.p z.n part) S x.target x.reference))
      → next ≡ after P S x
  unfolding after change met
  step_taken told {next} gives = go told (gives asked)
    where
      go : (o : Option Bool) → Told o next S x.target (rule x.kind (subject_in z.p z.n part) S x.target x.reference) → next ≡ after P S x
      go None T = true_or_false _ says.1 (ap (λ (R : Rule). R.met) (sym same_rule) ∙ T.0)
      go (Some idle) T = T.after ∙ ap (λ (R : Rule). apply R.change S x.target) same_rule
