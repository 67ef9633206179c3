-- Laws of the constraints of a file, read one after the other, and of its end.
use Prim.Native.Nat.{ℕ, zero, suc, ◌+◌, ◌-◌, ◌≤◌, ◌<◌}
use mathlib.Core.Path.{◌≡◌, sym, ap, ◌∙◌}
use mathlib.Core.List.{List}
use native.Mathlib.Nat.{add-zero}
use native.Mathlib.Omega.{arith}
use lib.Dec.{eqb}
use lib.ListN.{length, drop, take, length-drop}
use Rattle.circuit.specs.Circuit.{Constraint}
use Rattle.circuit.specs.Reading.{whole, after, Size, sized, faulty, size_of, further, extent}
use Rattle.circuit.specs.Reader.{read_constraint, read_constraints, read_body, at_end, after_constraint}
use Rattle.circuit.specs.Answer.{refused}
use Rattle.circuit.specs.Call.{body_answer, body_call}
use Rattle.circuit.specs.declared.reader.Sizes.{Sizes}
use Rattle.circuit.proofs.ReaderLaws.{ask_size, size_after, size_mapped, further_require, further_zero, extent_further, part_drop}
use Rattle.circuit.proofs.ReaderLaws.{onward, onward_on, onward_out, onward_onward, next_onward}
use Rattle.circuit.proofs.ReaderLaws.{constraint_from, constraint_inside, constraint_rest}

-- the end of the file, at an offset
abbrev pub ended : List ℕ → ℕ → Size
ended s at = ask_size (eqb (length s - at) 0) 10 at (sized at)

-- what is left of the file where `left` constraints are to be read from `at` on
unfoldable pub body_from : ℕ → ℕ → List ℕ → ℕ → ℕ → Size
body_from n p s zero at = ended s at
body_from n p s (suc left) at = onward (constraint_from n p s at) (body_from n p s left)

constraints_end : (n p : ℕ) (s : List ℕ) (left at : ℕ)
    → onward (further at (size_of (read_constraints n p left (drop at s)))) (ended s) ≡ body_from n p s left at
unfolding onward body_from read_constraints constraint_from
constraints_end n p s zero at = ap (ended s) (add-zero at)
constraints_end n p s (suc left) at =
    ap (λ (z : Size). onward z (ended s))
    (next_onward s at (read_constraint n p (drop at s)) _ _ λ K k. ap (further k) (size_mapped _ (read_constraints n p left (drop k s))))
    ∙ onward_onward (constraint_from n p s at) _ _ _ (constraints_end n p s left)

body_from_lem : (n p m : ℕ) (s : List ℕ) → size_of (read_body n p m s) ≡ body_from n p s m 17
unfolding read_body
body_from_lem n p m s =
    let all = after 17 (read_constraints n p m (drop 17 s)) in
    sym (further_zero _) ∙ next_onward s 0 all at_end (ended s) end
    ∙ ap (λ (z : Size). onward z (ended s)) (further_zero (size_of all) ∙ size_after 17 (read_constraints n p m (drop 17 s)))
    ∙ constraints_end n p s m 17
  where
    end : (Ks : List Constraint) (k : ℕ) → further k (size_of (at_end Ks (drop k s))) ≡ ended s k
    end Ks k = further_require k (eqb (length (drop k s)) 0) 10 (whole Ks 0) ∙ rw (length-drop k s, add-zero k)

-- At turn i of the code `rest` starts at `at`, and the whole answer is what is still to be read.
pub record Body (s : List ℕ) (z : Sizes) (rest : List ℕ) (i at : ℕ) : Type 0 where
  pub near : at ≤ length s
  pub is_rest : rest ≡ drop at s
  pub answer : body_call s z ≡ body_answer z (body_from z.n z.p s (z.m - i) at)

pub body_start : (s : List ℕ) (z : Sizes) → 17 ≤ length s → Body s z (take (length s - 17) (drop 17 s)) 0 17
unfolding body_call
body_start s z h =
    let all : z.m - 0 ≡ z.m = omega arith in
    record { near = h; is_rest = part_drop s 17 h; answer = ap (body_answer z) (body_from_lem z.n z.p z.m s ∙ rw all) }

module _ {s rest : List ℕ} {z : Sizes} {i at : ℕ} (B : Body s z rest i at) where
  -- the constraint that is read from the rest leads out or on
  module _ {y : Size} (read : y ≡ size_of (read_constraint z.n z.p rest)) where
    here : further at y ≡ constraint_from z.n z.p s at
    unfolding constraint_from
    here = rw (read, B.is_rest)

    pub body_inside : at + extent y ≤ length s
    body_inside = omega (arith, extent_further at y, ap extent here, constraint_inside z.n z.p s at B.near)

    module _ (some : i < z.m) where
      turn : body_call s z ≡ body_answer z (onward (constraint_from z.n z.p s at) (body_from z.n z.p s (z.m - (i + 1))))
      unfolding body_from
      turn =
          let more : z.m - i ≡ suc (z.m - (i + 1)) = omega arith in
          B.answer ∙ ap (λ (k : ℕ). body_answer z (body_from z.n z.p s k at)) more

      pub body_fault : {number offset : ℕ} → faulty number offset ≡ further at y → refused number offset ≡ body_call s z
      body_fault e = sym (turn ∙ ap (body_answer z) (onward_out _ (sym (e ∙ here))))

      pub body_again : {k : ℕ} {next : List ℕ} → sized k ≡ further at y → next ≡ after_constraint rest → Body s z next (i + 1) k
      body_again e f =
          record {
            near = omega (arith, body_inside, extent_further at y, ap extent e);
            is_rest = f ∙ ap after_constraint B.is_rest ∙ constraint_rest z.n z.p s at (sym (e ∙ here));
            answer = turn ∙ ap (body_answer z) (onward_on _ (sym (e ∙ here)));
          }

  pub body_last : z.m ≤ i → body_call s z ≡ body_answer z (ended s at)
  unfolding body_from
  body_last done = let none : z.m - i ≡ 0 = omega arith in B.answer ∙ rw none
