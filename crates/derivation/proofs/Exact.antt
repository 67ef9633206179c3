-- EXACT: a derivation is accepted exactly if it is framed rightly, its kinds are known, and each step meets its rule where it stands and
-- isn't idle.
use Prim.Native.Nat.{ℕ, zero, suc, ◌+◌, ◌*◌, ◌≤◌, ◌<◌}
use mathlib.Core.Path.{◌≡◌, refl, sym, ap, ◌∙◌}
use mathlib.Core.Bool.{true, false}
use mathlib.Core.List.{List}
use native.Mathlib.Omega.{arith}
use borrow.Author.Tests.{leb-true, eqb-true, le-leb, eq-eqb}
use lib.Dec.{leb, eqb}
use lib.ListN.{length}
use Rattle.circuit.specs.Bytes.{u16_at}
use Rattle.circuit.specs.Circuit.{Circuit}
use Rattle.circuit.specs.Reader.{derivation_letter, has_mark}
use Rattle.circuit.specs.Answer.{Answer, given, and_then}
use Rattle.circuit.proofs.AnswerLaws.{ask_given, next_given}
use Rattle.laws.specs.Problem.{Problem}
use Rattle.laws.specs.Standing.{Standing, start}
use Rattle.laws.specs.Step as laws
use Rattle.tags.specs.Tag.{Sheet, tagged}
use Rattle.tags.specs.Sheet.{Unrefused}
use Rattle.derivation.specs.Steps.{head_size, step_size, steps_most, walked, steps_from, steps_of}
use Rattle.derivation.specs.Call.{Judgement, judged, framed, roomy, derivation_on, derivation_call, last_of, Accepted}
use Rattle.derivation.specs.Exact.{Framed, FineStep, WellFormedDerivation, EachAdds, Exact, ExactCall}
use Rattle.derivation.proofs.Walks.{walk_passed, passed_walk, steps_known}

-- 11 to 13

pub framed_given : {A : Type 0} (d : List ℕ) (r : Answer A) {x : A} → framed d r ≡ given x → Framed d × (r ≡ given x)
unfolding framed
framed_given d r e =
    let long = ask_given (leb head_size (length d)) 11 0 _ e in
    let mark = ask_given (has_mark derivation_letter d) 11 0 _ long.1 in
    let version = ask_given (eqb (u16_at d 3) 1) 12 0 _ mark.1 in
    let few = ask_given (leb (u16_at d 5) steps_most) 13 0 _ version.1 in
    let sized = ask_given (eqb (length d) (head_size + step_size * u16_at d 5)) 13 0 _ few.1 in (
      record {
        long = leb-true _ _ long.0;
        mark = mark.0;
        version = eqb-true _ _ version.0;
        few = leb-true _ _ few.0;
        sized = eqb-true _ _ sized.0;
      },
      sized.1,
    )

pub framed_is : {A : Type 0} (d : List ℕ) (r : Answer A) → Framed d → framed d r ≡ r
unfolding framed
framed_is d r F = rw (le-leb _ _ F.long, F.mark, eq-eqb _ _ F.version, le-leb _ _ F.few, eq-eqb _ _ F.sized)

-- what the frame's answer lets on
pub framed_fine : {A : Type 0} {head : Answer A} {done : A} {d : List ℕ} → ((x : Answer Standing) → and_then head (λ done. x) ≡ framed d x) → head ≡ given done
    → Framed d
framed_fine {d = d} framing fine =
    let x : Answer Standing = given (record { bound = λ s. 0; marked = λ s. false; nonzero = λ s. false }) in
    let on : framed d x ≡ x = sym (framing x) ∙ rw fine in
    (framed_given d x on).0

-- what an accepted derivation has
pub record AcceptedAs (P : Problem) (d : List ℕ) (room : ℕ) : Type 0 where
  pub framed : Framed d
  pub roomy : P.n ≤ room
  pub adds : EachAdds P d
  pub counted : length (steps_of d) ≡ u16_at d 5

module _ (P : Problem) (T : Sheet) (d : List ℕ) (room : ℕ) where
  pub derivation_accepted : {judgement : Judgement} → derivation_on P T d room ≡ given judgement → AcceptedAs P d room
  unfolding derivation_on steps_of
  derivation_accepted e =
      let N = next_given (framed d (roomy P.n room (walked false P d))) (λ (S : Standing). given (judged P T S)) e in
      let head = framed_given d _ N.first in
      let room-is = ask_given (leb P.n room) 14 0 _ head.1 in
      let W = walk_passed false P d 0 (u16_at d 5) (start P) N.result room-is.1 in
      record { framed = head.0; roomy = leb-true _ _ room-is.0; adds = W.passed; counted = W.counted }

  pub accepted_derivation : AcceptedAs P d room → derivation_on P T d room ≡ given (judged P T (last_of P d))
  unfolding derivation_on last_of steps_of
  accepted_derivation A =
      let walk : roomy P.n room (walked false P d) ≡ given (laws.replay P (start P) (steps_of d))
      = rw (le-leb _ _ A.roomy) (passed_walk false P d 0 (u16_at d 5) (start P) A.counted A.adds) in
      ap (λ (r : Answer Standing). and_then r (λ (S : Standing). given (judged P T S))) (framed_is d _ A.framed ∙ walk)

-- steps of known kinds are all listed
pub fine_counted : (P : Problem) (d : List ℕ) (k left : ℕ) → ((j : ℕ) → k ≤ j → j < k + left → FineStep P d j) → length (steps_from d k left) ≡ left
unfolding steps_from
fine_counted P d k zero h = refl
fine_counted P d k (suc left) h =
    ap length (steps_known d k left (h k (omega arith) (omega arith)).known)
    ∙ ap suc (fine_counted P d (suc k) left λ (j : ℕ) (g : suc k ≤ j) (l : j < suc k + left). h j (omega arith) (omega arith))

pub exact : (P : Problem) (T : Sheet) (d : List ℕ) (room : ℕ) → WellFormedDerivation P d room → Exact P T d (derivation_on P T d room)
unfolding steps_of
exact P T d room W =
    record {
      accepts = λ adds.
          accepted_derivation P T d room
          (record {
            framed = W.framed;
            roomy = W.roomy;
            adds = adds;
            counted = fine_counted P d 0 (u16_at d 5) λ (j : ℕ) (g : 0 ≤ j) (l : j < 0 + u16_at d 5). W.each j (omega arith);
          });
      only = λ judgement e. (derivation_accepted P T d room e).adds;
    }

pub call_on : (d : List ℕ) (room : ℕ) {c h : List ℕ} {C : Circuit} {T : Sheet} → Unrefused c h C T
    → derivation_call c h d room ≡ derivation_on (tagged C T) T d room
unfolding derivation_call
call_on d room U = rw (U.read, U.sheeted)

pub exact_call : (c h d : List ℕ) (room : ℕ) → ExactCall c h d room (derivation_call c h d room)
exact_call c h d room C T U W = rw (call_on d room U) (exact (tagged C T) T d room W)

-- bytes that list steps: a header, then the steps, with none left out
pub record Lists (d : List ℕ) (xs : List laws.Step) : Type 0 where
  pub mark : has_mark derivation_letter d ≡ true
  pub version : u16_at d 3 ≡ 1
  pub count : u16_at d 5 ≡ length xs
  pub sized : length d ≡ head_size + step_size * length xs
  pub steps : steps_of d ≡ xs

-- steps that are accepted make an accepted derivation
pub lists_accepted : (P : Problem) (T : Sheet) (d : List ℕ) (xs : List laws.Step) → Lists d xs → length xs ≤ steps_most
    → laws.accepted P (start P) xs ≡ true → Accepted P T d × (last_of P d ≡ laws.replay P (start P) xs)
unfolding last_of
lists_accepted P T d xs L few adds = (record { judgement = _; is = accepted_derivation P T d P.n A }, ap (laws.replay P (start P)) L.steps)
  where
    A : AcceptedAs P d P.n
    A =
        record {
          framed =
              record {
                long = omega (arith, L.sized);
                mark = L.mark;
                version = L.version;
                few = omega (arith, L.count);
                sized = L.sized ∙ ap (λ (k : ℕ). head_size + step_size * k) (sym L.count);
              };
          roomy = omega arith;
          adds = rw L.steps adds;
          counted = rw L.steps (sym L.count);
        }
