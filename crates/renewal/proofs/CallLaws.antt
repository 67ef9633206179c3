-- Laws of the call in the code's terms: what it answers and leaves at each way out.
use Prim.Native.Nat.{ℕ, ◌+◌, ◌*◌, ◌≤◌, ◌<◌}
use mathlib.Core.Path.{◌≡◌, refl, sym, ap, ◌∙◌}
use mathlib.Core.Bool.{Bool, true}
use mathlib.Core.List.{List, ◌++◌}
use native.Mathlib.Omega.{arith}
use borrow.Author.Tests.{lt-leb}
use lib.Dec.{leb}
use lib.ListN.{length, drop}
use Rattle.circuit.specs.Bytes.{u16_at}
use Rattle.circuit.specs.Circuit.{Circuit}
use Rattle.circuit.specs.Answer.{Answer, refused, given, ask, and_then}
use Rattle.circuit.specs.Call.{circuit_call, circuit_of}
use Rattle.circuit.specs.declared.reader.Sizes.{Sizes}
use Rattle.laws.specs.Problem.{Problem}
use Rattle.laws.specs.Standing.{Standing, start}
use Rattle.laws.specs.Step.{less_idle}
use Rattle.laws.proofs.Idle.{less_fewer}
use Rattle.tags.specs.Tag.{Sheet, tagged}
use Rattle.tags.specs.Sheet.{sheet_of, sheet_on, Unrefused}
use Rattle.tags.specs.Tagged.{tagged_call}
use Rattle.tags.proofs.SheetLaws.{tagged_unrefused, tagged_refused}
use Rattle.derivation.specs.Steps.{head_size, step_size, steps_most, walked, steps_of}
use Rattle.derivation.specs.Call.{framed}
use Rattle.derivation.specs.Encoded.{encoded}
use Rattle.derivation.specs.Exact.{Framed}
use Rattle.derivation.specs.Inner.{tagged_in, unflagged, Noted}
use Rattle.derivation.proofs.Walks.{walk_passed}
use Rattle.derivation.proofs.Encoding.{encoded_lists}
use Rattle.derivation.proofs.Written.{header_written}
use Rattle.derivation.proofs.Exact.{framed_is}
use Rattle.renewal.specs.Call.{renewed, renewal_on, renewal_call, left_by, renewal_output}
use Rattle.renewal.specs.Renewed.{RenewedCall}
use Rattle.renewal.specs.Inner.{Bytes, Copied, Renews}
use Rattle.renewal.proofs.Renewed.{GivenAs, call_on, output_on, given_renewal, renewed_call}

renews_refused : (c h d output : List ℕ) (number place : ℕ) → refused number place ≡ renewal_call c h d (length output)
    → Renews c h d output (refused number place) output
unfolding renewal_output
renews_refused c h d output number place e = record { answer = e; written = rw (← e) }

-- on a circuit and a sheet that aren't refused, by the frame and what the steps answer
module _ (c h : List ℕ) {z : Sizes} (read : circuit_call c ≡ given z) (fits : sheet_on z h ≡ given (sheet_of h)) (d output : List ℕ) where
  abbrev P : Problem
  P = tagged_in c h

  -- what is answered of the standing after the steps
  abbrev then : Answer Standing → Answer ℕ
  then v = and_then v (λ (S : Standing). ask (leb (length d) (length output)) 25 0 (given (length (renewed P d))))

  unrefused : Unrefused c h (circuit_of c) (sheet_of h)
  unrefused = tagged_unrefused c h read fits

  call_is : renewal_call c h d (length output) ≡ then (framed d (walked true P d))
  unfolding renewal_on
  call_is = call_on unrefused d (length output)

  pub head_refused : {number place : ℕ} → ((x : Answer Standing) → refused number place ≡ framed d x) → Renews c h d output (refused number place) output
  head_refused {number} {place} out = renews_refused c h d output number place (sym (call_is ∙ ap then (sym (out (walked true P d)))))

  module _ (F : Framed d) where
    call_walked : {w : Answer Standing} → w ≡ walked true P d → renewal_call c h d (length output) ≡ then w
    call_walked steps = call_is ∙ ap then (framed_is d (walked true P d) F ∙ sym steps)

    pub walk_refused : {number place : ℕ} → refused number place ≡ walked true P d → Renews c h d output (refused number place) output
    walk_refused {number} {place} steps = renews_refused c h d output number place (sym (call_walked steps))

    module _ {S : Standing} (steps : given S ≡ walked true P d) where
      pub room_refused : length output < length d → Renews c h d output (refused 25 0) output
      room_refused few = renews_refused c h d output 25 0 (sym (call_walked steps ∙ rw (lt-leb (length d) (length output) few)))

      module _ (roomy : length d ≤ length output) where
        given_as : GivenAs P d (length output)
        unfolding steps_of
        given_as =
            let w = walk_passed true P d 0 (u16_at d 5) (start P) S (sym steps) in
            record { framed = F; met = w.passed; counted = w.counted; roomy = roomy }

        pub renews : Bytes d → {idle : List Bool} → Noted P (start P) d steps_most idle → {left : List ℕ} {count : ℕ}
            → (Bytes d → length (steps_of d) ≡ u16_at d 5 → Copied (unflagged idle d (u16_at d 5)) output left count)
            → Renews c h d output (given (head_size + step_size * count)) left
        unfolding renewed
        renews B N {left} {count} K =
            let xs = less_idle P (start P) (steps_of d) in
            let G = given_as in
            let C : Copied xs output left count = rw (N.tells F.few) at (K B G.counted) in
            let sized = (encoded_lists xs).sized in
            let bytes : head_size + step_size * count ≡ length (encoded xs) = omega (arith, C.counted, sized) in
            let on = given_renewal P d (length output) G in
            let room : head_size + step_size * length xs ≤ length output
            = omega (arith, less_fewer P (start P) (steps_of d), G.counted, G.framed.sized) in
            record {
              answer = ap given bytes ∙ sym (call_on unrefused d (length output) ∙ on);
              written =
                  C.written
                  ∙ header_written output _ xs refl room
                  ∙ ap (λ (k : ℕ). encoded xs ++ drop k output) (sym sized)
                  ∙ sym (output_on unrefused d output ∙ ap (λ (r : Answer ℕ). left_by r P d output) on);
            }

-- The whole call

pub call_refused : (c h d output : List ℕ) {number place : ℕ} → refused number place ≡ tagged_call c h → Renews c h d output (refused number place) output
unfolding renewal_call
call_refused c h d output e =
    renews_refused c h d output _ _ (tagged_refused c h (λ (C : Circuit) (T : Sheet). renewal_on (tagged C T) d (length output)) e)

-- RENEWED follows from the answer and what is left
pub renewed_kept : {c h d output left : List ℕ} {r : Answer ℕ} → Bytes d → Renews c h d output r left → RenewedCall c h d output r left
renewed_kept {c} {h} {d} {output} B A = rw (A.answer, A.written) (renewed_call c h d output B)
