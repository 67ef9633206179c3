-- RENEWED: a derivation that was accepted by the former rule gets an answer, and what is written is accepted, reaches the same, has exactly
-- the steps that aren't idle, and is the same bytes where none is. TWICE: renewing what was renewed changes nothing more.
use Prim.Native.Nat.{ℕ, ◌+◌, ◌≤◌, ◌<◌}
use mathlib.Core.Path.{◌≡◌, refl, sym, ap, ◌∙◌}
use mathlib.Core.Bool.{true}
use mathlib.Core.List.{List}
use native.Mathlib.Omega.{arith}
use borrow.Author.Tests.{leb-true, le-leb}
use lib.Dec.{leb}
use lib.ListN.{length, take, drop}
use lib.Seq.{take_at}
use Rattle.circuit.specs.Bytes.{u16_at}
use Rattle.circuit.specs.Circuit.{Circuit}
use Rattle.circuit.specs.Answer.{Answer, given, ask, and_then}
use Rattle.circuit.proofs.AnswerLaws.{ask_given, next_given}
use Rattle.laws.specs.Problem.{Problem}
use Rattle.laws.specs.Standing.{Standing, start}
use Rattle.laws.specs.Step.{formerly, less_idle, replay}
use Rattle.laws.proofs.Idle.{accepted_formerly, less_accepted, less_replay, less_same, less_twice, less_fewer}
use Rattle.tags.specs.Tag.{Sheet, tagged}
use Rattle.tags.specs.Sheet.{Unrefused}
use Rattle.tags.proofs.SheetLaws.{unrefused_circuit, unrefused_sheet}
use Rattle.derivation.specs.Steps.{steps_most, walked, steps_of}
use Rattle.derivation.specs.Call.{judged, framed, derivation_on, last_of, Accepted}
use Rattle.derivation.specs.Encoded.{encoded}
use Rattle.derivation.specs.Exact.{Framed}
use Rattle.derivation.proofs.Walks.{walk_passed, passed_walk}
use Rattle.derivation.proofs.Encoding.{encoded_lists}
use Rattle.derivation.proofs.Exact.{Lists, framed_given, framed_is, fine_counted, lists_accepted, derivation_accepted, accepted_derivation}
use Rattle.renewal.specs.Call.{renewed, renewal_on, renewal_call, left_by, renewal_output}
use Rattle.renewal.specs.Renewed.{Stored, Renewed, RenewedCall}
use Rattle.renewal.specs.Inner.{Bytes}
use Rattle.renewal.proofs.Bytes.{bytes_whole}

-- what a derivation has that is renewed
pub record GivenAs (P : Problem) (d : List ℕ) (room : ℕ) : Type 0 where
  pub framed : Framed d
  pub met : formerly P (start P) (steps_of d) ≡ true
  pub counted : length (steps_of d) ≡ u16_at d 5
  pub roomy : length d ≤ room

module _ (P : Problem) (d : List ℕ) (room : ℕ) where
  pub renewal_given : {bytes : ℕ} → renewal_on P d room ≡ given bytes → GivenAs P d room × (bytes ≡ length (renewed P d))
  unfolding renewal_on steps_of
  renewal_given {bytes} e =
      let N = next_given (framed d (walked true P d)) (λ (S : Standing). ask (leb (length d) room) 25 0 (given (length (renewed P d)))) e in
      let head = framed_given d _ N.first in
      let W = walk_passed true P d 0 (u16_at d 5) (start P) N.result head.1 in
      let roomy = ask_given (leb (length d) room) 25 0 _ N.then in
      let is : bytes ≡ length (renewed P d) = cc in
      (record { framed = head.0; met = W.passed; counted = W.counted; roomy = leb-true _ _ roomy.0 }, is)

  pub given_renewal : GivenAs P d room → renewal_on P d room ≡ given (length (renewed P d))
  unfolding renewal_on steps_of
  given_renewal G =
      ap (λ (r : Answer Standing). and_then r (λ (S : Standing). ask (leb (length d) room) 25 0 (given (length (renewed P d)))))
      (framed_is d _ G.framed ∙ passed_walk true P d 0 (u16_at d 5) (start P) G.counted G.met)
      ∙ rw (le-leb _ _ G.roomy)

-- The renewed derivation

module _ (P : Problem) (d : List ℕ) where
  renewed_lists : Lists (renewed P d) (less_idle P (start P) (steps_of d))
  unfolding renewed
  renewed_lists = encoded_lists (less_idle P (start P) (steps_of d))

  renewed_last : last_of P (renewed P d) ≡ last_of P d
  unfolding last_of
  renewed_last = ap (replay P (start P)) renewed_lists.steps ∙ less_replay P (start P) (steps_of d)

  -- where no step is idle nothing changes
  renewed_same : Bytes d → (T : Sheet) → Accepted P T d → renewed P d ≡ d
  unfolding renewed
  renewed_same B T a =
      let A = derivation_accepted P T d P.n a.is in
      ap encoded (less_same P (start P) (steps_of d) A.adds) ∙ bytes_whole B A.framed A.counted

  module _ {room : ℕ} (G : GivenAs P d room) where
    renewed_short : length (renewed P d) ≤ length d
    renewed_short = omega (arith, renewed_lists.sized, less_fewer P (start P) (steps_of d), G.counted, G.framed.sized)

    renewed_accepted : (T : Sheet) → derivation_on P T (renewed P d) P.n ≡ given (judged P T (last_of P d))
    renewed_accepted T =
        let e = renewed P d in
        let few : length (less_idle P (start P) (steps_of d)) ≤ steps_most = omega (arith, less_fewer P (start P) (steps_of d), G.counted, G.framed.few) in
        let A = lists_accepted P T e (less_idle P (start P) (steps_of d)) renewed_lists few (less_accepted P (start P) (steps_of d) G.met) in
        accepted_derivation P T e P.n (derivation_accepted P T e P.n A.0.is) ∙ ap (λ (S : Standing). given (judged P T S)) renewed_last

    pub is_renewed : Bytes d → (T : Sheet) {bytes : ℕ} → bytes ≡ length (renewed P d) → Renewed P T d (renewed P d) bytes
    is_renewed B T is =
        record {
          is_whole = sym is;
          is_short = renewed_short;
          is_accepted = renewed_accepted T;
          reaches = renewed_last;
          steps = renewed_lists.steps;
          unchanged = renewed_same B T;
        }

    -- it may be renewed itself
    given_again : (T : Sheet) {later : ℕ} → length (renewed P d) ≤ later → GivenAs P (renewed P d) later
    given_again T roomy =
        let A = derivation_accepted P T (renewed P d) P.n (renewed_accepted T) in
        record {
          framed = A.framed;
          met = accepted_formerly P (start P) (steps_of (renewed P d)) A.adds;
          counted = A.counted;
          roomy = roomy;
        }

    -- .. which changes nothing more
    again : renewed P (renewed P d) ≡ renewed P d
    unfolding renewed
    again = rw (encoded_lists (less_idle P (start P) (steps_of d))).steps (ap encoded (less_twice P (start P) (steps_of d) G.met))

-- The call on a circuit and a sheet that aren't refused

module _ {c h : List ℕ} {C : Circuit} {T : Sheet} (U : Unrefused c h C T) where
  pub call_on : (d : List ℕ) (room : ℕ) → renewal_call c h d room ≡ renewal_on (tagged C T) d room
  unfolding renewal_call
  call_on d room = rw (U.read, U.sheeted)

  pub output_on : (d output : List ℕ) → renewal_output c h d output ≡ left_by (renewal_on (tagged C T) d (length output)) (tagged C T) d output
  unfolding renewal_output
  output_on d output = rw (call_on d (length output), unrefused_circuit U, unrefused_sheet U)

  answered : (d output : List ℕ) → Stored (tagged C T) d → length d ≤ length output → (bytes : ℕ) × (renewal_call c h d (length output) ≡ given bytes)
  unfolding steps_of
  answered d output S h =
      let P = tagged C T in
      let G : GivenAs P d (length output)
      = record {
        framed = S.framed;
        met = S.met;
        counted = fine_counted P d 0 (u16_at d 5) λ (j : ℕ) (g : 0 ≤ j) (l : j < 0 + u16_at d 5). S.each j (omega arith);
        roomy = h;
      } in
      (length (renewed P d), call_on d (length output) ∙ given_renewal P d (length output) G)

  -- what a renewal is given and what it leaves at the buffer's start
  renewed_left : (d output : List ℕ) {bytes : ℕ} → renewal_call c h d (length output) ≡ given bytes
      → (GivenAs (tagged C T) d (length output) × (bytes ≡ length (renewed (tagged C T) d)))
      × (take bytes (renewal_output c h d output) ≡ renewed (tagged C T) d)
  renewed_left d output {bytes} e =
      let P = tagged C T in
      let on : renewal_on P d (length output) ≡ given bytes = sym (call_on d (length output)) ∙ e in
      let G = renewal_given P d (length output) on in
      (G, rw (output_on d output, on, G.1) (take_at (renewed P d) (drop (length (renewed P d)) output) (length (renewed P d)) refl))

  own : (d output : List ℕ) → Bytes d → (bytes : ℕ) → renewal_call c h d (length output) ≡ given bytes
      → Renewed (tagged C T) T d (take bytes (renewal_output c h d output)) bytes
  own d output B bytes e = let L = renewed_left d output e in rw L.1 (is_renewed (tagged C T) d L.0.0 B T L.0.1)

  -- TWICE: what was renewed is renewed to the same length, and the same bytes are left
  pub renewed_twice : (d output later : List ℕ) {bytes : ℕ} → renewal_call c h d (length output) ≡ given bytes
      → let e = take bytes (renewal_output c h d output) in
      length e ≤ length later → (renewal_call c h e (length later) ≡ given bytes) × (take bytes (renewal_output c h e later) ≡ e)
  renewed_twice d output later {bytes} e fits =
      let P = tagged C T in
      let L = renewed_left d output e in
      let same = again P d L.0.0 in
      let on : renewal_call c h (renewed P d) (length later) ≡ given bytes
      = call_on (renewed P d) (length later)
      ∙ given_renewal P (renewed P d) (length later) (given_again P d L.0.0 T (rw L.1 at fits))
      ∙ ap (λ (l : List ℕ). given (length l)) same
      ∙ ap given (sym L.0.1) in
      rw L.1 (on, (renewed_left (renewed P d) later on).1 ∙ same)

pub renewed_call : (c h d output : List ℕ) → Bytes d → RenewedCall c h d output (renewal_call c h d (length output)) (renewal_output c h d output)
renewed_call c h d output B C T U = record { answered = answered U d output; own = own U d output B }
