-- Laws of the call in the code's terms: the start of the walk, and what the call answers and leaves.
use Prim.Native.Nat.{ℕ, ◌+◌, ◌/◌, ◌≤◌, ◌<◌, min}
use mathlib.Core.Path.{◌≡◌, sym, ap, ◌∙◌}
use mathlib.Core.Bool.{Bool, false}
use mathlib.Core.List.{List, ◌++◌}
use native.Mathlib.Omega.{arith}
use borrow.Author.Tests.{le-leb, lt-leb}
use lib.ListN.{length, drop}
use Rattle.circuit.specs.Bytes.{u16_at}
use Rattle.circuit.specs.Circuit.{Circuit}
use Rattle.circuit.specs.Reader.{signals_most, read_circuit}
use Rattle.circuit.specs.Answer.{Answer, refused, given, and_then}
use Rattle.circuit.specs.Call.{on_circuit, circuit_call, circuit_of, Sized}
use Rattle.circuit.specs.declared.reader.Sizes.{Sizes}
use Rattle.circuit.proofs.Sized.{on_sized, call_sized}
use Rattle.laws.specs.Problem.{Problem}
use Rattle.laws.specs.Standing.{Standing, start}
use Rattle.tags.specs.Tag.{Sheet, tagged}
use Rattle.tags.specs.Sheet.{sheet_of, sheet_on}
use Rattle.tags.specs.Tagged.{tagged_call}
use Rattle.tags.proofs.SheetLaws.{tagged_given, tagged_refused}
use Rattle.derivation.specs.Steps.{walk_from, walked, steps_of}
use Rattle.derivation.specs.Call as call
use Rattle.derivation.specs.Call.{Judgement, judged, framed, roomy, derivation_on, derivation_call, derivation_marks}
use Rattle.derivation.specs.Exact.{Framed, ExactCall, SoundCall}
use Rattle.derivation.specs.Inner.{tagged_in, judged_by, notes_of, Noted, Walks, Answers, first_view}
use Rattle.derivation.proofs.Walks.{walk_passed}
use Rattle.derivation.proofs.Notes.{notes_told}
use Rattle.derivation.proofs.Exact.{framed_is, exact_call}
use Rattle.derivation.proofs.Sound.{sound_call}

-- the start, on a circuit that isn't refused
module _ (c : List ℕ) (z : Sizes) (Z : Sized c z) where
  pub few_signals : z.n ≤ signals_most
  few_signals = omega (arith, Z.formed.n_most, Z.is_n)

  -- the start of the code is that of the circuit with the sheet
  pub start_is : (h : List ℕ) {S : Standing} → S ≡ first_view z.p z.i h → S ≡ start (tagged_in c h)
  unfolding start
  start_is h e =
      let few : min z.i 256 ≡ (circuit_of c).i = omega (arith, Z.formed.n_most, Z.formed.fits, Z.is_i) in
      e ∙ rw (few, Z.is_p)

  -- the array for the rows of any file is long enough
  pub most_room : length c / 6 + z.m + 1 ≤ 10513
  most_room = omega (arith, Z.most, Z.formed.m_most, Z.is_m)

  -- the judgement of a standing is that of the circuit with the sheet
  pub judged_is : (h : List ℕ) (S : Standing) → judged_by z h S ≡ judged (tagged_in c h) (sheet_of h) S
  unfolding judged call.marks_of call.verdict_of
  judged_is h S = rw (Z.is_i, Z.is_o, Z.is_n)

-- the walk from the start that a sheet gives, in a circuit that isn't refused
module _ (c h : List ℕ) {z : Sizes} (read : circuit_call c ≡ given z) {S : Standing} (starts : S ≡ first_view z.p z.i h) where
  module _ {A : Type 0} {padded : Bool} {d : List ℕ} {before notes : List Bool} {r : Answer A} {S' : Standing}
      (W : Walks padded c d S before r S' notes) where
    from_start : S ≡ start (tagged_in c h)
    from_start = start_is c z (call_sized read) h starts

    pub walk_way : and_then r (λ (done : A). given S') ≡ walked padded (tagged_in c h) d
    walk_way = W.way (tagged_in c h).first ∙ ap (walk_from padded (tagged_in c h) d 0 (u16_at d 5)) from_start

    pub walk_left : notes ≡ notes_of padded c h d before
    walk_left = W.noted (tagged_in c h).first ∙ rw (read, from_start)

    pub walk_noted : (done : A) → r ≡ given done → Noted (tagged_in c h) (start (tagged_in c h)) d (length before) notes
    walk_noted done e = rw (walk_left, read) (notes_told padded (tagged_in c h) d _ S' before (sym walk_way ∙ rw e))

    pub walk_answered : and_then r (λ (done : A). given S') ≡ on_circuit (read_circuit c) (λ C. walked padded (tagged C (sheet_of h)) d)
    walk_answered = walk_way ∙ sym (on_sized (λ (C : Circuit). walked padded (tagged C (sheet_of h)) d) (call_sized read))

-- The answer, and what is left in the buffer

answers_refused : (c h d marks : List ℕ) (number place : ℕ) → refused number place ≡ derivation_call c h d (length marks)
    → Answers c h d marks (refused number place) marks
unfolding derivation_marks
answers_refused c h d marks number place e = record { answer = e; written = rw (← e) }

-- on a circuit and a sheet that aren't refused, by the frame and what the steps answer
module _ (c h : List ℕ) {z : Sizes} (read : circuit_call c ≡ given z) (fits : sheet_on z h ≡ given (sheet_of h)) (d marks : List ℕ) where
  abbrev P : Problem
  P = tagged_in c h

  -- what is answered of the standing after the steps
  abbrev then : Answer Standing → Answer Judgement
  then v = and_then v (λ (S : Standing). given (judged P (sheet_of h) S))

  call_is : derivation_call c h d (length marks) ≡ then (framed d (roomy z.n (length marks) (walked false P d)))
  unfolding derivation_call derivation_on
  call_is =
      tagged_given c h read fits (λ (C : Circuit) (T : Sheet). derivation_on (tagged C T) T d (length marks))
      ∙ ap (λ (k : ℕ). then (framed d (roomy k (length marks) (walked false P d)))) (sym (call_sized read).is_n)

  pub head_refused : {number place : ℕ} → ((x : Answer Standing) → refused number place ≡ framed d x) → Answers c h d marks (refused number place) marks
  head_refused {number} {place} out =
      answers_refused c h d marks number place (sym (call_is ∙ ap then (sym (out (roomy z.n (length marks) (walked false P d))))))

  module _ (F : Framed d) where
    call_headed : derivation_call c h d (length marks) ≡ then (roomy z.n (length marks) (walked false P d))
    call_headed = call_is ∙ ap then (framed_is d (roomy z.n (length marks) (walked false P d)) F)

    pub room_refused : length marks < z.n → Answers c h d marks (refused 14 0) marks
    room_refused few = answers_refused c h d marks 14 0 (sym (call_headed ∙ rw (lt-leb z.n (length marks) few)))

    module _ (room : z.n ≤ length marks) where
      call_walked : {w : Answer Standing} → w ≡ walked false P d → derivation_call c h d (length marks) ≡ then w
      call_walked steps = call_headed ∙ rw (le-leb z.n (length marks) room, ← steps)

      pub walk_refused : {number place : ℕ} → refused number place ≡ walked false P d → Answers c h d marks (refused number place) marks
      walk_refused {number} {place} steps = answers_refused c h d marks number place (sym (call_walked steps))

      module _ {S : Standing} (steps : given S ≡ walked false P d) where
        -- the standing after the last step
        last_is : call.last_of P d ≡ S
        unfolding call.last_of steps_of
        last_is = (walk_passed false P d 0 (u16_at d 5) (start P) S (sym steps)).leads

        pub walk_accepts : {r : Judgement} {out : List ℕ} → r ≡ judged_by z h S → out ≡ call.marks_from S.marked 0 z.n ++ drop z.n marks
            → Answers c h d marks (given r) out
        unfolding derivation_marks call.marks_of
        walk_accepts {r} {out} e is =
            let Z = call_sized read in
            let answer : given r ≡ derivation_call c h d (length marks)
            = ap given (e ∙ judged_is c z Z h S) ∙ sym (call_walked steps) in
            record { answer = answer; written = is ∙ sym (rw (← answer, last_is, ← Z.is_n)) }

-- The whole call

pub call_refused : (c h d marks : List ℕ) {number place : ℕ} → refused number place ≡ tagged_call c h → Answers c h d marks (refused number place) marks
unfolding derivation_call
call_refused c h d marks e =
    answers_refused c h d marks _ _ (tagged_refused c h (λ (C : Circuit) (T : Sheet). derivation_on (tagged C T) T d (length marks)) e)

-- EXACT and SOUND follow from the answer and what is left
module _ {c h d marks out : List ℕ} {r : Answer Judgement} (A : Answers c h d marks r out) where
  pub exact_kept : ExactCall c h d (length marks) r
  exact_kept = rw A.answer (exact_call c h d (length marks))

  pub sound_kept : SoundCall c h d r out
  sound_kept = rw (A.answer, A.written) (sound_call c h d marks)
