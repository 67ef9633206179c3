-- SOUND: the bytes that an accepted derivation leaves, and what they, its bounds and the tags shown say of the allowed runs.
use Prim.Native.Nat.{ℕ, zero, suc, ◌+◌, ◌-◌, ◌≤◌, ◌<◌}
use mathlib.Core.Path.{◌≡◌, refl, sym, ap, ◌∙◌}
use mathlib.Core.Bool.{Bool, true, false}
use mathlib.Core.List.{List, ◌++◌}
use native.Mathlib.Omega.{arith}
use native.Mathlib.Decide.{dec_le}
use borrow.Author.Tests.{leb-true, lt-ltb}
use lib.ListN.{length, drop, get_or, get_or-append}
use Rattle.circuit.specs.Circuit.{Circuit, Satisfying, value_of}
use Rattle.circuit.specs.Answer.{given}
use Rattle.circuit.proofs.WellFormed.{read_well_formed}
use Rattle.circuit.proofs.SearchLaws.{passed}
use Rattle.laws.specs.Sum.{implies}
use Rattle.laws.specs.Standing.{Standing, start}
use Rattle.laws.proofs.Idle.{accepted_formerly}
use Rattle.laws.specs.Sound.{Sound}
use Rattle.tags.specs.Tag.{limit, Sheet, Obeys, tagged, Allowed, on_other, is_shown, not_missed, shown_by}
use Rattle.tags.specs.Sheet.{Unrefused}
use Rattle.tags.proofs.TagLaws.{obeys_exactly}
use Rattle.tags.proofs.SheetLaws.{unrefused_circuit, unrefused_sheet, unrefused_fits, tag_signal}
use Rattle.tags.proofs.TaggedLaws.{steps_sound}
use Rattle.derivation.specs.Steps.{steps_of}
use Rattle.derivation.specs.Call.{Judgement, bit, marks_from, marks_of, judged, derivation_on, derivation_call, last_of, derivation_marks}
use Rattle.derivation.specs.Exact.{SoundCall}
use Rattle.derivation.proofs.Exact.{derivation_accepted, accepted_derivation, call_on}

pub marks_length : (marked : ℕ → Bool) (s left : ℕ) → length (marks_from marked s left) ≡ left
unfolding marks_from
marks_length marked s zero = refl
marks_length marked s (suc left) = ap suc (marks_length marked (suc s) left)

marks_from_lem : (marked : ℕ → Bool) (s left j : ℕ) → j < left → get_or (marks_from marked s left) j 0 ≡ bit (marked (suc (s + j)))
unfolding marks_from
marks_from_lem marked s zero j h = absurd (omega arith)
marks_from_lem marked s (suc left) zero h = ap (λ (t : ℕ). bit (marked (suc t))) (omega arith)
marks_from_lem marked s (suc left) (suc j) h =
    marks_from_lem marked (suc s) left j (omega arith) ∙ ap (λ (t : ℕ). bit (marked (suc t))) (omega arith)

-- the byte written for signal s
pub marks_at : (n : ℕ) (S : Standing) (later : List ℕ) (s : ℕ) → 1 ≤ s → s ≤ n → get_or (marks_of n S ++ later) (s - 1) 0 ≡ bit (S.marked s)
unfolding marks_of
marks_at n S later s l m =
    get_or-append (marks_from S.marked 0 n) later 0 (s - 1) (omega (arith, marks_length S.marked 0 n))
    ∙ marks_from_lem S.marked 0 n (s - 1) (omega arith)
    ∙ ap (λ (t : ℕ). bit (S.marked t)) (omega arith)

bit_one : (b : Bool) → bit b ≡ 1 → b ≡ true
bit_one true e = refl
bit_one false e = absurd (omega arith)

-- on a circuit and a sheet that aren't refused
module _ (d : List ℕ) {c h : List ℕ} {C : Circuit} {T : Sheet} (U : Unrefused c h C T) where
  -- what the call leaves where it accepts
  pub marks_left : (marks : List ℕ) {judgement : Judgement} → derivation_on (tagged C T) T d (length marks) ≡ given judgement
      → derivation_marks c h d marks ≡ marks_of C.n (last_of (tagged C T) d) ++ drop C.n marks
  unfolding derivation_marks
  marks_left marks e = rw (call_on d (length marks) U, e, unrefused_circuit U, unrefused_sheet U)

  -- an accepted derivation leads to a sound standing
  pub last_sound : (room : ℕ) {judgement : Judgement} → derivation_on (tagged C T) T d room ≡ given judgement
      → Sound (tagged C T) (Satisfying C) (Allowed C T) (last_of (tagged C T) d)
  unfolding last_of
  last_sound room e =
      let P = tagged C T in
      steps_sound (read_well_formed c C U.size U.read) T (steps_of d)
      (accepted_formerly P (start P) (steps_of d) (derivation_accepted P T d room e).adds)

  -- tags that are shown are obeyed
  module _ (B : Sound (tagged C T) (Satisfying C) (Allowed C T) (last_of (tagged C T) d)) (run : List ℕ) (a : Allowed C T run) (k : ℕ) (l : 1 ≤ k) (m : k ≤ T.count) where
    shown_obeyed : is_shown (last_of (tagged C T) d).bound (T.tag k) ≡ true → Obeys (T.tag k) (value_of run (T.tag k).signal)
    unfolding is_shown
    shown_obeyed e =
        let w = tag_signal (unrefused_fits U) k l m in
        let low : (last_of (tagged C T) d).bound (T.tag k).signal ≤ limit (T.tag k) = leb-true _ _ e in
        (obeys_exactly (T.tag k) _).1 (omega (arith, B.bounded run a (T.tag k).signal w.0 w.1))

    none_missed : not_missed C.i (last_of (tagged C T) d).bound T.tag k ≡ true → Obeys (T.tag k) (value_of run (T.tag k).signal)
    unfolding not_missed on_other implies
    none_missed e = go (dec_le (T.tag k).signal C.i)
      where
        go : Dec ((T.tag k).signal ≤ C.i) → Obeys (T.tag k) (value_of run (T.tag k).signal)
        go (yes h) = a.obeys k l m (tag_signal (unrefused_fits U) k l m).0 h
        go (no h) = shown_obeyed (rw (lt-ltb C.i (T.tag k).signal (omega arith)) at e)

pub sound_call : (c h d marks : List ℕ) → SoundCall c h d (derivation_call c h d (length marks)) (derivation_marks c h d marks)
unfolding judged shown_by
sound_call c h d marks C T judgement U e =
    let P = tagged C T in
    let on : derivation_on P T d (length marks) ≡ given judgement = sym (call_on d (length marks) U) ∙ e in
    let H = last_sound d U (length marks) on in
    let is : given judgement ≡ given (judged P T (last_of P d))
    = sym on ∙ accepted_derivation P T d (length marks) (derivation_accepted P T d (length marks) on) in
    let at : (s : ℕ) → 1 ≤ s → s ≤ C.n → get_or (derivation_marks c h d marks) (s - 1) 0 ≡ bit ((last_of P d).marked s)
    = λ s l m. rw (marks_left d U marks on) (marks_at C.n (last_of P d) (drop C.n marks) s l m) in
    record {
      written = at;
      bounded = H.bounded;
      settled = λ run other a b share s l m one. H.settled run other a b share s l m (bit_one _ (sym (at s l m) ∙ one));
      never_zero = H.never_zero;
      obeyed = λ run a k l m. shown_obeyed d U H run a k l m;
      all_obeyed = λ none run a k l m.
          let same : judgement.shown.missed ≡ (judged P T (last_of P d)).shown.missed = cc in
          none_missed d U H run a k l m (passed (not_missed C.i (last_of P d).bound T.tag) T.count (sym same ∙ none) k l m);
    }
