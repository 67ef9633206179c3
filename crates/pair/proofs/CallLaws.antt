-- Laws of the call: each refusal and the way past it, what acceptance says of each test, and the call by the bytes of the circuit and the sheet.
use Prim.Native.Nat.{ℕ, ◌+◌, ◌*◌, ◌-◌, ◌≤◌, ◌<◌, min}
use mathlib.Core.Path.{◌≡◌, sym, ap₂, ◌∙◌}
use mathlib.Core.Bool.{true, false}
use mathlib.Core.List.{List}
use native.Mathlib.Omega.{arith}
use borrow.Author.Tests.{le-leb, eq-eqb, ltb-true, leb-true, eqb-true, not-true}
use lib.Dec.{ltb, leb, eqb}
use lib.ListN.{length, drop, take, length-drop}
use Rattle.circuit.specs.Bytes.{u16_at}
use Rattle.circuit.specs.Circuit.{Constraint, constraint_at, value_of}
use Rattle.circuit.specs.Reader.{pair_letter, has_mark, constraint_of}
use Rattle.circuit.specs.Run.{values_in}
use Rattle.circuit.specs.Runs.{value_at, run_in, first_from, below, satisfied_by, agree}
use Rattle.circuit.specs.Answer.{Answer, refused, given, ask, ask_none, and_then}
use Rattle.circuit.specs.Call.{sizes_of, circuit_call, circuit_of}
use Rattle.circuit.specs.declared.reader.Sizes.{Sizes}
use Rattle.circuit.proofs.AnswerLaws.{ask_given, none_given, then_same}
use Rattle.circuit.proofs.ReaderLaws.{part_drop}
use Rattle.circuit.proofs.SearchLaws.{satisfied_same, passed, below_is, agree_no}
use Rattle.circuit.proofs.Sized.{call_sized, sizes_are, sized_constraint}
use Rattle.tags.specs.Tag.{Sheet, kept}
use Rattle.tags.specs.Sheet.{sheet_of, sheet_on}
use Rattle.tags.proofs.SheetLaws.{tagged_given}
use Rattle.pair.specs.Call.{first_run, second_run, signal_of, values_of, file_on, runs_on, pair_on, pair_call}

-- Refusals 18 to 21

-- those before the signal's aren't met
pub record FileFramed (z : Sizes) (t : List ℕ) : Type 0 where
  pub least : 7 ≤ length t
  pub mark : has_mark pair_letter t ≡ true
  pub version : u16_at t 3 ≡ 1
  pub sized : length t ≡ 7 + 8 * z.n

-- none of them is met
pub record FileWhole (z : Sizes) (t : List ℕ) : Type 0 where
  pub framed : FileFramed z t
  pub above : z.i < signal_of t
  pub within : signal_of t ≤ z.i + z.o
  pub values : (number : ℕ) → 1 ≤ number → number ≤ 2 * z.n → value_at (values_of t) number < z.p

-- the tests after the frame
module _ {z : Sizes} {t : List ℕ} (F : FileFramed z t) where
  pub framed_file : file_on z t
      ≡ ask (ltb z.i (signal_of t)) 20 0
      (ask (leb (signal_of t) (z.i + z.o)) 20 0
      (ask_none (first_from (below z.p (values_of t)) 1 (2 * z.n)) 21 0
      (given (signal_of t))))
  unfolding file_on
  framed_file =
      rw (le-leb 7 (length t) F.least, F.mark, eq-eqb (u16_at t 3) 1 F.version, eq-eqb (length t) (7 + 8 * z.n) F.sized)

module _ (z : Sizes) (t : List ℕ) where
  pub file_given : (q : ℕ) → file_on z t ≡ given q → FileWhole z t × (q ≡ signal_of t)
  unfolding file_on
  file_given q e =
      let a = ask_given (leb 7 (length t)) 18 0 _ e in
      let b = ask_given (has_mark pair_letter t) 18 0 _ a.1 in
      let c = ask_given (eqb (u16_at t 3) 1) 19 0 _ b.1 in
      let d = ask_given (eqb (length t) (7 + 8 * z.n)) 20 0 _ c.1 in
      let f = ask_given (ltb z.i (signal_of t)) 20 0 _ d.1 in
      let g = ask_given (leb (signal_of t) (z.i + z.o)) 20 0 _ f.1 in
      let h = none_given (first_from (below z.p (values_of t)) 1 (2 * z.n)) 21 0 _ g.1 in
      let same : given (signal_of t) ≡ given q = h.1 in
      let frame : FileFramed z t =
      record { least = leb-true _ _ a.0; mark = b.0; version = eqb-true _ _ c.0; sized = eqb-true _ _ d.0 } in (
        record {
          framed = frame;
          above = ltb-true _ _ f.0;
          within = leb-true _ _ g.0;
          values = λ number l m. below_is z.p (values_of t) number (passed (below z.p (values_of t)) (2 * z.n) h.0 number l m);
        },
        cc,
      )

-- Refusals 22, 23, 28 and 24

-- no search finds anything
pub record NoneFound (z : Sizes) (T : Sheet) (constraint : ℕ → Constraint) (v w : ℕ → ℕ) : Type 0 where
  pub first : first_from (satisfied_by z.p constraint v) 1 z.m ≡ 0
  pub second : first_from (satisfied_by z.p constraint w) 1 z.m ≡ 0
  pub input : first_from (agree v w) 1 z.i ≡ 0
  pub broken : first_from (kept T v) 1 z.i ≡ 0

module _ (z : Sizes) (T : Sheet) (constraint : ℕ → Constraint) (v w : ℕ → ℕ) (q : ℕ) where
  pub runs_differ : NoneFound z T constraint v w → (v q ≡ w q → ⊥) → given q ≡ runs_on z T constraint v w q
  unfolding runs_on
  runs_differ N h = rw (N.first, N.second, N.input, N.broken, agree_no v w q h)

  pub runs_given : (x : ℕ) → runs_on z T constraint v w q ≡ given x → NoneFound z T constraint v w × (agree v w q ≡ false) × (x ≡ q)
  unfolding runs_on
  runs_given x e =
      let a = none_given (first_from (satisfied_by z.p constraint v) 1 z.m) 22 0 _ e in
      let b = none_given (first_from (satisfied_by z.p constraint w) 1 z.m) 22 z.m _ a.1 in
      let c = none_given (first_from (agree v w) 1 z.i) 23 0 _ b.1 in
      let d = none_given (first_from (kept T v) 1 z.i) 28 0 _ c.1 in
      let f = ask_given _ 24 q _ d.1 in
      let same : given q ≡ given x = f.1 in
      (record { first = a.0; second = b.0; input = c.0; broken = d.0 }, not-true (agree v w q) f.0, cc)

-- the runs as they are copied into arrays, the second from the part after the first
runs_copied : (z : Sizes) (T : Sheet) (constraint : ℕ → Constraint) (t first second : List ℕ) (q : ℕ) → z.n ≤ 256 → length t ≡ 7 + 8 * z.n
    → let values = take (length t - 7) (drop 7 t) in
    values_in first ≡ value_of (run_in values (min z.n 256))
    → values_in second ≡ value_of (run_in (take (length values - 4 * z.n) (drop (4 * z.n) values)) (min z.n 256))
    → runs_on z T constraint (values_in first) (values_in second) q
    ≡ runs_on z T constraint (value_of (first_run z.n t)) (value_of (second_run z.n t)) q
runs_copied z T constraint t first second q few long e f =
    let all : min z.n 256 ≡ z.n = omega arith in
    let values : take (length t - 7) (drop 7 t) ≡ drop 7 t = part_drop t 7 (omega arith) in
    let room : 4 * z.n ≤ length (drop 7 t) = omega (arith, length-drop 7 t) in
    ap₂ (λ (x y : ℕ → ℕ). runs_on z T constraint x y q) (e ∙ rw (all, values)) (f ∙ rw (all, values, part_drop (drop 7 t) (4 * z.n) room))

runs_same : (z : Sizes) (T : Sheet) (constraint other : ℕ → Constraint) (v w : ℕ → ℕ) (q : ℕ)
    → ((k : ℕ) → 1 ≤ k → k ≤ z.m → constraint k ≡ other k) → runs_on z T constraint v w q ≡ runs_on z T other v w q
unfolding runs_on
runs_same z T constraint other v w q h = rw (satisfied_same z.p z.m constraint other v h, satisfied_same z.p z.m constraint other w h)

-- The call on a circuit and a sheet that aren't refused

module _ (s h t : List ℕ) {z : Sizes} (read : circuit_call s ≡ given z) (fits : sheet_on z h ≡ given (sheet_of h)) where
  call_by : pair_call s h t
      ≡ and_then (file_on z t) (runs_on z (sheet_of h) (constraint_of (drop 17 s)) (value_of (first_run z.n t)) (value_of (second_run z.n t)))
  unfolding pair_call pair_on
  call_by =
      let Z = call_sized read in
      let C = circuit_of s in
      rw (sizes_are Z)
      (tagged_given s h read fits (λ C T. pair_on C T t)
      ∙ then_same (file_on (sizes_of C) t) _ _
      (λ q. runs_same (sizes_of C) (sheet_of h) (constraint_at C) (constraint_of (drop 17 s)) _ _ q
      (λ k l g. sized_constraint Z k l (omega (arith, Z.is_m)))))

  pub file_refused : {number place : ℕ} → refused number place ≡ file_on z t → refused number place ≡ pair_call s h t
  file_refused e = sym (call_by ∙ rw (← e))

  pub runs_answer : (first second : List ℕ) {q : ℕ} {r : Answer ℕ} → given q ≡ file_on z t → length t ≡ 7 + 8 * z.n
      → let values = take (length t - 7) (drop 7 t) in
      values_in first ≡ value_of (run_in values (min z.n 256))
      → values_in second ≡ value_of (run_in (take (length values - 4 * z.n) (drop (4 * z.n) values)) (min z.n 256))
      → r ≡ runs_on z (sheet_of h) (constraint_of (drop 17 s)) (values_in first) (values_in second) q → r ≡ pair_call s h t
  runs_answer first second e long f g a =
      let Z = call_sized read in
      a ∙ runs_copied z (sheet_of h) (constraint_of (drop 17 s)) t first second _ (omega (arith, Z.formed.n_most, Z.is_n)) long f g
      ∙ sym (call_by ∙ rw (← e))
