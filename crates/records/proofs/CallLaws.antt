-- Laws of the call: what it answers and leaves where the circuit is refused, where the records, the window or the buffer are, and else.
use Prim.Native.Nat.{ℕ, zero, suc, ◌%◌, ◌≤◌, ◌<◌}
use mathlib.Core.Path.{◌≡◌, refl, sym, ap, ◌∙◌}
use mathlib.Core.List.{List, ◌++◌}
use native.Mathlib.Omega.{arith}
use lib.ListN.{length, drop}
use borrow.Author.Tests.{eqb-true, leb-true, eq-eqb, le-leb, ne_eqb}
use mathlib.Core.Logic.{◌≢◌}
use Rattle.std.specs.Prelude.{None, Some}
use Rattle.std.proofs.lemmas.Bool.{and_parts, both_ways, not-true, not_from_false}
use Rattle.circuit.specs.Runs.{value_at, below}
use Rattle.circuit.specs.Answer.{Answer, refused, given, and_then}
use Rattle.circuit.specs.Call.{circuit_call, circuit_of}
use Rattle.circuit.specs.declared.reader.Sizes.{Sizes}
use Rattle.circuit.proofs.AnswerLaws.{ask_given, none_given}
use Rattle.circuit.proofs.SearchLaws.{passed, none, below_is, below_yes}
use Rattle.circuit.proofs.Sized.{call_sized, sizes_are, on_sized, on_refused}
use Rattle.records.specs.declared.answer.Watched.{Watched}
use Rattle.records.specs.Recorded.{record_size, from_record, records_in, recorded, watched}
use Rattle.records.specs.Call.{Found, window_of, fits, is_window, pair_size, allowed, watch_on, watch_call, pair_file, left_by, watch_output}

-- what is left in the buffer, by the answer
module _ (c s : List ℕ) (w : ℕ) (out : List ℕ) where
  abbrev pub Answered : Answer Found → List ℕ → Type 0
  Answered r left = (r ≡ watch_call c s w (length out)) × (left ≡ watch_output c s w out)

  answered : {r : Answer Found} {left : List ℕ} → r ≡ watch_call c s w (length out) → left ≡ left_by r (circuit_of c).n s out → Answered r left
  unfolding watch_output
  answered e f = (e, rw e at f)

  pub stopped : {number place : ℕ} → refused number place ≡ circuit_call c → Answered (refused number place) out
  unfolding watch_call
  stopped e = answered (on_refused c (λ C. watch_on C s w (length out)) e) refl

  module _ {z : Sizes} (read : circuit_call c ≡ given z) where
    call_is : watch_call c s w (length out) ≡ and_then (allowed z s w (length out)) (λ done. given (watched (recorded (circuit_of c) s) (window_of w)))
    unfolding watch_call watch_on
    call_is = on_sized (λ C. watch_on C s w (length out)) (call_sized read) ∙ rw (sizes_are (call_sized read)) refl

    pub turned_back : {number place : ℕ} → refused number place ≡ allowed z s w (length out) → Answered (refused number place) out
    turned_back e = answered (sym (call_is ∙ rw (sym e) refl)) refl

    module _ (whole : given tt ≡ allowed z s w (length out)) where
      pub none_seen : {r : Found} {v : ℕ} → v ≡ window_of w → r ≡ watched (recorded (circuit_of c) s) v → r ≡ None → Answered (given r) out
      none_seen is e f = answered (ap given (e ∙ ap (watched (recorded (circuit_of c) s)) is) ∙ sym (call_is ∙ rw (sym whole) refl)) (rw f refl)

      pub pair_seen : {r : Found} {x : Watched} {v : ℕ} {left : List ℕ} → v ≡ window_of w → r ≡ watched (recorded (circuit_of c) s) v → r ≡ Some x
          → left ≡ pair_file z.n s x ++ drop (pair_size z.n) out → Answered (given (Some x)) left
      pair_seen is e f g = answered (ap given (sym f ∙ e ∙ ap (watched (recorded (circuit_of c) s)) is) ∙ sym (call_is ∙ rw (sym whole) refl)) (g ∙ rw (call_sized read).is_n refl)

-- none of refusals 32 to 34 is met
pub record Whole (z : Sizes) (s : List ℕ) (w room : ℕ) : Type 0 where
  pub even : length s % record_size z.n ≡ 0
  pub values : (k : ℕ) → 1 ≤ k → k ≤ records_in z.n s → (j : ℕ) → 1 ≤ j → j ≤ z.n → value_at (from_record z.n s k) j < z.p
  pub least : w ≢ 1
  pub most : w ≤ 256
  pub wide : pair_size z.n ≤ room

pub whole_is : {z : Sizes} {s : List ℕ} {w room : ℕ} → allowed z s w room ≡ given tt → Whole z s w room
unfolding allowed is_window fits
whole_is {z} {s} {w} {room} e =
    let a = ask_given _ 32 0 _ e in
    let b = none_given _ 33 0 _ a.1 in
    let c = ask_given _ 34 0 _ b.1 in
    let d = ask_given _ 34 0 _ c.1 in
    let window = and_parts _ _ c.0 in
    record {
      even = eqb-true _ 0 a.0;
      values = λ k l m j g h. below_is z.p (from_record z.n s k) j (passed (below z.p (from_record z.n s k)) z.n (eqb-true _ 0 (passed _ (records_in z.n s) b.0 k l m)) j g h);
      least = λ one. both_ways _ (not-true _ window.0) (eq-eqb w 1 one);
      most = leb-true w 256 window.1;
      wide = leb-true _ _ d.0;
    }

pub whole_given : {z : Sizes} {s : List ℕ} {w room : ℕ} → Whole z s w room → allowed z s w room ≡ given tt
unfolding allowed is_window fits
whole_given {z} {s} {w} {room} W =
    let high = none (fits z.p z.n s) (records_in z.n s) (λ k l m. eq-eqb _ 0 (none (below z.p (from_record z.n s k)) z.n (λ j g h. below_yes z.p _ j _ refl (W.values k l m j g h)))) in
    rw (eq-eqb _ 0 W.even, high, not_from_false _ (ne_eqb w 1 W.least), le-leb w 256 W.most, le-leb _ _ W.wide) refl

pub window_small : (w : ℕ) → w ≤ 256 → window_of w ≤ 256
unfolding window_of
window_small zero l = omega arith
window_small (suc w) l = l
