-- Laws of the pair file: its three parts, written one after the other, and the bytes after them as they were.
use Prim.Native.Nat.{ℕ, ◌+◌, ◌*◌, ◌-◌, ◌≤◌}
use mathlib.Core.Path.{◌≡◌, refl, sym, ap, ap₂, ◌∙◌}
use mathlib.Core.List.{List, ◌++◌, append_assoc}
use native.Mathlib.Omega.{arith}
use lib.ListN.{length, take, drop}
use borrow.Rule.Slice.PartMut.{put_mid}
use Rattle.std.proofs.lemmas.List.{take_at, take-append-drop, length-append, length-drop, length-take-le}
use Rattle.std.proofs.lemmas.Slice.{take-put_mid, drop-put_mid, drop-append-drop}
use Rattle.circuit.specs.Reader.{pair_letter, file_start}
use Rattle.records.specs.declared.answer.Watched.{Watched}
use Rattle.records.specs.Recorded.{record_size, from_record, records_in}
use Rattle.records.specs.Call.{pair_size, record_bytes, pair_file}
use Rattle.records.specs.Inner.{Placed}
use Rattle.records.proofs.RecordLaws.{record_ends}

-- a record that is there has all its bytes
pub record_room : (n : ℕ) (s : List ℕ) (k : ℕ) → 1 ≤ k → k ≤ records_in n s → 4 * n ≤ length (from_record n s k)
unfolding from_record
record_room n s k l h = omega (arith, length-drop (4 * n * (k - 1)) s, record_ends n s k refl l h)

pub record_long : {x : ℕ} (n : ℕ) (s part : List ℕ) (k : ℕ) → x ≡ record_size n → 1 ≤ k → k ≤ records_in n s → part ≡ from_record n s k → length (take x part) ≡ x
record_long {x} n s part k e l h here = length-take-le x part (rw (here, e) (record_room n s k l h))

-- a header of seven bytes and two parts of x bytes, written one after the other
module _ (x : ℕ) (a out : List ℕ) (e : length a ≡ 7) (room : 7 + 2 * x ≤ length out) where
  one : List ℕ
  one = a ++ drop 7 out

  one_long : length one ≡ length out
  unfolding one
  one_long = omega (arith, length-append a (drop 7 out), length-drop 7 out, e)

  -- there is room for the second part ..
  pub second_room : length (take (7 + x - 7) (drop 7 (a ++ drop 7 out))) ≡ x
  unfolding one
  second_room = omega (arith, length-take-le (7 + x - 7) (drop 7 one) (omega (arith, length-drop 7 one, one_long)))

  module _ (b : List ℕ) (f : length b ≡ x) where
    two : List ℕ
    two = put_mid 7 (7 + x - 7) one b

    two_long : length two ≡ length out
    unfolding two
    two_long =
        let rest : List ℕ = drop (7 + x - 7) (drop 7 one) in
        omega (
          arith,
          one_long,
          length-append (take 7 one) (b ++ rest),
          length-append b rest,
          length-take-le 7 one (omega (arith, one_long)),
          f,
          length-drop (7 + x - 7) (drop 7 one),
          length-drop 7 one,
        )

    -- .. and for the third
    pub third_room : length (take (7 + 2 * x - (7 + x)) (drop (7 + x) (put_mid 7 (7 + x - 7) (a ++ drop 7 out) b))) ≡ x
    unfolding one two
    third_room = omega (arith, length-take-le (7 + 2 * x - (7 + x)) (drop (7 + x) two) (omega (arith, length-drop (7 + x) two, two_long)))

    three_parts : (c : List ℕ) → length c ≡ x
        → put_mid (7 + x) (7 + 2 * x - (7 + x)) (put_mid 7 (7 + x - 7) (a ++ drop 7 out) b) c ≡ (a ++ (b ++ c)) ++ drop (7 + 2 * x) out
    unfolding one two
    three_parts c g =
        let wide : 7 + x ≤ length two = omega (arith, two_long) in
        let start : take (7 + 2 * x) (put_mid (7 + x) (7 + 2 * x - (7 + x)) two c) ≡ a ++ (b ++ c) =
        take-put_mid (7 + x) (7 + 2 * x - (7 + x)) two c (7 + 2 * x) (omega (arith, g)) wide
        ∙ ap (λ (t : List ℕ). t ++ c)
        (take-put_mid 7 (7 + x - 7) one b (7 + x) (omega (arith, f)) (omega (arith, one_long)) ∙ ap (λ (t : List ℕ). t ++ b) (take_at a (drop 7 out) 7 e))
        ∙ append_assoc a b c in
        let rest : drop (7 + 2 * x) (put_mid (7 + x) (7 + 2 * x - (7 + x)) two c) ≡ drop (7 + 2 * x) out =
        drop-put_mid (7 + x) (7 + 2 * x - (7 + x)) two c (7 + 2 * x) (omega arith) wide (omega (arith, g))
        ∙ drop-put_mid 7 (7 + x - 7) one b (7 + 2 * x) (omega arith) (omega (arith, one_long)) (omega (arith, f))
        ∙ drop-append-drop 7 out a (7 + 2 * x) (omega arith) e in
        sym (take-append-drop (7 + 2 * x) (put_mid (7 + x) (7 + 2 * x - (7 + x)) two c)) ∙ ap₂ (λ (t u : List ℕ). t ++ u) start rest

-- the file of two records
pub file_written : {x : ℕ} {s head one two : List ℕ} (n : ℕ) (out : List ℕ) (p : Watched) → x ≡ record_size n → pair_size n ≤ length out → Placed n s p
    → head ≡ file_start pair_letter p.q → one ≡ take x (from_record n s p.earlier) → two ≡ take x (from_record n s p.later)
    → put_mid (7 + x) (7 + 2 * x - (7 + x)) (put_mid 7 (7 + x - 7) (head ++ drop 7 out) one) two ≡ pair_file n s p ++ drop (pair_size n) out
unfolding pair_file record_bytes
file_written {x} {s} {head} {one} {two} n out p e room P at first second =
    three_parts x head out (ap length at) (rw e room) one (ap length first ∙ record_long n s _ p.earlier e P.earlier_least P.earlier_most refl) two
    (ap length second ∙ record_long n s _ p.later e P.later_least P.later_most refl)
    ∙ rw (at, first, second, e) refl
