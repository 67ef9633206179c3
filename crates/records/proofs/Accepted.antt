-- ACCEPTED (rule 7.14): the file of a pair that was found is one that the pair call accepts at its output, with the empty sheet.
use Prim.Native.Nat.{ℕ, zero, suc, ◌+◌, ◌*◌, ◌-◌, ◌≤◌, ◌<◌}
use mathlib.Core.Path.{◌≡◌, refl, sym, ap, ap₂, ◌∙◌}
use mathlib.Core.Bool.{true}
use mathlib.Core.List.{List, [], ◌∷◌, ◌++◌, append-nil}
use mathlib.Core.Logic.{◌⊎◌, inl, inr}
use native.Mathlib.Nat.{div-add-mod'}
use native.Mathlib.Omega.{arith}
use lib.ListN.{length, take, drop}
use Rattle.std.specs.Prelude.{Some}
use Rattle.std.proofs.lemmas.Bool.{cases_lt}
use Rattle.std.proofs.lemmas.List.{get_or_append_left, get_or-take, length-append, length-take-le, drop_at, take_at}
use Rattle.circuit.specs.Bytes.{byte_at, u16_at, u32_at}
use Rattle.circuit.specs.Reader.{pair_letter, has_mark}
use Rattle.circuit.specs.Runs.{value_at, run_in}
use Rattle.circuit.specs.Call.{sizes_of, circuit_of}
use Rattle.circuit.proofs.CopyLaws.{run_value, value_drop}
use Rattle.circuit.proofs.ByteLaws.{byte_drop}
use Rattle.circuit.specs.Circuit.{Circuit, value_of}
use Rattle.circuit.specs.Reading.{whole}
use Rattle.circuit.specs.Reader.{read_circuit}
use Rattle.circuit.specs.Answer.{given}
use Rattle.tags.specs.Sheet.{empty_sheet}
use Rattle.tags.proofs.Empty.{no_tags, empty_given, empty_allowed}
use Rattle.pair.specs.Call.{signal_of, values_of, first_run, second_run, pair_call}
use Rattle.pair.proofs.Exact.{exact}
use Rattle.records.specs.declared.answer.Watched.{Watched}
use Rattle.records.specs.Recorded.{from_record, record_run}
use Rattle.records.specs.Call.{record_bytes, pair_file, pair_size, watch_call, watch_output}
use Rattle.records.specs.Watched.{MakesPair, Written, PairAccepted}
use Rattle.records.proofs.Watched.{watches}
use Rattle.records.proofs.FileLaws.{record_room, record_long}

-- runs in bytes that are the same are the same
run_same : (n : ℕ) (t u : List ℕ) → ((i : ℕ) → i < 4 * n → byte_at t i ≡ byte_at u i) → run_in t n ≡ run_in u n
unfolding run_in u32_at u16_at
run_same zero t u h = refl
run_same (suc n) t u h =
    ap₂ (λ (x : ℕ) (r : List ℕ). x ∷ r)
    (rw (h 0 (omega arith), h 1 (omega arith), h 2 (omega arith), h 3 (omega arith)) refl)
    (run_same n (drop 4 t) (drop 4 u) (λ i l. byte_drop 4 t i ∙ h (4 + i) (omega arith) ∙ sym (byte_drop 4 u i)))

-- the run that a record's bytes hold, whatever follows them
run_ahead : (n : ℕ) (u v : List ℕ) → 4 * n ≤ length u → run_in (take (4 * n) u ++ v) n ≡ run_in u n
unfolding byte_at
run_ahead n u v l =
    run_same n (take (4 * n) u ++ v) u
    (λ i h.
    get_or_append_left (take (4 * n) u) v 0 i (omega (arith, length-take-le (4 * n) u l)) ∙ get_or-take (4 * n) u i 0 h)

module _ {C : Circuit} {s : List ℕ} {w : ℕ} {x : Watched} (M : MakesPair C s w x.earlier x.later x.q) where
  -- the values of the file: two records
  one : List ℕ
  one = record_bytes C.n s x.earlier

  two : List ℕ
  two = record_bytes C.n s x.later

  one_long : length one ≡ 4 * C.n
  unfolding one record_bytes
  one_long = record_long C.n s _ x.earlier refl M.least (omega (arith, M.order, M.most)) refl

  two_long : length two ≡ 4 * C.n
  unfolding two record_bytes
  two_long = record_long C.n s _ x.later refl (omega (arith, M.least, M.order)) M.most refl

  values_are : values_of (pair_file C.n s x) ≡ one ++ two
  unfolding pair_file one two
  values_are = refl

  earlier_room : 4 * C.n ≤ length (from_record C.n s x.earlier)
  earlier_room = record_room C.n s x.earlier M.least (omega (arith, M.order, M.most))

  later_room : 4 * C.n ≤ length (from_record C.n s x.later)
  later_room = record_room C.n s x.later (omega (arith, M.least, M.order)) M.most

  first_is : first_run C.n (pair_file C.n s x) ≡ record_run C.n s x.earlier
  unfolding one record_bytes record_run
  first_is = ap (λ (t : List ℕ). run_in t C.n) values_are ∙ run_ahead C.n (from_record C.n s x.earlier) two earlier_room

  rest_is : drop (4 * C.n) (values_of (pair_file C.n s x)) ≡ two
  rest_is = ap (drop (4 * C.n)) values_are ∙ drop_at one two (4 * C.n) one_long

  second_is : second_run C.n (pair_file C.n s x) ≡ record_run C.n s x.later
  unfolding two record_bytes record_run
  second_is =
      ap (λ (t : List ℕ). run_in t C.n) (rest_is ∙ sym (append-nil two)) ∙ run_ahead C.n (from_record C.n s x.later) [] later_room

  -- the signal in the header
  signal_is : signal_of (pair_file C.n s x) ≡ x.q
  unfolding pair_file u16_at byte_at
  signal_is = omega (arith, div-add-mod' x.q 256)

  long_is : length (pair_file C.n s x) ≡ 7 + 8 * C.n
  unfolding pair_file one two
  long_is = omega (arith, length-append one two, one_long, two_long)

  mark_is : has_mark pair_letter (pair_file C.n s x) ≡ true
  unfolding pair_file has_mark byte_at
  mark_is = refl

  version_is : u16_at (pair_file C.n s x) 3 ≡ 1
  unfolding pair_file u16_at byte_at
  version_is = refl

  -- each value is that of one of the runs
  value_below : (number : ℕ) → 1 ≤ number → number ≤ 2 * C.n → value_at (values_of (pair_file C.n s x)) number < C.p
  value_below number l m = go (cases_lt C.n number)
    where
      t : List ℕ
      t = values_of (pair_file C.n s x)

      go : (C.n < number) ⊎ (number ≤ C.n) → value_at t number < C.p
      go (inr first) =
          rw (sym (run_value t C.n number l first) ∙ ap (λ (r : List ℕ). value_of r number) first_is) (M.earlier.is_run.below number l first)
      go (inl second) =
          let at : C.n + (number - C.n) ≡ number = omega arith in
          rw (ap (value_at t) (sym at)
          ∙ sym (value_drop t C.n (number - C.n) (omega arith))
          ∙ sym (run_value (drop (4 * C.n) t) C.n (number - C.n) (omega arith) (omega arith))
          ∙ ap (λ (r : List ℕ). value_of r (number - C.n)) second_is)
          (M.later.is_run.below (number - C.n) (omega arith) (omega arith))

  pub file_accepted : (c : List ℕ) (size : ℕ) → read_circuit c ≡ whole C size → pair_call c empty_sheet (pair_file C.n s x) ≡ given x.q
  file_accepted c size read =
      (exact c empty_sheet (pair_file C.n s x)).accepts C no_tags
      (record {
        unrefused = record { size = size; read = read; sheeted = empty_given (sizes_of C) };
        least = omega (arith, long_is);
        mark = mark_is;
        version = version_is;
        sized = long_is;
        output_least = rw signal_is M.above;
        output_most = rw signal_is M.within;
        below = value_below;
      })
      (record {
        first = rw first_is (empty_allowed C _ M.earlier);
        second = rw second_is (empty_allowed C _ M.later);
        share = rw (first_is, second_is) M.share;
        differ = rw (first_is, second_is, signal_is) M.differ;
      })
      ∙ ap given signal_is

  -- where it stands at the start of a buffer
  pub start_written : (c : List ℕ) (size : ℕ) (rest : List ℕ) → read_circuit c ≡ whole C size
      → Written C c s x (take (pair_size C.n) (pair_file C.n s x ++ rest))
  start_written c size rest read =
      rw (take_at (pair_file C.n s x) rest (pair_size C.n) (omega (arith, long_is)))
      (record { accepted = file_accepted c size read; first = first_is; second = second_is })

pub accepted : (c s : List ℕ) (w : ℕ) (out : List ℕ) → PairAccepted c s (watch_call c s w (length out)) (watch_output c s w out)
unfolding watch_output circuit_of
accepted c s w out C size read x e =
    rw (e, read) (start_written ((watches c s w (length out) C size read).first (Some x) e).makes c size _ read)
