-- Laws of records in bytes: where they stand, their values, and that a run copied from one satisfies the circuit exactly if the record does.
use Prim.Native.Nat.{ℕ, zero, suc, ◌+◌, ◌*◌, ◌-◌, ◌/◌, ◌≤◌, min}
use mathlib.Core.Path.{◌≡◌, refl, sym, subst, ◌∙◌}
use mathlib.Core.Bool.{not}
use mathlib.Core.List.{List}
use native.Mathlib.Nat.{div-add-mod', mul-le-mul, le_refl}
use native.Mathlib.Omega.{arith}
use borrow.Author.Tests.{ne_eqb}
use lib.Dec.{eqb}
use lib.ListN.{length, drop, take}
use Rattle.std.specs.Prelude.{Option, None, Some}
use Rattle.std.specs.Option.{is_some}
use Rattle.circuit.specs.Circuit.{constraint_at, value_of}
use Rattle.circuit.specs.Reader.{constraint_of}
use Rattle.circuit.specs.Run.{values_in}
use Rattle.circuit.specs.Runs.{value_at, run_in, filled, first_from, found, below, satisfied_by, unsatisfied, agree}
use Rattle.circuit.specs.Answer.{given}
use Rattle.circuit.specs.Call.{circuit_call, circuit_of}
use Rattle.circuit.specs.declared.reader.Sizes.{Sizes}
use Rattle.circuit.proofs.CopyLaws.{run_value, run_past, filled_run}
use Rattle.circuit.proofs.ReaderLaws.{part_drop}
use Rattle.circuit.proofs.SearchLaws.{First, first_is, passed, found_some, found_nothing, satisfied_same, agree_is, agree_yes}
use Rattle.circuit.proofs.Sized.{call_sized, sized_constraint}
use Rattle.records.specs.Recorded.{record_size, from_record, record_run, records_in, Recorded, recorded}
use Rattle.records.specs.Call.{fits}
use Rattle.records.specs.Inner.{hash_of, Unlike, Compared, IsRunFor}
use Rattle.records.proofs.HashLaws.{hash_same}
use mathlib.Core.Logic.{◌≢◌}
use Rattle.std.proofs.lemmas.Bool.{both_ways}

-- a record that is there ends within the file, where a record has x bytes
pub record_ends : {x : ℕ} (n : ℕ) (s : List ℕ) (k : ℕ) → x ≡ record_size n → 1 ≤ k → k ≤ records_in n s → x * (k - 1) + x ≤ length s
unfolding records_in
record_ends n s k e l h =
    let all : 4 * n * k ≤ 4 * n * (length s / (4 * n)) = mul-le-mul (le_refl (4 * n)) h in
    rw e (omega (arith, div-add-mod' (length s) (4 * n), all, go k l))
  where
    go : (k : ℕ) → 1 ≤ k → 4 * n * (k - 1) + 4 * n ≡ 4 * n * k
    go zero l = absurd (omega arith)
    go (suc k) l = let one : suc k - 1 ≡ k = omega arith in rw one (omega arith)

-- the part of the file from it on
pub record_part : {x : ℕ} (n : ℕ) (s : List ℕ) (k : ℕ) → x ≡ record_size n → 1 ≤ k → k ≤ records_in n s
    → take (length s - x * (k - 1)) (drop (x * (k - 1)) s) ≡ from_record n s k
unfolding from_record
record_part n s k e l h = rw e (part_drop s (4 * n * (k - 1)) (omega (arith, record_ends n s k refl l h)))

pub record_value : (n : ℕ) (s : List ℕ) (k j : ℕ) → 1 ≤ j → j ≤ n → value_of (record_run n s k) j ≡ value_at (from_record n s k) j
unfolding record_run
record_value n s k j l h = run_value (from_record n s k) n j l h

-- whether a search that answers an Option found nothing
pub found_none : (n : ℕ) (r : Option ℕ) → r ≡ found n → not (is_some r) ≡ eqb n 0
found_none zero r e = rw e refl
found_none (suc n) r e = rw (e, ne_eqb (suc n) 0 (λ z. omega arith)) refl

-- no value of a record is too large
pub fits_by : (p n : ℕ) (s part : List ℕ) (k : ℕ) (r : Option ℕ) → part ≡ from_record n s k → r ≡ found (first_from (below p part) 1 n)
    → fits p n s k ≡ not (is_some r)
unfolding fits
fits_by p n s part k r e f = sym (found_none _ r (f ∙ rw e refl))

-- an array that holds a run takes another
pub run_ready : (t : List ℕ) (n : ℕ) → IsRunFor n (value_of (run_in t n))
unfolding value_of
run_ready t n = record { constant = refl; past = run_past t n }

-- as does one that holds no values
pub empty_ready : (t : List ℕ) (n : ℕ) {v : ℕ → ℕ} → v ≡ value_of (run_in t 0) → IsRunFor n v
empty_ready t n e = let R = run_ready t 0 in rw e (record { constant = R.constant; past = λ s l. R.past s (omega arith) })

module _ (c : List ℕ) {z : Sizes} (read : circuit_call c ≡ given z) (s : List ℕ) (k : ℕ) where
  -- what the code finds of a run that satisfies or breaks constraints, and what the record of that run does
  broken_is : (run : List ℕ) → values_in run ≡ (recorded (circuit_of c) s).value k
      → first_from (satisfied_by z.p (constraint_of (drop 17 c)) (values_in run)) 1 z.m ≡ unsatisfied (circuit_of c) (record_run (circuit_of c).n s k)
  unfolding unsatisfied
  broken_is run e =
      let Z = call_sized read in
      rw (e, Z.is_p, Z.is_m)
      (satisfied_same (circuit_of c).p (circuit_of c).m (constraint_of (drop 17 c)) (constraint_at (circuit_of c)) _
      (λ j l h. sym (sized_constraint Z j l (omega (arith, Z.is_m)))))

  -- an array into which the run of record k was put, and the first constraint that it breaks
  pub record Copied (run : List ℕ) (broken : Option ℕ) : Type 0 where
    pub ready : IsRunFor z.n (values_in run)
    pub values : values_in run ≡ (recorded (circuit_of c) s).value k
    pub satisfies : (recorded (circuit_of c) s).satisfies k ≡ not (is_some broken)

  pub copied : {part body run : List ℕ} {old : ℕ → ℕ} {broken : Option ℕ} → IsRunFor z.n old → part ≡ from_record z.n s k
      → values_in run ≡ filled part (min z.n 256) old → body ≡ drop 17 c
      → broken ≡ found (first_from (satisfied_by z.p (constraint_of body) (values_in run)) 1 z.m) → Copied run broken
  unfolding record_run
  copied {part} {body} {run} {old} {broken} I here e at f =
      let Z = call_sized read in
      let all : min z.n 256 ≡ z.n = omega (arith, Z.formed.n_most, Z.is_n) in
      let is : values_in run ≡ value_of (run_in (from_record z.n s k) z.n) = e ∙ rw (here, all) (filled_run (from_record z.n s k) z.n old I.constant I.past) in
      let values : values_in run ≡ (recorded (circuit_of c) s).value k = is ∙ rw Z.is_n refl in
      record {
        ready = rw is (run_ready (from_record z.n s k) z.n);
        values = values;
        satisfies = sym (found_none _ broken (f ∙ rw (at, broken_is run values) refl));
      }

  pub count_is : records_in z.n s ≡ (recorded (circuit_of c) s).count
  count_is = rw (call_sized read).is_n refl

  -- comparing the bytes of record k with a run
  module _ (part run : List ℕ) (here : part ≡ from_record z.n s k) where
    R : Recorded
    R = recorded (circuit_of c) s

    value_is : (j : ℕ) → 1 ≤ j → j ≤ z.i + z.o → R.value k j ≡ value_at part j
    unfolding R
    value_is j l m =
        let Z = call_sized read in
        rw (here, ← Z.is_n) (record_value z.n s k j l (omega (arith, Z.formed.fits, Z.is_i, Z.is_o, Z.is_n)))

    pub compared : (r : Option ℕ) → r ≡ found (first_from (agree (value_at part) (values_in run)) 1 (z.i + z.o))
        → Compared (recorded (circuit_of c) s) k (values_in run) r
    unfolding R
    compared None e =
        let Z = call_sized read in
        λ j l m. value_is j l (omega (arith, Z.is_i, Z.is_o, m))
        ∙ agree_is _ _ j (passed _ (z.i + z.o) (found_nothing _ e) j l (omega (arith, Z.is_i, Z.is_o, m)))
    compared (Some q) e =
        let Z = call_sized read in
        let f = found_some _ e in
        let F : First (agree (value_at part) (values_in run)) 1 (z.i + z.o) q =
        subst (λ (x : ℕ). First (agree (value_at part) (values_in run)) 1 (z.i + z.o) x) f.0 (first_is (agree (value_at part) (values_in run)) 1 (z.i + z.o) f.1) in
        let below : q ≤ z.i + z.o = omega (arith, F.most) in
        let other : R.value k q ≢ values_in run q = λ y. both_ways _ F.fails (agree_yes _ _ q (sym (value_is q F.least below) ∙ y)) in
        record {
          input = λ l same. other (same q F.least l);
          output = λ l. (
            omega (arith, below, Z.is_i, Z.is_o),
            λ j g h. value_is j g (omega (arith, below)) ∙ agree_is _ _ j (F.before j g h),
            other,
          );
        }

-- runs with other hashes have other inputs
pub hashes_unlike : {R : Recorded} {j : ℕ} {v : ℕ → ℕ} {g h : ℕ} → g ≡ hash_of (R.value j) R.i → h ≡ hash_of v R.i → (g ≡ h → ⊥) → Unlike R j v 0
hashes_unlike {R} {j} {v} e f other =
    record {
      input = λ l same. other (e ∙ hash_same (R.value j) v R.i same ∙ sym f);
      output = λ l. absurd (omega arith);
    }
