-- WATCHED (rule 7.14), for all bytes and windows: "none" exactly if no two records make a pair, else the pair that the rule names.
use Prim.Native.Nat.{ℕ, ◌≤◌, ◌<◌}
use mathlib.Core.Path.{◌≡◌, refl, sym}
use mathlib.Core.Logic.{◌⊎◌, inl, inr}
use mathlib.Core.List.{List}
use native.Mathlib.Omega.{arith}
use Rattle.std.specs.Prelude.{None, Some}
use Rattle.std.proofs.lemmas.Bool.{both_ways, cases_lt}
use Rattle.circuit.specs.Circuit.{Circuit}
use Rattle.circuit.specs.Answer.{given}
use Rattle.circuit.specs.Call.{sizes_of, circuit_call, circuit_of}
use Rattle.circuit.specs.declared.reader.Sizes.{Sizes}
use Rattle.circuit.proofs.Sized.{call_sized, sizes_are}
use Rattle.circuit.proofs.AnswerLaws.{next_given}
use Rattle.circuit.proofs.WellFormed.{read_well_formed}
use Rattle.records.specs.declared.answer.Watched.{Watched}
use Rattle.records.specs.Recorded.{recorded, watched}
use Rattle.records.specs.Call.{Found, window_of, allowed, watch_on, watch_call}
use Rattle.records.specs.Watched.{MakesPair, FirstPair, IsFirstPair, AllBelow, WatchedAnswer}
use Rattle.records.specs.Inner.{Placed}
use Rattle.records.proofs.CallLaws.{Whole, whole_is, whole_given}
use Rattle.records.proofs.MakesLaws.{makes_differ, differ_makes}
use Rattle.records.proofs.NearestLaws.{none_is}
use Rattle.records.proofs.RecordLaws.{record_value}
use Rattle.records.proofs.WatchedLaws.{Earliest, watched_some, watched_none}

module _ (C : Circuit) (s : List ℕ) (w : ℕ) (positive : 0 < C.p) where
  none_makes : watched (recorded C s) w ≡ None → (j k q : ℕ) → MakesPair C s w j k q → ⊥
  none_makes e j k q M =
      let none = watched_none (recorded C s) w e k (omega (arith, M.least, M.order)) M.most in
      both_ways _ (none_is (recorded C s) w k none j M.least M.order M.near) (makes_differ C s j k q positive M).differs

  module _ (below : AllBelow C s) {x : Watched} (E : Earliest (recorded C s) w x) where
    first_pair : FirstPair C s w x
    first_pair =
        record {
          makes = rw E.output at
              (differ_makes C s x.earlier x.later below E.nearest.least E.nearest.order E.most E.nearest.near E.nearest.makes);
          earliest = λ j k q M. not_before j k q M (cases_lt k x.later);
          nearest = λ j q M. not_between j q M (cases_lt x.earlier j);
          lowest = λ q M. let T = makes_differ C s x.earlier x.later q positive M in omega (arith, E.output, T.lowest);
        }
      where
        not_before : (j k q : ℕ) → MakesPair C s w j k q → (k < x.later) ⊎ (x.later ≤ k) → x.later ≤ k
        not_before j k q M (inl less) =
            let none = E.before k (omega (arith, M.least, M.order)) less in
            absurd (both_ways _ (none_is (recorded C s) w k none j M.least M.order M.near) (makes_differ C s j k q positive M).differs)
        not_before j k q M (inr more) = more

        not_between : (j q : ℕ) → MakesPair C s w j x.later q → (x.earlier < j) ⊎ (j ≤ x.earlier) → j ≤ x.earlier
        not_between j q M (inl between) =
            absurd (both_ways _ (E.nearest.between j between M.order) (makes_differ C s j x.later q positive M).differs)
        not_between j q M (inr other) = other

  is_first_pair : AllBelow C s → (x : Found) → watched (recorded C s) w ≡ x → IsFirstPair C s w x
  is_first_pair below None e = none_makes e
  is_first_pair below (Some x) e = first_pair below (watched_some (recorded C s) w x e)

all_below : (C : Circuit) {s : List ℕ} {w room : ℕ} → Whole (sizes_of C) s w room → AllBelow C s
all_below C {s} W k j l m g h = rw (record_value C.n s k j g h) (W.values k l m j g h)

pub watches : (c s : List ℕ) (w room : ℕ) → WatchedAnswer c s w room (watch_call c s w room)
unfolding watch_call watch_on
watches c s w room C size read =
    let positive : 0 < C.p = omega (arith, (read_well_formed c C size read).p_least) in
    rw read
    (record {
      answered = λ even below least most wide.
          let W : Whole (sizes_of C) s w room =
          record {
            even = even;
            values = λ k l m j g h. rw (record_value C.n s k j g h) at (below k j l m g h);
            least = least;
            most = most;
            wide = wide;
          } in
          (watched (recorded C s) (window_of w), rw (whole_given W) refl);
      first = λ x e.
          let A = next_given (allowed (sizes_of C) s w room) _ e in
          let is : watched (recorded C s) (window_of w) ≡ x = cc in
          is_first_pair C s (window_of w) positive (all_below C (whole_is A.first)) x is;
    })

-- the pair that is found is of records that are there
pub placed : (c : List ℕ) {s : List ℕ} {z : Sizes} (w room : ℕ) {v : ℕ} {x : Watched} → circuit_call c ≡ given z → given tt ≡ allowed z s w room
    → v ≡ window_of w → Some x ≡ watched (recorded (circuit_of c) s) v → Placed z.n s x
placed c {s} {z} w room {v} {x} read fine is e =
    let Z = call_sized read in
    let C = circuit_of c in
    let W : Whole (sizes_of C) s w room = rw (sizes_are Z) at (whole_is (sym fine)) in
    let F : FirstPair C s (window_of w) x = is_first_pair C s (window_of w) (omega (arith, Z.formed.p_least)) (all_below C W) (Some x) (rw is at (sym e)) in
    rw Z.is_n
    (record {
      earlier_least = F.makes.least;
      earlier_most = omega (arith, F.makes.order, F.makes.most);
      later_least = omega (arith, F.makes.least, F.makes.order);
      later_most = F.makes.most;
      small = omega (arith, F.makes.within, Z.formed.fits, Z.formed.n_most);
    })
