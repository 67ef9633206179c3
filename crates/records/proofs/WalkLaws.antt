-- Laws of the walk through a bucket, from record k back: no record that it has passed can make a pair with k, and where it ends the pair of k is known.
use Prim.Native.Nat.{ℕ, ◌+◌, ◌%◌, ◌≤◌, ◌<◌}
use mathlib.Core.Path.{◌≡◌, ap, ◌∙◌}
use mathlib.Core.Bool.{true, false}
use mathlib.Core.List.{List}
use native.Mathlib.Omega.{arith}
use lib.ListN.{get_or}
use Rattle.std.specs.Prelude.{None, Some}
use Rattle.std.proofs.lemmas.Bool.{both_ways, cases_eq, cases_lt, false_from_ne_true}
use mathlib.Core.Logic.{◌⊎◌, inl, inr, ◌≢◌}
use Rattle.records.specs.Recorded.{Recorded, differ, pair_at}
use Rattle.records.specs.declared.recent.Recent.{Recent}
use Rattle.records.specs.Inner.{hash_of, bucket_of, bucket, in_bucket, Unlike, Here}
use Rattle.records.proofs.HashLaws.{hash_same}
use Rattle.records.proofs.LastLaws.{Last, last_is}
use Rattle.records.proofs.KeptLaws.{in_satisfies, in_yes}
use Rattle.records.proofs.NearestLaws.{differ_is, differ_yes, shares_is, shares_no, compared_output, none_near, pair_none, pair_is, agreeing_none}

-- the walk from record k is at record `at`, 0 at its end; it has passed those between `at` and k
pub record Walk (R : Recorded) (k at : ℕ) : Type 0 where
  pub order : at < k
  pub within : at ≢ 0 → in_bucket R (bucket R k) at ≡ true
  pub passed : (j : ℕ) → at < j → j < k → differ R j k ≡ false

module _ (R : Recorded) {w k : ℕ} {x : Recent} {run : List ℕ} (H : Here R w k x run) where
  -- a record in another bucket makes no pair
  elsewhere : (j : ℕ) → in_bucket R (bucket R k) j ≡ false → differ R j k ≡ false
  elsewhere j e =
      false_from_ne_true _
      (λ d.
      let D = differ_is R j k d in
      both_ways _ e (in_yes R (bucket R k) j D.earlier (ap bucket_of (hash_same (R.value j) (R.value k) R.i (shares_is R j k D.share)))))

  -- the walk goes to y, the last record in the bucket before `at`
  walk_to : (at y : ℕ) → at ≤ k → Last (in_bucket R (bucket R k)) at y → ((j : ℕ) → at ≤ j → j < k → differ R j k ≡ false) → Walk R k y
  walk_to at y l L passed =
      record {
        order = go (cases_eq y 0);
        within = L.passes;
        passed = λ j m n. past j m n (cases_lt j at);
      }
    where
      go : (y ≡ 0) ⊎ (y ≡ 0 → ⊥) → y < k
      go (inl z) = omega (arith, H.least)
      go (inr z) = omega (arith, L.inside z)

      past : (j : ℕ) → y < j → j < k → (j < at) ⊎ (at ≤ j) → differ R j k ≡ false
      past j m n (inl before) = elsewhere j (L.between j m before)
      past j m n (inr after) = passed j after n

  pub walk_start : (b at : ℕ) → b ≡ bucket R k → b < 256 → at ≡ get_or x.heads b 0 → Walk R k at
  walk_start b at is small e =
      rw (e ∙ H.kept.head b small, is)
      (walk_to k _ (omega arith) (last_is (in_bucket R (bucket R k)) k) (λ j l m. absurd (omega arith)))

  module _ {at : ℕ} (W : Walk R k at) (some : at ≢ 0) where
    satisfies_at : R.satisfies at ≡ true
    satisfies_at = (in_satisfies R (bucket R k) at (W.within some)).0

    pub hash_at : k ≤ at + 256 → get_or x.hashes (at % 256) 0 ≡ hash_of (R.value at) R.i
    hash_at near = H.kept.hashed at (omega arith) W.order near satisfies_at

    -- a record that differs at an input is passed
    pub walk_next : (q next : ℕ) → Unlike R at (R.value k) q → q ≤ R.i → k ≤ at + 256 → next ≡ get_or x.links (at % 256) 0 → Walk R k next
    walk_next q next U l near e =
        let link = H.kept.link at (omega arith) W.order near satisfies_at in
        let same : bucket R at ≡ bucket R k = (in_satisfies R (bucket R k) at (W.within some)).1 in
        rw (e ∙ link, same)
        (walk_to at _ (omega (arith, W.order)) (last_is (in_bucket R (bucket R k)) at) (λ j m n. past j m n (cases_eq j at)))
      where
        past : (j : ℕ) → at ≤ j → j < k → (j ≡ at) ⊎ (j ≡ at → ⊥) → differ R j k ≡ false
        past j m n (inl here) =
            rw here
            (false_from_ne_true _ (λ d. both_ways _ (shares_no R at k (U.input l)) (differ_is R at k d).share))
        past j m n (inr other) = W.passed j (omega arith) n

    pub walk_smaller : (next : ℕ) → k ≤ at + 256 → next ≡ get_or x.links (at % 256) 0 → next < at
    walk_smaller next near e =
        let link = H.kept.link at (omega arith) W.order near satisfies_at in
        rw (e ∙ link) (less _ (last_is (in_bucket R (bucket R at)) at))
      where
        less : (x : ℕ) → Last (in_bucket R (bucket R at)) at x → x < at
        less x L = go (cases_eq x 0)
          where
            go : (x ≡ 0) ⊎ (x ≡ 0 → ⊥) → x < at
            go (inl z) = omega arith
            go (inr z) = L.inside z

    -- one that agrees at inputs and outputs decides that there is no pair
    pub walk_agrees : ((s : ℕ) → 1 ≤ s → s ≤ R.i + R.o → R.value at s ≡ R.value k s) → pair_at R w k ≡ None
    walk_agrees same =
        pair_none R w k (agreeing_none R (omega arith) W.order satisfies_at same W.passed w (H.none at (omega arith) W.order))

    -- one that differs at an output makes the pair
    pub walk_differs : (q : ℕ) → Unlike R at (R.value k) q → R.i < q → k < at + w → pair_at R w k ≡ Some (record { q = q; earlier = at; later = k })
    walk_differs q U l near =
        let O = U.output l in
        let C = compared_output R at k q l O.0 O.1 O.2 in
        pair_is R w k at q
        (record {
          least = omega arith;
          order = W.order;
          near = near;
          makes = differ_yes R at k
              (record { earlier = satisfies_at; later = H.satisfied; share = C.0; output = λ z. omega (arith, C.1, z) });
          between = W.passed;
        })
        C.1

  -- where the bucket or the window ends there is no pair
  pub walk_end : {at : ℕ} → Walk R k at → ((at ≡ 0 → ⊥) → at + w ≤ k) → pair_at R w k ≡ None
  walk_end {at} W out =
      pair_none R w k
      (none_near R w k
      (λ j l m n. W.passed j (go j l n (cases_eq at 0)) m))
    where
      go : (j : ℕ) → 1 ≤ j → k < j + w → (at ≡ 0) ⊎ (at ≡ 0 → ⊥) → at < j
      go j l n (inl z) = omega arith
      go j l n (inr z) = omega (arith, out z)
