-- Laws of the search record by record: while none has made a pair the search goes on, and the first that makes one is what is watched for.
use Prim.Native.Nat.{ℕ, zero, suc, ◌+◌, ◌≤◌, ◌<◌, ◌^◌}
use mathlib.Core.Path.{◌≡◌, refl, sym, ap, ◌∙◌}
use mathlib.Core.Bool.{true, false}
use mathlib.Core.List.{List}
use native.Mathlib.Omega.{arith}
use native.Mathlib.Decide.{ℕ_discrete}
use borrow.Author.Tests.{eq-eqb, ne_eqb}
use lib.Dec.{eqb}
use Rattle.std.specs.Prelude.{Option, None, Some}
use Rattle.std.specs.Option.{is_some}
use Rattle.std.proofs.lemmas.Bool.{both_ways, false_from_ne_true}
use Rattle.circuit.specs.Run.{values_in}
use Rattle.circuit.proofs.SearchLaws.{first_at, none}
use Rattle.records.specs.declared.answer.Watched.{Watched}
use Rattle.records.specs.Recorded.{Recorded, distance, pair_back, pair_at, first_later, watched}
use Rattle.records.specs.Inner.{hash_of, bucket_of, with_record, Kept, Here, Searched}
use Rattle.records.specs.declared.recent.Recent.{Recent}
use Rattle.records.proofs.HashLaws.{bucket_below}
use Rattle.records.proofs.KeptLaws.{kept_broken, kept_next}
use Rattle.records.proofs.NearestLaws.{differ_is, none_near, pair_none}

pub nothing : (r : Option Watched) → is_some r ≡ false → r ≡ None
nothing None e = refl
nothing (Some x) e = absurd (both_ways _ e refl)

module _ (R : Recorded) (w : ℕ) where
  pub searched_start : {x : Recent} → Kept R 1 x → Searched R w 1 x
  searched_start K = record { kept = K; none = λ j l m. absurd (omega arith) }

  -- what the comparison of record k rests on
  pub searched_here : {k : ℕ} {x : Recent} {run : List ℕ} → Searched R w k x → 1 ≤ k → k ≤ R.count → w ≤ 256 → R.satisfies k ≡ true
      → values_in run ≡ R.value k → Here R w k x run
  searched_here S l m n e f = record { least = l; most = m; narrow = n; kept = S.kept; satisfied = e; values = f; none = S.none }

  -- record k makes a pair with one before it
  pair_some : (k : ℕ) → is_some (pair_at R w k) ≡ true → distance R w k ≡ 0 → ⊥
  pair_some k e z = both_ways _ (ap is_some (pair_none R w k z)) e

  none_pair : (k : ℕ) → is_some (pair_at R w k) ≡ false → distance R w k ≡ 0
  unfolding pair_at pair_back
  none_pair k e = go (distance R w k) e
    where
      go : (d : ℕ) → is_some (pair_back R k d) ≡ false → d ≡ 0
      go zero e = refl
      go (suc d) e = absurd (both_ways _ e refl)

  pub searched_found : {k : ℕ} {x : Recent} {r : Option Watched} → Searched R w k x → 1 ≤ k → k ≤ R.count → r ≡ pair_at R w k
      → is_some r ≡ true → r ≡ watched R w
  unfolding watched first_later
  searched_found {k} S l m is e =
      let some = pair_some k (rw is at e) in
      let first = first_at (λ j. eqb (distance R w j) 0) R.count k l m (ne_eqb _ 0 some) (λ j g h. eq-eqb _ 0 (S.none j g h)) in
      is ∙ ap (pair_at R w) (sym first)

  pub searched_end : {k : ℕ} {x : Recent} → Searched R w k x → R.count < k → None ≡ watched R w
  unfolding watched first_later distance
  searched_end {k} S m =
      let ended = none (λ j. eqb (distance R w j) 0) R.count (λ j g h. eq-eqb _ 0 (S.none j g (omega arith))) in
      sym (ap (pair_at R w) ended ∙ pair_none R w 0 (none_near R w 0 (λ j g h. absurd (omega arith))))

  -- one record more makes none
  more : {k : ℕ} {x : Recent} → Searched R w k x → distance R w k ≡ 0 → (j : ℕ) → 1 ≤ j → j < k + 1 → distance R w j ≡ 0
  more {k} S e j l m = go (ℕ_discrete j k)
    where
      go : Dec (j ≡ k) → distance R w j ≡ 0
      go (yes same) = rw same e
      go (no other) = S.none j l (omega arith)

  broken_none : (k : ℕ) → R.satisfies k ≡ false → distance R w k ≡ 0
  broken_none k e = none_near R w k (λ j l m n. false_from_ne_true _ (λ d. both_ways _ e (differ_is R j k d).later))

  pub broken_pair : (k : ℕ) → R.satisfies k ≡ false → None ≡ pair_at R w k
  broken_pair k e = sym (pair_none R w k (broken_none k e))

  pub searched_broken : {k : ℕ} {x : Recent} → Searched R w k x → R.satisfies k ≡ false → Searched R w (k + 1) x
  searched_broken {k} S e = record { kept = kept_broken R S.kept e; none = more S (broken_none k e) }

  pub searched_next : {k : ℕ} {x : Recent} (h : ℕ) → Searched R w k x → R.satisfies k ≡ true → None ≡ pair_at R w k
      → h ≡ hash_of (R.value k) R.i → h < 2 ^ 64 → Searched R w (k + 1) (with_record x k h)
  unfolding bucket_of
  searched_next {k} h S s e is small =
      record { kept = kept_next R S.kept h s is (bucket_below h small); none = more S (none_pair k (ap is_some (sym e))) }
