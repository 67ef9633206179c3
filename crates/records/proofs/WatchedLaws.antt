-- WATCHED: what is found is the pair that rule 6.14 names, and nothing is found exactly where no two records make a pair.
use Prim.Native.Nat.{ℕ, zero, suc, ◌-◌, ◌≤◌, ◌<◌}
use mathlib.Core.Path.{◌≡◌, refl, sym, ap, ◌∙◌}
use mathlib.Core.Logic.{◌≢◌}
use native.Mathlib.Omega.{arith}
use native.Mathlib.Decide.{ℕ_discrete}
use borrow.Author.Tests.{eqb-true, eq-eqb}
use lib.Dec.{eqb}
use Rattle.std.specs.Prelude.{None, Some}
use Rattle.std.proofs.lemmas.Bool.{both_ways}
use Rattle.std.proofs.lemmas.Option.{none-some}
use Rattle.circuit.specs.Runs.{first_from}
use Rattle.circuit.proofs.SearchLaws.{First, first_is, passed}
use Rattle.records.specs.declared.answer.Watched.{Watched}
use Rattle.records.specs.Recorded.{Recorded, lowest_output, distance, pair_back, pair_at, first_later, watched}
use Rattle.records.proofs.NearestLaws.{Nearest, found_is, none_near, pair_none}

module _ (R : Recorded) (w : ℕ) where
  -- the pair of record k, where it makes one
  pub record PairOf (k : ℕ) (x : Watched) : Type 0 where
    pub later : x.later ≡ k
    pub makes : distance R w k ≡ 0 → ⊥
    pub nearest : Nearest R w k x.earlier
    pub output : lowest_output R x.earlier k ≡ x.q

  pair_of : (k : ℕ) (x : Watched) → pair_at R w k ≡ Some x → PairOf k x
  unfolding pair_at pair_back
  pair_of k x e = go (distance R w k) refl e
    where
      go : (d : ℕ) → distance R w k ≡ d → pair_back R k d ≡ Some x → PairOf k x
      go zero z e = absurd (none-some x e)
      go (suc d) z e =
          let is : x ≡ record { q = lowest_output R (k - suc d) k; earlier = k - suc d; later = k } = cc in
          let some : (distance R w k ≡ 0 → ⊥) = λ y. omega (arith, z, y) in
          rw is (record { later = refl; makes = some; nearest = rw z at (found_is R w k some); output = refl })

  -- what is watched for
  pub record Earliest (x : Watched) : Type 0 where
    pub least : 1 ≤ x.later
    pub most : x.later ≤ R.count
    pub nearest : Nearest R w x.later x.earlier
    pub output : lowest_output R x.earlier x.later ≡ x.q
    pub before : (k : ℕ) → 1 ≤ k → k < x.later → distance R w k ≡ 0

  none_at_zero : pair_at R w 0 ≡ None
  none_at_zero = pair_none R w 0 (none_near R w 0 (λ j l m. absurd (omega arith)))

  some_later : first_later R w ≢ 0 → First (λ k. eqb (distance R w k) 0) 1 R.count (first_later R w)
  unfolding first_later
  some_later h = first_is (λ k. eqb (distance R w k) 0) 1 R.count h

  pub watched_some : (x : Watched) → watched R w ≡ Some x → Earliest x
  unfolding watched
  watched_some x e =
      let P = pair_of (first_later R w) x e in
      let F = some_later (λ z. none-some x (sym none_at_zero ∙ ap (pair_at R w) (sym z) ∙ e)) in
      record {
        least = omega (arith, P.later, F.least);
        most = omega (arith, P.later, F.most);
        nearest = rw P.later P.nearest;
        output = rw P.later P.output;
        before = λ k l m. eqb-true _ 0 (F.before k l (omega (arith, P.later)));
      }

  none_later : (d : ℕ) (k : ℕ) → pair_back R k d ≡ None → d ≡ 0
  unfolding pair_back
  none_later zero k e = refl
  none_later (suc d) k e = absurd (none-some _ (sym e))

  pub watched_none : watched R w ≡ None → (k : ℕ) → 1 ≤ k → k ≤ R.count → distance R w k ≡ 0
  unfolding watched pair_at first_later
  watched_none e k l m = eqb-true _ 0 (passed (λ k. eqb (distance R w k) 0) R.count (go (ℕ_discrete (first_later R w) 0)) k l m)
    where
      go : Dec (first_later R w ≡ 0) → first_from (λ k. eqb (distance R w k) 0) 1 R.count ≡ 0
      go (yes z) = z
      go (no z) = absurd (both_ways _ (some_later z).fails (eq-eqb _ 0 (none_later _ _ e)))
