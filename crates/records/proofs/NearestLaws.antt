-- Which record before record k decides: laws of the comparison of two records, of the nearest record with which record k makes a pair, and NEAREST, that the
-- nearest record which satisfies the circuit and shares its inputs decides whether there is one, where no record before k makes a pair.
use Prim.Native.Nat.{ℕ, suc, ◌+◌, ◌-◌, ◌≤◌, ◌<◌, min}
use mathlib.Core.Path.{◌≡◌, sym, ◌∙◌}
use mathlib.Core.Bool.{Bool, true, false, not}
use native.Mathlib.Omega.{arith}
use borrow.Author.Tests.{eq-eqb, ne_eqb, eqb-true}
use Rattle.std.specs.Prelude.{None, Some}
use mathlib.Core.Logic.{◌⊎◌, inl, inr, ◌≢◌}
use Rattle.std.proofs.lemmas.Bool.{and_from, and_parts, both_ways, cases_order, false_from_ne_true, not-true, not-false, not_from_true, not_from_false}
use Rattle.circuit.specs.Runs.{agree}
use Rattle.circuit.proofs.SearchLaws.{first_is, passed, none, none_from, first_at, first_at_from, first_same_from, agree_is, agree_yes, agree_no}
use Rattle.records.specs.Recorded.{Recorded, shares, lowest_output, differ, distance, pair_back, pair_at}

module _ (R : Recorded) where
  -- Two records: the first signal at which they differ, inputs before outputs

  module _ (j k : ℕ) where
    abbrev pub alike : ℕ → Bool
    alike = agree (R.value j) (R.value k)

    pub shares_yes : ((s : ℕ) → 1 ≤ s → s ≤ R.i → alike s ≡ true) → shares R j k ≡ true
    unfolding shares
    shares_yes h = eq-eqb _ 0 (none (agree (R.value j) (R.value k)) R.i h)

    pub shares_is : shares R j k ≡ true → (s : ℕ) → 1 ≤ s → s ≤ R.i → R.value j s ≡ R.value k s
    unfolding shares
    shares_is e s l m = agree_is (R.value j) (R.value k) s (passed (agree (R.value j) (R.value k)) R.i (eqb-true _ 0 e) s l m)

    pub shares_no : (((s : ℕ) → 1 ≤ s → s ≤ R.i → R.value j s ≡ R.value k s) → ⊥) → shares R j k ≡ false
    shares_no h = false_from_ne_true _ (λ e. h (shares_is e))

    pub compared_output : (q : ℕ) → R.i < q → q ≤ R.i + R.o → ((s : ℕ) → 1 ≤ s → s < q → R.value j s ≡ R.value k s) → R.value j q ≢ R.value k q
        → (shares R j k ≡ true) × (lowest_output R j k ≡ q)
    unfolding lowest_output
    compared_output q l m same other = (
      shares_yes (λ s g h. agree_yes (R.value j) (R.value k) s (same s g (omega arith))),
      first_at_from (agree (R.value j) (R.value k)) (R.i + 1) R.o q (omega arith) (omega arith) (agree_no (R.value j) (R.value k) q other)
          (λ s g h. agree_yes (R.value j) (R.value k) s (same s (omega arith) h)),
    )

    -- both satisfy the circuit, share their inputs and differ at an output
    pub record Differs : Type 0 where
      pub earlier : R.satisfies j ≡ true
      pub later : R.satisfies k ≡ true
      pub share : shares R j k ≡ true
      pub output : lowest_output R j k ≡ 0 → ⊥

    pub differ_yes : Differs → differ R j k ≡ true
    unfolding differ
    differ_yes D =
        and_from _ _ (and_from _ _ (and_from _ _ D.earlier D.later) D.share) (not_from_false _ (ne_eqb _ 0 D.output))

    pub differ_is : differ R j k ≡ true → Differs
    unfolding differ
    differ_is e =
        let a = and_parts _ _ e in
        let b = and_parts _ _ a.0 in
        let c = and_parts _ _ b.0 in
        record {
          earlier = c.0;
          later = c.1;
          share = b.1;
          output = λ z. both_ways _ (not-true _ a.1) (eq-eqb _ 0 z);
        }

  -- How far back record k makes a pair

  module _ (w k : ℕ) where
    back : ℕ → Bool
    back d = not (differ R (k - d) k)

    pub none_near : ((j : ℕ) → 1 ≤ j → j < k → k < j + w → differ R j k ≡ false) → distance R w k ≡ 0
    unfolding distance
    none_near h =
        none (λ d. not (differ R (k - d) k)) (min (w - 1) (k - 1)) (λ d l m. not_from_false _ (h (k - d) (omega arith) (omega arith) (omega arith)))

    pub none_is : distance R w k ≡ 0 → (j : ℕ) → 1 ≤ j → j < k → k < j + w → differ R j k ≡ false
    unfolding distance
    none_is e j l m n =
        let same : k - (k - j) ≡ j = omega arith in
        rw same at (not-true _ (passed (λ d. not (differ R (k - d) k)) (min (w - 1) (k - 1)) e (k - j) (omega arith) (omega arith)))

    -- record j is the nearest
    pub record Nearest (j : ℕ) : Type 0 where
      pub least : 1 ≤ j
      pub order : j < k
      pub near : k < j + w
      pub makes : differ R j k ≡ true
      pub between : (i : ℕ) → j < i → i < k → differ R i k ≡ false

    pub nearest_is : (j : ℕ) → Nearest j → distance R w k ≡ k - j
    unfolding distance
    nearest_is j N =
        let same : k - (k - j) ≡ j = omega (arith, N.order) in
        first_at (λ d. not (differ R (k - d) k)) (min (w - 1) (k - 1)) (k - j) (omega (arith, N.order))
        (omega (arith, N.least, N.order, N.near))
        (rw same (not_from_true _ N.makes))
        (λ d l m. not_from_false _ (N.between (k - d) (omega arith) (omega arith)))

    pub found_is : (distance R w k ≡ 0 → ⊥) → Nearest (k - distance R w k)
    unfolding distance
    found_is h =
        let d = distance R w k in
        let F = first_is (λ d. not (differ R (k - d) k)) 1 (min (w - 1) (k - 1)) h in
        record {
          least = omega (arith, F.least, F.most);
          order = omega (arith, F.least, F.most);
          near = omega (arith, F.least, F.most);
          makes = not-false _ F.fails;
          between = λ i l m.
              let same : k - (k - i) ≡ i = omega arith in
              rw same at (not-true _ (F.before (k - i) (omega arith) (omega (arith, F.least, F.most))));
        }

    pub pair_none : distance R w k ≡ 0 → pair_at R w k ≡ None
    unfolding pair_at pair_back
    pair_none e = rw e

    pub pair_is : (j q : ℕ) → Nearest j → lowest_output R j k ≡ q → pair_at R w k ≡ Some (record { q = q; earlier = j; later = k })
    unfolding pair_at pair_back
    pair_is j q N e =
        let d : k - j ≡ suc (k - j - 1) = omega (arith, N.order) in
        let back : k - suc (k - j - 1) ≡ j = omega (arith, N.order) in
        rw (nearest_is j N, d, back, e)

  -- NEAREST: record `at` satisfies the circuit and agrees with record k at inputs and outputs, no record between the two can make a pair with k, and no record
  -- before k makes one. Then k makes none: a record that made one with k would have made one with `at`.
  module _ {k at : ℕ} (least : 1 ≤ at) (order : at < k) (satisfies : R.satisfies at ≡ true)
      (same : (s : ℕ) → 1 ≤ s → s ≤ R.i + R.o → R.value at s ≡ R.value k s)
      (between : (j : ℕ) → at < j → j < k → differ R j k ≡ false) where
    lowest_same : (j : ℕ) → lowest_output R j at ≡ lowest_output R j k
    unfolding lowest_output agree
    lowest_same j =
        first_same_from (agree (R.value j) (R.value at)) (agree (R.value j) (R.value k)) (R.i + 1) R.o
        (λ s l m. alike_same s (same s (omega arith) (omega arith)))
      where
        alike_same : (s : ℕ) → R.value at s ≡ R.value k s → agree (R.value j) (R.value at) s ≡ agree (R.value j) (R.value k) s
        alike_same s e = rw e

    -- a pair with k at a record before `at`
    moved : (j : ℕ) → differ R j k ≡ true → differ R j at ≡ true
    moved j e =
        let D = differ_is j k e in
        differ_yes j at
        (record {
          earlier = D.earlier;
          later = satisfies;
          share = shares_yes j at
              (λ s l m. agree_yes (R.value j) (R.value at) s (shares_is j k D.share s l m ∙ sym (same s l (omega arith))));
          output = λ z. D.output (sym (lowest_same j) ∙ z);
        })

    none_at : differ R at k ≡ false
    unfolding lowest_output
    none_at =
        false_from_ne_true _
        (λ e.
        (differ_is at k e).output
        (none_from (agree (R.value at) (R.value k)) (R.i + 1) R.o (λ s l m. agree_yes (R.value at) (R.value k) s (same s (omega arith) (omega arith)))))

    pub agreeing_none : (w : ℕ) → distance R w at ≡ 0 → distance R w k ≡ 0
    agreeing_none w earlier = none_near w k (λ j l m n. go j l n (cases_order j at) m)
      where
        go : (j : ℕ) → 1 ≤ j → k < j + w → (j ≡ at) ⊎ ((j < at) ⊎ (at < j)) → j < k → differ R j k ≡ false
        go j l n (inl e) m = rw e none_at
        go j l n (inr (inl less)) m =
            false_from_ne_true _ (λ e. both_ways _ (none_is w at earlier j l less (omega arith)) (moved j e))
        go j l n (inr (inr more)) m = between j more m
