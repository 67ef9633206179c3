-- Two records make a pair in the words of rule 6.14 exactly where the tests of their runs say so.
use Prim.Native.Nat.{ℕ, ◌+◌, ◌≤◌, ◌<◌}
use mathlib.Core.Path.{◌≡◌}
use mathlib.Core.Logic.{◌⊎◌, inl, inr}
use mathlib.Core.Bool.{true}
use mathlib.Core.List.{List}
use native.Mathlib.Omega.{arith}
use borrow.Author.Tests.{eq-eqb, eqb-true}
use Rattle.std.proofs.lemmas.Bool.{both_ways, cases_lt}
use Rattle.circuit.specs.Circuit.{Circuit, IsRun, Satisfying}
use Rattle.circuit.specs.Runs.{agree}
use Rattle.circuit.proofs.CopyLaws.{run_length}
use Rattle.circuit.proofs.SearchLaws.{First, first_is, passed_from, satisfying, none_unsatisfied, agree_is, agree_yes}
use Rattle.records.specs.Recorded.{Recorded, record_run, records_in, recorded, lowest_output, differ}
use Rattle.records.specs.Watched.{MakesPair, AllBelow}
use Rattle.records.proofs.NearestLaws.{Differs, differ_yes, differ_is, shares_yes, shares_is}

module _ (C : Circuit) (s : List ℕ) where
  R : Recorded
  R = recorded C s

  satisfied_is : (k : ℕ) → IsRun C (record_run C.n s k) → R.satisfies k ≡ true → Satisfying C (record_run C.n s k)
  unfolding R
  satisfied_is k r e = satisfying C _ r (eqb-true _ 0 e)

  satisfied_yes : (k : ℕ) → 0 < C.p → Satisfying C (record_run C.n s k) → R.satisfies k ≡ true
  unfolding R
  satisfied_yes k h S = eq-eqb _ 0 (none_unsatisfied C _ h S)

  -- at the lowest output two records differ, and below it they don't
  lowest_first : (j k : ℕ) → (lowest_output R j k ≡ 0 → ⊥) → First (agree (R.value j) (R.value k)) (R.i + 1) R.o (lowest_output R j k)
  unfolding lowest_output
  lowest_first j k h = first_is _ _ _ h

  no_lowest : (j k : ℕ) → lowest_output R j k ≡ 0 → (q : ℕ) → R.i + 1 ≤ q → q < R.i + 1 + R.o → agree (R.value j) (R.value k) q ≡ true
  unfolding lowest_output
  no_lowest j k z q l m = passed_from _ _ _ (omega arith) z q l m

  -- the tests, from the words
  pub record Tested (j k q : ℕ) : Type 0 where
    pub differs : differ (recorded C s) j k ≡ true
    pub lowest : lowest_output (recorded C s) j k ≤ q

  pub makes_differ : {w : ℕ} (j k q : ℕ) → 0 < C.p → MakesPair C s w j k q → Tested j k q
  unfolding R
  makes_differ j k q h M = record { differs = differ_yes R j k D; lowest = go (cases_lt q (lowest_output R j k)) }
    where
      some : lowest_output R j k ≡ 0 → ⊥
      some z = M.differ (agree_is _ _ q (no_lowest j k z q (omega (arith, M.above)) (omega (arith, M.within))))

      D : Differs R j k
      D =
          record {
            earlier = satisfied_yes j h M.earlier;
            later = satisfied_yes k h M.later;
            share = shares_yes R j k (λ t l m. agree_yes _ _ t (M.share t l m));
            output = some;
          }

      go : (q < lowest_output R j k) ⊎ (lowest_output R j k ≤ q) → lowest_output R j k ≤ q
      go (inl less) = absurd (M.differ (agree_is _ _ q ((lowest_first j k some).before q (omega (arith, M.above)) less)))
      go (inr more) = more

  -- the words, from the tests
  pub differ_makes : {w : ℕ} (j k : ℕ) → AllBelow C s → 1 ≤ j → j < k → k ≤ records_in C.n s → k < j + w → differ (recorded C s) j k ≡ true
      → MakesPair C s w j k (lowest_output (recorded C s) j k)
  unfolding R record_run
  differ_makes j k below l m n near e =
      let D = differ_is R j k e in
      let F = lowest_first j k D.output in
      record {
        least = l;
        order = m;
        most = n;
        near = near;
        earlier = satisfied_is j (is_run j l (omega arith)) D.earlier;
        later = satisfied_is k (is_run k (omega arith) n) D.later;
        share = shares_is R j k D.share;
        above = omega (arith, F.least);
        within = omega (arith, F.most);
        differ = λ z. both_ways _ F.fails (agree_yes _ _ _ z);
      }
    where
      is_run : (k : ℕ) → 1 ≤ k → k ≤ records_in C.n s → IsRun C (record_run C.n s k)
      is_run k l m = record { sized = run_length _ C.n; below = λ t g h. below k t l m g h }
