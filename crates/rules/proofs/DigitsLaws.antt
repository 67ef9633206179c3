-- The digits test by the weights of digits, over any indices: a sum over smaller weights, turn by turn, and that the test is the rule's.
use Prim.Native.Nat.{ℕ, suc, ◌+◌, ◌*◌, ◌≤◌, ◌<◌}
use mathlib.Core.Path.{◌≡◌, refl, sym, ap, ◌∙◌}
use mathlib.Core.Bool.{Bool, true, false, not, ◌&&◌}
use mathlib.Core.List.{List, [], ◌∷◌}
use native.Mathlib.Nat.{mul-zero, mul-le-mul_right}
use native.Mathlib.Omega.{arith}
use lib.Dec.{ltb, eqb}
use lib.ListN.{length, get_or}
use Rattle.std.specs.List.{list_all}
use borrow.Author.Tests.{ne_eqb, eqb-false, lt-ltb, le-ltb, ltb-true, ltb-false, not-true}
use Rattle.field.specs.Inverse.{inverse}
use Rattle.laws.specs.Sum.{sum, all, keep, implies}
use Rattle.laws.specs.Rules.{weight, live, differs, smaller_term, smaller_sum, separate, live_term, separated}
use Rattle.laws.proofs.Sum.{and_left, and_right, and_both, by_test, true_or_false, true_by, false_by, implies_elim, implies_intro, keep_true, keep_false}
use Rattle.laws.proofs.Sum.{and-true, keep_le, keep_mono, keep_zero, all_at, all_from, sum_cong, sum_mono}
use Rattle.rules.specs.View.{coef_in}
use Rattle.rules.specs.Rows.{rank}
use Rattle.rules.specs.Live.{is_live}
use Rattle.rules.specs.Added.{scaled, weight_by}
use Rattle.rules.specs.Weights.{smaller, smaller_at, exceeds}
use Rattle.rules.specs.declared.rows.Entry.{Entry}
use Rattle.rules.specs.declared.gathered.Weighed.{Weighed}
use Rattle.rules.proofs.SumLaws.{sum_grows, sum_on}
use Rattle.rules.proofs.Ranks.{rank_below, sum_rank}
use Rattle.rules.proofs.RowLaws.{rank_onto, rank_distinct}
use Rattle.rules.proofs.Few.{few}

-- a test of every element, by index
pub all_is : {A : Type 0} (p : A → Bool) (xs : List A) (d : A) → list_all p xs ≡ all (length xs) (λ i. p (get_or xs i d))
unfolding all
all_is p [] d = refl
all_is p (x ∷ xs) d = ap (λ (b : Bool). p x && b) (all_is p xs d)

keep_twice : (a b : Bool) (x : ℕ) → keep (a && b) x ≡ keep a (keep b x)
unfolding keep
keep_twice true b x = refl
keep_twice false b x = refl

both_ways : (a b : Bool) → (a ≡ true → b ≡ true) → (b ≡ true → a ≡ true) → a ≡ b
both_ways true b f g = sym (f refl)
both_ways false true f g = g refl
both_ways false false f g = refl

-- One weight against those of the digits

pub smaller_yes : (a x w : ℕ) → a < w → x ≡ smaller a x w
unfolding smaller
smaller_yes a x w h = sym (keep_true _ _ (lt-ltb a w h))

pub smaller_no : (a x w : ℕ) → w ≤ a → 0 ≡ smaller a x w
unfolding smaller
smaller_no a x w h = sym (keep_false _ _ (le-ltb a w h))

module _ (W X : ℕ → ℕ) (w : ℕ) where
  pub smaller_on : (j below y a x : ℕ) → below ≡ sum j (smaller_at W X w) → a ≡ W j → x ≡ X j → y ≡ smaller a x w → below + y ≡ sum (j + 1) (smaller_at W X w)
  unfolding smaller_at
  smaller_on j below y a x e a-is x-is y-is = sum_on (smaller_at W X w) j below y e (y-is ∙ rw (a-is, x-is))

  -- partial sums are at most the sum of all products
  pub smaller_room : (j count below y a x : ℕ) → j < count → below ≡ sum j (smaller_at W X w) → a ≡ W j → x ≡ X j → y ≡ smaller a x w → below + y ≤ sum count X
  unfolding smaller_at smaller
  smaller_room j count below y a x h e a-is x-is y-is =
      omega (
        arith,
        smaller_on j below y a x e a-is x-is y-is,
        sum_mono (j + 1) (smaller_at W X w) X (λ s l. keep_le _ _),
        sum_grows (j + 1) count X (omega arith),
      )

module _ (weighed : Weighed) (marks : List Bool) (x : Entry) where
  pub exceeds_dead : is_live marks x ≡ false → true ≡ exceeds weighed marks x
  unfolding exceeds implies
  exceeds_dead e = sym (rw e)

  pub exceeds_live : is_live marks x ≡ true → (w y : ℕ) → w ≡ weight_by weighed.p weighed.scale x
      → y ≡ sum (length weighed.weights.now) (smaller_at (coef_in weighed.weights.now) (coef_in weighed.products.now) w) → ltb y w ≡ exceeds weighed marks x
  unfolding exceeds implies
  exceeds_live e w y w-is y-is = sym (rw (e, sym w-is, sym y-is))

-- The rule, by any weights

-- weight times bound, added up over the indices that pass, and over those of them with a weight below x
abbrev pub total_sum : ℕ → (ℕ → Bool) → (ℕ → ℕ) → (ℕ → ℕ) → ℕ
total_sum n q w b = sum n (λ u. keep (q u) (w u * b u))

abbrev pub low_sum : ℕ → (ℕ → Bool) → (ℕ → ℕ) → (ℕ → ℕ) → ℕ → ℕ
low_sum n q w b x = sum n (λ u. keep (q u && ltb (w u) x) (w u * b u))

-- as `separated`, over the test for unmarked signals and their weights
pub separated_by : ℕ → ℕ → (ℕ → Bool) → (ℕ → ℕ) → (ℕ → ℕ) → Bool
separated_by p n q w b =
    all n
    (λ s. implies (q s) (all n (λ u. implies (q u && not (eqb s u)) (not (eqb (w s) (w u)))) && ltb (low_sum n q w b (w s)) (w s)))
    && ltb (total_sum n q w b) p

pub separated_by_lem : (p n : ℕ) (R b : ℕ → ℕ) (m : ℕ → Bool) (r k : ℕ) → k ≡ inverse p (R r)
    → separated p n R b m r ≡ separated_by p (suc n) (live R m) (scaled p R k) b
unfolding separated separate differs smaller_sum smaller_term live_term weight scaled separated_by
separated_by_lem p n R b m r k e = rw e refl

pub record Parts (p n : ℕ) (q : ℕ → Bool) (w b : ℕ → ℕ) : Type 0 where
  pub differ : (s u : ℕ) → s < n → u < n → q s ≡ true → q u ≡ true → (s ≡ u → ⊥) → w s ≡ w u → ⊥
  pub exceed : (s : ℕ) → s < n → q s ≡ true → low_sum n q w b (w s) < w s
  pub total : total_sum n q w b < p

module _ (p n : ℕ) (q : ℕ → Bool) (w b : ℕ → ℕ) where
  abbrev unlike : ℕ → ℕ → Bool
  unlike s u = implies (q u && not (eqb s u)) (not (eqb (w s) (w u)))

  abbrev apart : ℕ → Bool
  apart s = implies (q s) (all n (unlike s) && ltb (low_sum n q w b (w s)) (w s))

  pub parts : separated_by p n q w b ≡ true → Parts p n q w b
  unfolding separated_by
  parts e =
      record {
        differ = λ s u l h i j d.
            eqb-false (w s) (w u)
            (not-true _
            (implies_elim (q u && not (eqb s u)) _ (all_at n (unlike s) (and_left _ _ (one s l i)) u h)
            (and_both (q u) _ j (ap not (ne_eqb s u d)))));
        exceed = λ s l i. ltb-true _ _ (and_right (all n (unlike s)) _ (one s l i));
        total = ltb-true _ p (and_right (all n apart) _ e);
      }
    where
      one : (s : ℕ) → s < n → q s ≡ true → (all n (unlike s) && ltb (low_sum n q w b (w s)) (w s)) ≡ true
      one s l i = implies_elim (q s) _ (all_at n apart (and_left _ _ e) s l) i

  whole : Parts p n q w b → separated_by p n q w b ≡ true
  unfolding separated_by
  whole P =
      and_both (all n apart) _
      (all_from n apart
      (λ s l.
      implies_intro (q s) _
      (λ i.
      and_both (all n (unlike s)) _
      (all_from n (unlike s)
      (λ u h.
      implies_intro (q u && not (eqb s u)) _
      (λ j.
      ap not (ne_eqb (w s) (w u) (P.differ s u l h i (and_left (q u) _ j) (eqb-false s u (not-true _ (and_right (q u) _ j))))))))
      (lt-ltb _ _ (P.exceed s l i)))))
      (lt-ltb _ p P.total)

-- The rule over places

-- index s and place i have the same test, weight and bound
pub record Alike (q q' : ℕ → Bool) (w w' b b' : ℕ → ℕ) (s i : ℕ) : Type 0 where
  pub test : q s ≡ q' i
  pub weight : w s ≡ w' i
  pub bound : b s ≡ b' i

-- the indices that stand have places by rank, and no other passes
module _ (p n : ℕ) (on q q' : ℕ → Bool) (w w' b b' : ℕ → ℕ)
    (off : (s : ℕ) → s < n → on s ≡ false → q s ≡ false)
    (alike : (s : ℕ) → s < n → on s ≡ true → Alike q q' w w' b b' s (rank on s)) where
  total_places : total_sum n q w b ≡ total_sum (rank on n) q' w' b'
  total_places =
      sum_rank on n _ _ (λ s l e. let A = alike s l e in rw (A.test, A.weight, A.bound)) (λ s l e. keep_false _ _ (off s l e))

  low_places : (x : ℕ) → low_sum n q w b x ≡ low_sum (rank on n) q' w' b' x
  low_places x =
      sum_rank on n _ _ (λ s l e. let A = alike s l e in rw (A.test, A.weight, A.bound)) (λ s l e. keep_false _ _ (rw (off s l e)))

  stands_by : (s : ℕ) → s < n → q s ≡ true → on s ≡ true
  stands_by s l e = true_by _ (λ g. true_or_false _ e (off s l g))

  to_places : Parts p n q w b → Parts p (rank on n) q' w' b'
  to_places P =
      record {
        differ = λ i j l h e g d same.
            let S = rank_onto on n i l in
            let U = rank_onto on n j h in
            let A = rw S.is at (alike S.index S.below S.passes) in
            let B = rw U.is at (alike U.index U.below U.passes) in
            P.differ S.index U.index S.below U.below (A.test ∙ e) (B.test ∙ g)
            (λ z. d (sym S.is ∙ ap (rank on) z ∙ U.is)) (A.weight ∙ same ∙ sym B.weight);
        exceed = λ i l e.
            let S = rank_onto on n i l in
            let A = rw S.is at (alike S.index S.below S.passes) in
            rw (sym (low_places (w' i)), sym A.weight) (P.exceed S.index S.below (A.test ∙ e));
        total = rw total_places at P.total;
      }

  from_places : Parts p (rank on n) q' w' b' → Parts p n q w b
  from_places P =
      record {
        differ = λ s u l h e g d same.
            let i = stands_by s l e in
            let j = stands_by u h g in
            P.differ (rank on s) (rank on u) (rank_below on s n l i) (rank_below on u n h j) (sym (alike s l i).test ∙ e) (sym (alike u h j).test ∙ g)
            (λ z. d (rank_distinct on s u i j z)) (sym (alike s l i).weight ∙ same ∙ (alike u h j).weight);
        exceed = λ s l e.
            let i = stands_by s l e in
            rw (low_places (w s), (alike s l i).weight) (P.exceed (rank on s) (rank_below on s n l i) (sym (alike s l i).test ∙ e));
        total = rw (sym total_places) at P.total;
      }

  pub by_places : separated_by p n q w b ≡ separated_by p (rank on n) q' w' b'
  by_places = both_ways _ _ (λ e. whole p _ q' w' b' (to_places (parts p n q w b e))) (λ e. whole p n q w b (from_places (parts p _ q' w' b' e)))

-- The test by digits is the rule's

module _ (p n : ℕ) (q : ℕ → Bool) (w b : ℕ → ℕ) where
  abbrev bound : ℕ → ℕ
  bound u = keep (q u) (b u)

  abbrev counts : ℕ → Bool
  counts u = ltb 0 (bound u)

  counts_passes : (u : ℕ) → counts u ≡ true → q u ≡ true
  counts_passes u e = true_by _ (λ g. absurd (omega (arith, ltb-true 0 (bound u) e, keep_false (q u) (b u) g)))

  counts_bound : (u : ℕ) → counts u ≡ true → bound u ≡ b u
  counts_bound u e = keep_true _ _ (counts_passes u e)

  -- only bounds above 0 add to a sum
  counts_none : (u : ℕ) (t : Bool) → counts u ≡ false → keep (q u && t) (w u * b u) ≡ 0
  counts_none u t e =
      by_test (q u) (λ g. let z : b u ≡ 0 = omega (arith, ltb-false 0 (bound u) e, keep_true (q u) (b u) g) in rw (z, mul-zero) (keep_zero _))
      (λ g. keep_false _ _ (rw g))

  counts_same : (u : ℕ) (t : Bool) → keep (q u && t) (w u * b u) ≡ keep (counts u && t) (w u * b u)
  counts_same u t =
      by_test (counts u) (λ e. ap (λ (a : Bool). keep (a && t) (w u * b u)) (counts_passes u e ∙ sym e))
      (λ e. counts_none u t e ∙ sym (keep_false (counts u && t) _ (rw e)))

  pub total_over : p ≤ total_sum n q w b → separated_by p n q w b ≡ false
  total_over h = false_by _ (λ e. absurd (omega (arith, (parts p n q w b e).total)))

  -- weights are at least 1
  pub bounds_over : ((u : ℕ) → u < n → q u ≡ true → 1 ≤ w u) → p ≤ sum n bound → separated_by p n q w b ≡ false
  bounds_over some h =
      total_over
      (omega (
        arith,
        h,
        sum_mono n bound (λ u. keep (q u) (w u * b u))
            (λ u l. keep_mono (q u) (q u) (b u) (w u * b u) (λ e. e) (λ e. omega (arith, mul-le-mul_right (b u) (some u l e)))),
      ))

  -- 32 have a bound above 0
  pub many_over : p < 4294967296 → ((s : ℕ) → w s < p) → 32 ≤ rank counts n → separated_by p n q w b ≡ false
  many_over fits below many =
      false_by _
      (λ i.
      let P = parts p n q w b i in
      absurd (omega (
        arith,
        few n counts w
            (λ s u l m e f. P.differ s u l m (counts_passes s e) (counts_passes u f))
            b
            (λ s l e. rw (sym (sum_cong n _ _ (λ u a. counts_same u (ltb (w u) (w s))))) (P.exceed s l (counts_passes s e)))
            (λ s e. omega (arith, ltb-true 0 (bound s) e, counts_bound s e))
            p
            fits
            below
            (rw (sym (sum_cong n _ _ (λ u a. all_same u))) P.total),
      )))
    where
      all_same : (u : ℕ) → keep (q u) (w u * b u) ≡ keep (counts u) (w u * b u)
      all_same u = ap (λ (t : Bool). keep t (w u * b u)) (sym (and-true (q u))) ∙ counts_same u true ∙ ap (λ (t : Bool). keep t (w u * b u)) (and-true _)

  -- only digits add to the sum over smaller weights
  low_digits : (x : ℕ) → low_sum n q w b x ≡ sum n (λ u. keep (counts u) (smaller (w u) (w u * b u) x))
  unfolding smaller
  low_digits x = sum_cong n _ _ (λ u l. counts_same u (ltb (w u) x) ∙ keep_twice (counts u) (ltb (w u) x) (w u * b u))

  -- where coefficients differ and p isn't reached, that each stands out is the rule
  pub stands_end : (low : ℕ → ℕ) → ((x : ℕ) → sum n (λ u. keep (counts u) (smaller (w u) (w u * b u) x)) ≡ low x) → total_sum n q w b < p
      → ((s u : ℕ) → s < n → u < n → q s ≡ true → q u ≡ true → (s ≡ u → ⊥) → w s ≡ w u → ⊥)
      → all n (λ s. implies (q s) (ltb (low (w s)) (w s))) ≡ separated_by p n q w b
  stands_end low low-is total differ =
      both_ways _ _
      (λ e.
      whole p n q w b
      (record {
        differ = differ;
        exceed = λ s l i. rw (here (w s)) (ltb-true _ _ (implies_elim (q s) _ (all_at n stands e s l) i));
        total = total;
      }))
      (λ e.
      all_from n stands (λ s l. implies_intro (q s) _ (λ i. lt-ltb _ (w s) (rw (sym (here (w s))) ((parts p n q w b e).exceed s l i)))))
    where
      stands : ℕ → Bool
      stands s = implies (q s) (ltb (low (w s)) (w s))

      here : (x : ℕ) → low_sum n q w b x ≡ low x
      here x = low_digits x ∙ low-is x
