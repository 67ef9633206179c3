-- Few signals have a bound above 0: where weights differ and each exceeds the sum of weight times bound over the smaller ones, k of them make
-- the whole sum at least 2^k - 1.
use Prim.Native.Nat.{ℕ, zero, suc, ◌+◌, ◌-◌, ◌*◌, ◌≤◌, ◌<◌}
use mathlib.Core.Path.{◌≡◌, sym, ap, ◌∙◌}
use mathlib.Core.Logic.{⊎_elim}
use mathlib.Core.Bool.{Bool, true, false, not, ◌&&◌, and-true}
use native.Mathlib.Nat.{mul-le-mul_left, zero-add}
use native.Mathlib.Omega.{arith}
use lib.Dec.{ltb, eqb}
use borrow.Author.Tests.{lt-ltb, le-ltb, ltb-true, eq-eqb, ne_eqb, eqb-true}
use Rattle.laws.specs.Sum.{sum, keep}
use Rattle.laws.proofs.Sum.{and_left, and_right, and_both, by_test, by_equal, by_order, true_or_false, false_by, keep_true, keep_false}
use Rattle.laws.proofs.Sum.{sum_cong, sum_out, sum_zeros}
use Rattle.laws.proofs.Digits.{find_below}
use Rattle.rules.specs.Rows.{rank, one}

-- Powers of two

power : ℕ → ℕ
power zero = 1
power (suc k) = 2 * power k

power_next : (a k : ℕ) → a ≡ suc k → power a ≡ 2 * power k
unfolding power
power_next a k e = ap power e

power_grows : (k d : ℕ) → power k ≤ power (d + k)
unfolding power
power_grows k zero = omega (arith, ap power (zero-add k))
power_grows k (suc d) = omega (arith, power_next (suc d + k) (d + k) (omega arith), power_grows k d)

power_large : (k : ℕ) → 32 ≤ k → 4294967296 ≤ power k
unfolding power
power_large k h = let e : k ≡ k - 32 + 32 = omega arith in rw e (power_grows 32 (k - 32))

-- Sums over the indices that pass a test and have a weight below x

module _ (n : ℕ) (q : ℕ → Bool) (w : ℕ → ℕ) where
  abbrev part : (ℕ → ℕ) → ℕ → ℕ
  part f x = sum n (λ u. keep (q u && ltb (w u) x) (f u))

  -- an index whose weight isn't x stands below x + 1 exactly if it stands below x
  test_same : (x u : ℕ) → (q u ≡ true → w u ≡ x → ⊥) → (q u && ltb (w u) (suc x)) ≡ (q u && ltb (w u) x)
  test_same x u d = by_test (q u) (λ e. ap (λ (b : Bool). q u && b) (test e)) (λ e. rw e)
    where
      test : q u ≡ true → ltb (w u) (suc x) ≡ ltb (w u) x
      test e =
          by_order (w u) x (λ l. lt-ltb (w u) (suc x) (omega arith) ∙ sym (lt-ltb (w u) x l))
          (λ l. by_equal (w u) x (λ i. absurd (d e i)) (λ i. le-ltb (w u) (suc x) (omega arith) ∙ sym (le-ltb (w u) x l)))

  part_none : (f : ℕ → ℕ) (x : ℕ) → ((u : ℕ) → u < n → (q u && eqb (w u) x) ≡ false) → part f (suc x) ≡ part f x
  part_none f x h =
      sum_cong n _ _
      (λ u l. ap (λ (b : Bool). keep b (f u)) (test_same x u (λ e i. true_or_false _ (and_both (q u) _ e (eq-eqb (w u) x i)) (h u l))))

  module _ (differ : (s u : ℕ) → s < n → u < n → q s ≡ true → q u ≡ true → (s ≡ u → ⊥) → w s ≡ w u → ⊥) where
    -- index j alone has weight x
    part_one : (f : ℕ → ℕ) (j x : ℕ) → j < n → q j ≡ true → w j ≡ x → part f (suc x) ≡ f j + part f x
    part_one f j x h e g =
        sum_out n (λ u. keep (q u && ltb (w u) (suc x)) (f u)) j h
        ∙ rw (keep_true (q j && ltb (w j) (suc x)) (f j) (and_both (q j) _ e (lt-ltb (w j) (suc x) (omega arith))))
        (ap (λ (y : ℕ). f j + y) (sum_cong n _ _ rest))
      where
        rest : (s : ℕ) → s < n → keep (not (eqb s j)) (keep (q s && ltb (w s) (suc x)) (f s)) ≡ keep (q s && ltb (w s) x) (f s)
        rest s l =
            by_equal s j
            (λ i.
            keep_false _ _ (ap not (eq-eqb s j i))
            ∙ sym (keep_false _ _ (false_by _ (λ k. absurd (omega (arith, ltb-true (w s) x (and_right (q s) _ k), ap w i))))))
            (λ d.
            keep_true _ _ (ap not (ne_eqb s j d)) ∙ ap (λ (b : Bool). keep b (f s)) (test_same x s (λ k i. differ s j l h k e d (i ∙ sym g))))

    module _ (b : ℕ → ℕ) (exceed : (s : ℕ) → s < n → q s ≡ true → part (λ u. w u * b u) (w s) < w s) (some : (s : ℕ) → q s ≡ true → 1 ≤ b s) where
      few_start : power (part (λ u. 1) 0) ≤ suc (part (λ u. w u * b u) 0)
      unfolding power
      few_start =
          let none : part (λ u. 1) 0 ≡ 0 =
          sum_zeros n _ (λ s l. keep_false (q s && ltb (w s) 0) 1 (false_by _ (λ e. absurd (omega (arith, ltb-true (w s) 0 (and_right (q s) _ e)))))) in
          rw none (omega arith)

      few_one : (j x : ℕ) → j < n → q j ≡ true → w j ≡ x → power (part (λ u. 1) x) ≤ suc (part (λ u. w u * b u) x)
          → power (part (λ u. 1) (suc x)) ≤ suc (part (λ u. w u * b u) (suc x))
      unfolding power
      few_one j x h e g lower =
          rw (part_one (λ u. 1) j x h e g, part_one (λ u. w u * b u) j x h e g)
          (omega (arith, lower, power_next (1 + part (λ u. 1) x) (part (λ u. 1) x) (omega arith), mul-le-mul_left (w j) (some j e), rw g at (exceed j h e), g))

      few_below : (x : ℕ) → power (part (λ u. 1) x) ≤ suc (part (λ u. w u * b u) x)
      few_below zero = few_start
      few_below (suc x) =
          let lower = few_below x in
          ⊎_elim
          (λ f. few_one f.index x f.below (and_left _ _ f.holds) (eqb-true (w f.index) x (and_right (q f.index) _ f.holds)) lower)
          (λ f. rw (part_none (λ u. 1) x f, part_none (λ u. w u * b u) x f) lower)
          (find_below n (λ u. q u && eqb (w u) x))

      -- the whole sum is below p, and so is each weight: fewer than 32 indices where p is a 32-bit number
      pub few : (p : ℕ) → p < 4294967296 → ((s : ℕ) → w s < p) → sum n (λ u. keep (q u) (w u * b u)) < p → rank q n < 32
      unfolding rank one
      few p fits below total =
          by_order (sum n (λ u. keep (q u) 1)) 32 (λ l. l)
          (λ l.
          absurd (omega (
            arith,
            power_large (sum n (λ u. keep (q u) 1)) l,
            few_below p,
            whole (λ u. w u * b u),
            ap power (whole (λ u. 1)),
            total,
          )))
        where
          whole : (f : ℕ → ℕ) → part f p ≡ sum n (λ u. keep (q u) (f u))
          whole f = sum_cong n _ _ (λ u l. rw (lt-ltb (w u) p (below u), and-true (q u)))
