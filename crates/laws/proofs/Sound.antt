-- Soundness of derivations: steps that meet their rules lead from a sound standing to a sound one, and the start is sound.
use Prim.Native.Nat.{ℕ, ◌≤◌}
use mathlib.Core.Path.{◌≡◌, refl}
use mathlib.Core.Bool.{true, false}
use mathlib.Core.List.{List, [], ◌∷◌}
use native.Mathlib.Omega.{arith}
use lib.Dec.{leb}
use borrow.Author.Tests.{leb-true, eqb-true}
use Rattle.circuit.specs.Circuit.{value_of}
use Rattle.laws.specs.Problem.{Problem, subject, Sensible, Solves, Obeys, SameInputs}
use Rattle.laws.specs.Standing.{Standing, lower, mark, exclude_zero, Change, at_most, fixed, not_zero, apply, is_input, none_of, start}
use Rattle.laws.specs.Rules.{zero_met}
use Rattle.laws.specs.Step.{
  names_of,
  Kind,
  Step,
  within,
  inside,
  constraints,
  references,
  rule,
  rule_of,
  in_range,
  fits,
  met,
  change,
  after,
  replay,
  each,
  formerly,
}
use Rattle.laws.specs.Sound.{Sound}
use Rattle.laws.proofs.Sum.{and_left, and_right, true_or_false}
use Rattle.laws.proofs.Order.{put_all, add_all}
use Rattle.laws.proofs.Turns.{within_says, target_within}
use Rattle.laws.proofs.Reduced.{Fulfils}
use Rattle.laws.proofs.RootRule.{root_sound}
use Rattle.laws.proofs.SumRule.{sum_met_lem, sum_sound}
use Rattle.laws.proofs.ProductRule.{product_met_lem, product_sound}
use Rattle.laws.proofs.DigitsRule.{digits_met_lem, digits_sound}
use Rattle.laws.proofs.NonzeroRule.{nonzero_sound}
use Rattle.laws.proofs.QuotientRule.{quotient_met_lem, quotient_sound}

pub within_least : (n s : ℕ) → within n s ≡ true → 1 ≤ s
within_least n s e = (within_says n s e).0

pub within_most : (n s : ℕ) → within n s ≡ true → s ≤ n
within_most n s e = (within_says n s e).1

zero_met_lem : (b : ℕ → ℕ) (t : ℕ) → zero_met b t ≡ true → b t ≡ 0
unfolding zero_met
zero_met_lem b t e = eqb-true (b t) 0 e

-- what a change claims of runs
abbrev pub Claims : Problem → (Satisfying Allowed : List ℕ → Type 0) → Change → ℕ → Type 0
Claims P Satisfying Allowed (at_most x) t = (run : List ℕ) → Allowed run → value_of run t ≤ x
Claims P Satisfying Allowed fixed t =
    (run other : List ℕ) → Allowed run → Allowed other → SameInputs P run other → value_of run t ≡ value_of other t
Claims P Satisfying Allowed not_zero t = (run : List ℕ) → Satisfying run → value_of run t ≡ 0 → ⊥

module _ {P : Problem} {Satisfying Allowed : List ℕ → Type 0} where
  -- what runs show may be put
  pub apply_sound : (c : Change) {S : Standing} → Sound P Satisfying Allowed S → (t : ℕ) → Claims P Satisfying Allowed c t
      → Sound P Satisfying Allowed (apply c S t)
  unfolding lower mark exclude_zero
  apply_sound (at_most x) {S} H t h =
      record {
        bounded = λ run a.
            put_all (λ (s y : ℕ). 1 ≤ s → s ≤ P.n → value_of run s ≤ y) S.bound t _
            (λ l m. omega (arith, h run a, H.bounded run a t l m)) (H.bounded run a);
        settled = H.settled;
        never_zero = H.never_zero;
      }
  apply_sound fixed {S} H t h =
      record {
        bounded = H.bounded;
        settled = λ run other a b share s l m e.
            add_all (λ (s : ℕ). 1 ≤ s → s ≤ P.n → value_of run s ≡ value_of other s) S.marked t (λ l m. h run other a b share)
            (λ s e l m. H.settled run other a b share s l m e) s e l m;
        never_zero = H.never_zero;
      }
  apply_sound not_zero {S} H t h =
      record {
        bounded = H.bounded;
        settled = H.settled;
        never_zero = λ run a s l m e.
            add_all (λ (s : ℕ). 1 ≤ s → s ≤ P.n → value_of run s ≡ 0 → ⊥) S.nonzero t (λ l m. h run a)
            (λ s e l m. H.never_zero run a s l m e) s e l m;
      }

  module _ (W : Sensible P) (solves : (run : List ℕ) → Satisfying run → Solves P run)
      (obeys : (run : List ℕ) → Allowed run → Obeys P Satisfying run) where
    -- what a rule over constraint k may know of an allowed run
    fulfils : {S : Standing} → Sound P Satisfying Allowed S → (k : ℕ) → within P.m k ≡ true → (run : List ℕ) → Allowed run
        → Fulfils P.n P.p (P.constraint k) S.bound (value_of run)
    unfolding value_of
    fulfils H k e run a =
        record {
          one = refl;
          below = (solves run (obeys run a).satisfies).below;
          bounded = H.bounded run a;
          satisfies = (solves run (obeys run a).satisfies).holds k (within_least P.m k e) (within_most P.m k e);
        }

    rule_sound : (q : Kind) {S : Standing} (t k r : ℕ) → Sound P Satisfying Allowed S → 1 ≤ t → t ≤ P.n → inside (constraints q P) k ≡ true
        → inside (references q P) r ≡ true → (rule q (subject (names_of q) P k) S t r).met ≡ true
        → Claims P Satisfying Allowed (rule q (subject (names_of q) P k) S t r).change t
    unfolding value_of
    rule_sound Kind.Root t k r H l h w i e = λ run a. root_sound W.prime l h (fulfils H k w run a) (W.each k) e
    rule_sound Kind.Sum t k r H l h w i e = λ run a. sum_sound (fulfils H k w run a) t W.prime (W.each k) l h (sum_met_lem _ _ _ _ _ e)
    rule_sound Kind.Zero {S} t k r H l h w i e =
        λ run other a b share.
        let z : S.bound t ≡ 0 = zero_met_lem S.bound t e in
        omega (arith, H.bounded run a t l h, H.bounded other b t l h)
    rule_sound Kind.Product t k r H l h w i e =
        λ run other a b share.
        product_sound (fulfils H k w run a) (fulfils H k w other b) (H.settled run other a b share) W.prime (W.each k) l h (product_met_lem _ _ _ e)
    rule_sound Kind.Digits t k r H l h w i e =
        λ run other a b share.
        digits_sound (fulfils H k w run a) (fulfils H k w other b) (H.settled run other a b share) (W.each k) l h (digits_met_lem _ _ _ _ _ _ _ e)
    rule_sound Kind.Nonzero t k r H l h w i e =
        λ run a. nonzero_sound (value_of run) W.prime (W.each k) refl ((solves run a).holds k (within_least P.m k w) (within_most P.m k w)) t e
    rule_sound Kind.Quotient t k r H l h w i e =
        λ run other a b share.
        let M = quotient_met_lem _ _ _ _ _ e in
        let in_n = within_says P.n r i in
        quotient_sound (fulfils H k w run a) (fulfils H k w other b) (H.settled run other a b share) W.prime (W.each k) l h in_n.0 in_n.1
        (H.never_zero run (obeys run a).satisfies r in_n.0 in_n.1 M.nonzero) M

    -- one step
    pub step_sound : (S : Standing) (x : Step) → Sound P Satisfying Allowed S → fits P S x ≡ true → Sound P Satisfying Allowed (after P S x)
    unfolding fits in_range met change rule_of after
    step_sound S x H e =
        let i = and_left _ (met P S x) e in
        let w = target_within P x i in
        apply_sound (change P S x) H x.target
        (rule_sound x.kind x.target x.constraint x.reference H w.0 w.1
        (and_left _ _ (and_right (within P.n x.target) _ i))
        (and_right (inside (constraints x.kind P) x.constraint) _ (and_right (within P.n x.target) _ i))
        (and_right (in_range P x) _ e))

    -- a derivation, idle steps or not
    pub sound : (S : Standing) → Sound P Satisfying Allowed S → (xs : List Step) → formerly P S xs ≡ true
        → Sound P Satisfying Allowed (replay P S xs)
    unfolding each replay
    sound S H [] e = H
    sound S H (x ∷ xs) e = sound (after P S x) (step_sound S x H (and_left (fits P S x) _ e)) xs (and_right (fits P S x) _ e)

    pub start_sound : Sound P Satisfying Allowed (start P)
    unfolding start is_input none_of
    start_sound =
        record {
          bounded = λ run a. (obeys run a).within_first;
          settled = λ run other a b share s l m e. share s l (leb-true s P.i (and_right (leb 1 s) _ e));
          never_zero = λ run a s l m e. true_or_false false e refl;
        }
