-- IDLE: a step is idle exactly if the standing after it is the one before it. RENEWED: steps less the idle ones are accepted and reach the same, and
-- where none is idle they are the same steps.
use Prim.Native.Nat.{ℕ, ◌≤◌, min}
use mathlib.Core.Path.{◌≡◌, refl, sym, ap, ◌∙◌, fun_ext}
use mathlib.Core.Bool.{Bool, true, false, cond}
use mathlib.Core.List.{List, [], ◌∷◌}
use native.Mathlib.Omega.{arith}
use lib.Dec.{eqb}
use lib.ListN.{length}
use borrow.Author.Tests.{eq-eqb, ne_eqb, le-leb, leb-true}
use Rattle.laws.specs.Problem.{Problem}
use Rattle.laws.specs.Standing.{Standing, put, add, lower, mark, exclude_zero, Change, at_most, fixed, not_zero, apply, idle}
use Rattle.laws.specs.Step.{Step, change, fits, is_idle, adds, after, replay, each, accepted, formerly, unless, less_idle}
use Rattle.laws.proofs.Sum.{and_left, and_right, and_both, by_equal}
use Rattle.laws.proofs.Order.{add_same}
use Rattle.laws.proofs.Turns.{adds_says, adds_holds}

-- One step

put_same : (f : ℕ → ℕ) (t x : ℕ) → x ≡ f t → put f t x ≡ f
unfolding put
put_same f t x e = fun_ext (λ s. by_equal s t (λ q. rw (eq-eqb s t q) (e ∙ ap f (sym q))) (λ d. rw (ne_eqb s t d)))

add_here : (m : ℕ → Bool) (t : ℕ) → m t ≡ true → add m t ≡ m
unfolding add
add_here m t e = fun_ext (λ s. by_equal s t (λ q. rw (eq-eqb s t q) (sym (ap m q ∙ e))) (λ d. rw (ne_eqb s t d)))

pub idle_stays : (c : Change) (S : Standing) (t : ℕ) → idle c S t ≡ true → apply c S t ≡ S
unfolding lower mark exclude_zero
idle_stays (at_most x) S t e =
    ap (λ (f : ℕ → ℕ). record { bound = f; marked = S.marked; nonzero = S.nonzero }) (put_same S.bound t _ (omega (arith, leb-true (S.bound t) x e)))
idle_stays fixed S t e = ap (λ (m : ℕ → Bool). record { bound = S.bound; marked = m; nonzero = S.nonzero }) (add_here S.marked t e)
idle_stays not_zero S t e = ap (λ (z : ℕ → Bool). record { bound = S.bound; marked = S.marked; nonzero = z }) (add_here S.nonzero t e)

pub stays_idle : (c : Change) (S : Standing) (t : ℕ) → apply c S t ≡ S → idle c S t ≡ true
unfolding lower mark exclude_zero put
stays_idle (at_most x) S t e =
    let same : cond (eqb t t) (min (S.bound t) x) (S.bound t) ≡ S.bound t = ap (λ (Z : Standing). Z.bound t) e in
    let least : min (S.bound t) x ≡ S.bound t = rw (eq-eqb t t refl) at same in
    le-leb (S.bound t) x (omega (arith, least))
stays_idle fixed S t e = sym (ap (λ (Z : Standing). Z.marked t) e) ∙ add_same S.marked t
stays_idle not_zero S t e = sym (ap (λ (Z : Standing). Z.nonzero t) e) ∙ add_same S.nonzero t

module _ (P : Problem) (S : Standing) (x : Step) where
  pub idle_same : is_idle P S x ≡ true → after P S x ≡ S
  unfolding after
  idle_same e = idle_stays (change P S x) S x.target e

  pub same_idle : after P S x ≡ S → is_idle P S x ≡ true
  unfolding after
  same_idle e = stays_idle (change P S x) S x.target e

-- Steps one after the other

-- what is accepted was so by the former rule too
pub accepted_formerly : (P : Problem) (S : Standing) (xs : List Step) → accepted P S xs ≡ true → formerly P S xs ≡ true
unfolding each
accepted_formerly P S [] e = refl
accepted_formerly P S (x ∷ xs) e =
    and_both (fits P S x) _ (adds_says P S x (and_left (adds P S x) _ e)).0 (accepted_formerly P (after P S x) xs (and_right (adds P S x) _ e))

module _ (P : Problem) where
  pub less_accepted : (S : Standing) (xs : List Step) → formerly P S xs ≡ true → accepted P S (less_idle P S xs) ≡ true
  unfolding each less_idle
  less_accepted S [] e = refl
  less_accepted S (x ∷ xs) e = go (is_idle P S x) refl (less_accepted (after P S x) xs (and_right (fits P S x) _ e))
    where
      go : (b : Bool) → is_idle P S x ≡ b → accepted P (after P S x) (less_idle P (after P S x) xs) ≡ true
          → accepted P S (unless b x (less_idle P (after P S x) xs)) ≡ true
      go true i rest = ap (λ (Z : Standing). accepted P Z (less_idle P (after P S x) xs)) (sym (idle_same P S x i)) ∙ rest
      go false i rest = and_both (adds P S x) _ (adds_holds P S x (and_left (fits P S x) _ e) i) rest

  pub less_replay : (S : Standing) (xs : List Step) → replay P S (less_idle P S xs) ≡ replay P S xs
  unfolding replay less_idle
  less_replay S [] = refl
  less_replay S (x ∷ xs) = go (is_idle P S x) refl (less_replay (after P S x) xs)
    where
      go : (b : Bool) → is_idle P S x ≡ b → replay P (after P S x) (less_idle P (after P S x) xs) ≡ replay P (after P S x) xs
          → replay P S (unless b x (less_idle P (after P S x) xs)) ≡ replay P (after P S x) xs
      go true i rest = ap (λ (Z : Standing). replay P Z (less_idle P (after P S x) xs)) (sym (idle_same P S x i)) ∙ rest
      go false i rest = rest

  pub less_same : (S : Standing) (xs : List Step) → accepted P S xs ≡ true → less_idle P S xs ≡ xs
  unfolding each less_idle
  less_same S [] e = refl
  less_same S (x ∷ xs) e =
      rw (adds_says P S x (and_left (adds P S x) _ e)).1
      (ap (λ (ys : List Step). x ∷ ys) (less_same (after P S x) xs (and_right (adds P S x) _ e)))

  pub less_twice : (S : Standing) (xs : List Step) → formerly P S xs ≡ true → less_idle P S (less_idle P S xs) ≡ less_idle P S xs
  less_twice S xs e = less_same S (less_idle P S xs) (less_accepted S xs e)

  pub less_fewer : (S : Standing) (xs : List Step) → length (less_idle P S xs) ≤ length xs
  unfolding less_idle
  less_fewer S [] = omega arith
  less_fewer S (x ∷ xs) = go (is_idle P S x) (less_fewer (after P S x) xs)
    where
      go : (b : Bool) → length (less_idle P (after P S x) xs) ≤ length xs → length (unless b x (less_idle P (after P S x) xs)) ≤ length (x ∷ xs)
      go true h = omega arith
      go false h = omega arith
