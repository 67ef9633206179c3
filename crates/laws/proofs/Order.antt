-- The order of standings: it is a preorder, a step only adds, and a step that gives nothing new is idle. What holds of each sort of change.
use Prim.Native.Nat.{ℕ, ◌≤◌, min}
use mathlib.Core.Path.{◌≡◌, refl, sym, ◌∙◌}
use mathlib.Core.Bool.{Bool, true, false}
use mathlib.Core.List.{List, [], ◌∷◌, ◌++◌}
use native.Mathlib.Omega.{arith}
use lib.Dec.{eqb}
use borrow.Author.Tests.{eq-eqb, ne_eqb, leb-true}
use Rattle.laws.specs.Problem.{Problem}
use Rattle.laws.specs.Standing.{
  Standing,
  put,
  add,
  lower,
  mark,
  exclude_zero,
  Change,
  at_most,
  fixed,
  not_zero,
  apply,
  idle,
  bounds,
  marks,
  nonzeros,
  value,
}
use Rattle.laws.specs.Step.{Step, change, after, replay, each}
use Rattle.laws.specs.Sound.{AtLeast}
use Rattle.laws.proofs.Sum.{and_left, and_right, and_both, or_right, true_or_false, by_equal}

-- A function changed at one place

pub put_same : (f : ℕ → ℕ) (t x : ℕ) → put f t x t ≡ x
unfolding put
put_same f t x = rw (eq-eqb t t refl) refl

pub put_other : (f : ℕ → ℕ) (t x s : ℕ) → (s ≡ t → ⊥) → put f t x s ≡ f s
unfolding put
put_other f t x s h = rw (ne_eqb s t h) refl

pub add_same : (m : ℕ → Bool) (t : ℕ) → add m t t ≡ true
unfolding add
add_same m t = rw (eq-eqb t t refl) refl

pub add_other : (m : ℕ → Bool) (t s : ℕ) → (s ≡ t → ⊥) → add m t s ≡ m s
unfolding add
add_other m t s h = rw (ne_eqb s t h) refl

pub add_keeps : (m : ℕ → Bool) (t s : ℕ) → m s ≡ true → add m t s ≡ true
unfolding add
add_keeps m t s = or_right (eqb s t) (m s)

-- what holds at t, and elsewhere before, holds of the changed function
pub put_all : (A : ℕ → ℕ → Type 0) (f : ℕ → ℕ) (t x : ℕ) → A t x → ((s : ℕ) → A s (f s)) → (s : ℕ) → A s (put f t x s)
put_all A f t x here other s = by_equal s t (λ e. rw e (rw (put_same f t x) here)) (λ h. rw (put_other f t x s h) (other s))

pub add_all : (A : ℕ → Type 0) (m : ℕ → Bool) (t : ℕ) → A t → ((s : ℕ) → m s ≡ true → A s) → (s : ℕ) → add m t s ≡ true → A s
add_all A m t here other s e = by_equal s t (λ q. rw q here) (λ d. other s (sym (add_other m t s d) ∙ e))

-- Bounds and marks as functions

abbrev pub Below : (ℕ → ℕ) → (ℕ → ℕ) → Type 0
Below b b' = (s : ℕ) → b' s ≤ b s

abbrev pub More : (ℕ → Bool) → (ℕ → Bool) → Type 0
More m m' = (s : ℕ) → m s ≡ true → m' s ≡ true

put_mono : {b b' : ℕ → ℕ} (t x y : ℕ) → Below b b' → y ≤ x → Below (put b t (min (b t) x)) (put b' t (min (b' t) y))
put_mono {b} {b'} t x y g h s =
    by_equal s t (λ q. rw q (omega (arith, put_same b t (min (b t) x), put_same b' t (min (b' t) y), g t)))
    (λ d. omega (arith, put_other b t (min (b t) x) s d, put_other b' t (min (b' t) y) s d, g s))

pub add_mono : {m m' : ℕ → Bool} (t : ℕ) → More m m' → More (add m t) (add m' t)
add_mono {m} {m'} t g = add_all (λ s. add m' t s ≡ true) m t (add_same m' t) (λ s e. add_keeps m' t s (g s e))

-- Standings

pub at_least_refl : (S : Standing) → AtLeast S S
at_least_refl S = record { bounds = λ s. omega arith; marks = λ s e. e; nonzeros = λ s e. e }

pub at_least_trans : {S T U : Standing} → AtLeast S T → AtLeast T U → AtLeast S U
at_least_trans g h =
    record {
      bounds = λ s. omega (arith, g.bounds s, h.bounds s);
      marks = λ s e. h.marks s (g.marks s e);
      nonzeros = λ s e. h.nonzeros s (g.nonzeros s e);
    }

-- other bounds, other marks, and other nonzero marks in standings of which one has at least what the other has
module _ {S S' : Standing} (g : AtLeast S S') where
  with_bounds : (b b' : ℕ → ℕ) → Below b b'
      → AtLeast (record { bound = b; marked = S.marked; nonzero = S.nonzero }) (record { bound = b'; marked = S'.marked; nonzero = S'.nonzero })
  with_bounds b b' h = record { bounds = h; marks = g.marks; nonzeros = g.nonzeros }

  with_marks : (m m' : ℕ → Bool) → More m m'
      → AtLeast (record { bound = S.bound; marked = m; nonzero = S.nonzero }) (record { bound = S'.bound; marked = m'; nonzero = S'.nonzero })
  with_marks m m' h = record { bounds = g.bounds; marks = h; nonzeros = g.nonzeros }

  with_nonzeros : (z z' : ℕ → Bool) → More z z'
      → AtLeast (record { bound = S.bound; marked = S.marked; nonzero = z }) (record { bound = S'.bound; marked = S'.marked; nonzero = z' })
  with_nonzeros z z' h = record { bounds = g.bounds; marks = g.marks; nonzeros = h }

pub lower_at : (S : Standing) (t x : ℕ) → (lower S t x).bound t ≡ min (S.bound t) x
unfolding lower
lower_at S t x = put_same _ t _

pub lower_other : (S : Standing) (t x s : ℕ) → (s ≡ t → ⊥) → (lower S t x).bound s ≡ S.bound s
unfolding lower
lower_other S t x s h = put_other _ t _ s h

-- Changes: what is said of each sort stands here, and of what a change claims in Sound

pub bounds_is : (c : Change) → bounds c ≡ true → c ≡ at_most (value c)
bounds_is (at_most x) e = refl
bounds_is fixed e = true_or_false false e refl
bounds_is not_zero e = true_or_false false e refl

pub marks_is : (c : Change) → marks c ≡ true → c ≡ fixed
marks_is (at_most x) e = true_or_false false e refl
marks_is fixed e = refl
marks_is not_zero e = true_or_false false e refl

pub nonzeros_is : (c : Change) → nonzeros c ≡ true → c ≡ not_zero
nonzeros_is (at_most x) e = true_or_false false e refl
nonzeros_is fixed e = true_or_false false e refl
nonzeros_is not_zero e = refl

-- every change gives a bound, a mark or a nonzero mark
pub by_sort : {A : Type 0} (c : Change) → (bounds c ≡ true → A) → (marks c ≡ true → A) → (nonzeros c ≡ true → A) → A
by_sort (at_most x) f g h = f refl
by_sort fixed f g h = g refl
by_sort not_zero f g h = h refl

-- the second gives at least as much
pub data Stronger : Change → Change → Type 0 where
  lower_bound : {x y : ℕ} → y ≤ x → Stronger (at_most x) (at_most y)
  same_change : {c : Change} → Stronger c c

pub apply_adds : (c : Change) (S : Standing) (t : ℕ) → AtLeast S (apply c S t)
unfolding lower mark exclude_zero
apply_adds (at_most x) S t =
    with_bounds (at_least_refl S) _ _ (put_all (λ (s y : ℕ). y ≤ S.bound s) S.bound t _ (omega arith) (λ s. omega arith))
apply_adds fixed S t = with_marks (at_least_refl S) _ _ (add_keeps S.marked t)
apply_adds not_zero S t = with_nonzeros (at_least_refl S) _ _ (add_keeps S.nonzero t)

pub apply_idle : (c : Change) (S : Standing) (t : ℕ) → idle c S t ≡ true → AtLeast (apply c S t) S
unfolding lower mark exclude_zero
apply_idle (at_most x) S t e =
    with_bounds (at_least_refl S) _ _
    (put_all (λ (s y : ℕ). S.bound s ≤ y) S.bound t _ (omega (arith, leb-true (S.bound t) x e)) (λ s. omega arith))
apply_idle fixed S t e = with_marks (at_least_refl S) _ _ (add_all (λ s. S.marked s ≡ true) S.marked t e (λ s i. i))
apply_idle not_zero S t e = with_nonzeros (at_least_refl S) _ _ (add_all (λ s. S.nonzero s ≡ true) S.nonzero t e (λ s i. i))

pub apply_mono : {c d : Change} {S S' : Standing} (t : ℕ) → AtLeast S S' → Stronger c d → AtLeast (apply c S t) (apply d S' t)
unfolding lower mark exclude_zero
apply_mono t g (lower_bound {x} {y} h) = with_bounds g _ _ (put_mono t x y g.bounds h)
apply_mono t g (same_change {c = at_most x}) = with_bounds g _ _ (put_mono t x x g.bounds (omega arith))
apply_mono t g (same_change {c = fixed}) = with_marks g _ _ (add_mono t g.marks)
apply_mono t g (same_change {c = not_zero}) = with_nonzeros g _ _ (add_mono t g.nonzeros)

-- Rule 3.3: bounds never rise, marks stay

pub after_adds : (P : Problem) (S : Standing) (x : Step) → AtLeast S (after P S x)
unfolding after
after_adds P S x = apply_adds (change P S x) S x.target

pub replay_adds : (P : Problem) (S : Standing) (xs : List Step) → AtLeast S (replay P S xs)
unfolding replay
replay_adds P S [] = at_least_refl S
replay_adds P S (x ∷ xs) = at_least_trans (after_adds P S x) (replay_adds P (after P S x) xs)

-- Steps one after the other

pub replay_append : (P : Problem) (S : Standing) (xs ys : List Step)
    → replay P S (xs ++ ys) ≡ replay P (replay P S xs) ys
unfolding replay
replay_append P S [] ys = refl
replay_append P S (x ∷ xs) ys = replay_append P (after P S x) xs ys

pub each_append : (test : Problem → Standing → Step → Bool) (P : Problem) (S : Standing) (xs ys : List Step)
    → each test P S xs ≡ true → each test P (replay P S xs) ys ≡ true → each test P S (xs ++ ys) ≡ true
unfolding each replay
each_append test P S [] ys e f = f
each_append test P S (x ∷ xs) ys e f =
    let here = test P S x in
    let rest = each test P (after P S x) xs in
    and_both here _ (and_left here rest e) (each_append test P (after P S x) xs ys (and_right here rest e) f)
