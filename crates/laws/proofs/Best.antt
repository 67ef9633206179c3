-- The bounds phase chooses a least candidate: a step that lowers a bound and that no other such step precedes.
use Prim.Native.Nat.{ℕ, zero, suc, ◌≤◌, ◌<◌}
use mathlib.Core.Path.{◌≡◌, refl, sym, ap, ◌∙◌}
use mathlib.Core.Bool.{Bool, true, false, cond, ◌&&◌}
use mathlib.Core.Option.{Option, none, some}
use native.Mathlib.Omega.{arith}
use lib.Dec.{ltb, eqb}
use borrow.Author.Tests.{ltb-true, ltb-false, le-ltb, eq-eqb, ne_eqb, eqb-true, lt-leb, leb-false}
use Rattle.laws.specs.Problem.{Problem, Subject, subject}
use Rattle.laws.specs.Standing.{Standing, Change, bounds, nonzeros}
use Rattle.laws.specs.Step.{names_of, Kind, Step, within, inside, constraints, references, rule, rule_of, in_range, met, change, adds}
use Rattle.laws.specs.Solver.{
  step,
  adds_by,
  new_bound,
  lowers,
  first_by,
  precedes,
  preferred,
  consider,
  best_of_targets,
  best_of_constraints,
  best_bound,
}
use Rattle.laws.proofs.Sum.{
  and_left,
  and_right,
  and_both,
  or_cases,
  or_neither,
  or_false_left,
  or_false_right,
  true_or_false,
  false_by,
  by_equal,
}
use Rattle.laws.proofs.Order.{at_least_refl, bounds_is}
use Rattle.laws.proofs.Monotone.{Sorted, root, sum, marker, excluder, grows}
use Rattle.laws.proofs.Turns.{within_says, target_within, adds_says, adds_holds}
use Rattle.laws.proofs.Optimum.{fits_says, fits_holds}

-- The order by several keys

-- b is at most a, and on equal keys the rest doesn't decide for a
pub first_by_says : (a b : ℕ) (rest : Bool) → first_by a b rest ≡ false → (b ≤ a) × (a ≡ b → rest ≡ false)
unfolding first_by
first_by_says a b rest e =
    (ltb-false a b (or_false_left _ _ e), λ q. sym (rw (eq-eqb a b q) refl) ∙ or_false_right (ltb a b) (eqb a b && rest) e)

pub first_by_holds : (a b : ℕ) (rest : Bool) → b ≤ a → (a ≡ b → rest ≡ false) → first_by a b rest ≡ false
unfolding first_by
first_by_holds a b rest l h =
    or_neither _ _ (le-ltb a b l) (by_equal a b (λ q. rw (eq-eqb a b q) (h q)) (λ d. rw (ne_eqb a b d)))

first_by_asym : (a b : ℕ) (r r' : Bool) → (r ≡ true → r' ≡ false) → first_by a b r ≡ true → first_by b a r' ≡ false
unfolding first_by
first_by_asym a b r r' h e =
    or_cases (ltb a b) (eqb a b && r) e
    (λ l.
    first_by_holds b a r' (omega (arith, ltb-true a b l)) (λ (q : b ≡ a). absurd (omega (arith, ltb-true a b l))))
    (λ q.
    first_by_holds b a r' (omega (arith, eqb-true a b (and_left (eqb a b) r q))) (λ (g : b ≡ a). h (and_right (eqb a b) r q)))

first_by_trans : (a b c : ℕ) (r r' r'' : Bool) → (r ≡ false → r' ≡ false → r'' ≡ false)
    → first_by b a r ≡ false → first_by c b r' ≡ false → first_by c a r'' ≡ false
first_by_trans a b c r r' r'' h e f =
    let g = first_by_says b a r e in
    let k = first_by_says c b r' f in
    first_by_holds c a r'' (omega arith) (λ (q : c ≡ a). h (g.1 (omega arith)) (k.1 (omega arith)))

ltb_asym : (a b : ℕ) → ltb a b ≡ true → ltb b a ≡ false
ltb_asym a b e = le-ltb b a (omega (arith, ltb-true a b e))

ltb_trans : (a b c : ℕ) → ltb b a ≡ false → ltb c b ≡ false → ltb c a ≡ false
ltb_trans a b c e f = le-ltb c a (omega (arith, ltb-false b a e, ltb-false c b f))

-- A step that lowers a bound

pub record Lowering (P : Problem) (S : Standing) (x : Step) : Type 0 where
  pub ranged : in_range P x ≡ true
  pub meets : met P S x ≡ true
  pub is_bound : bounds (change P S x) ≡ true
  pub less : new_bound P S x < S.bound x.target

-- the kinds that give bounds
pub data Bounding : Kind → Type 0 where
  by_root : Bounding Kind.Root
  by_sum : Bounding Kind.Sum

pub sorted : (q : Kind) (J : Subject) (S : Standing) (t r : ℕ) → Sorted q (rule q J S t r).change
sorted q J S t r = (grows q J (at_least_refl S) t r).sort

pub bounding : {q : Kind} {c : Change} → Sorted q c → bounds c ≡ true → Bounding q
bounding root e = by_root
bounding sum e = by_sum
bounding marker e = true_or_false false e refl
bounding excluder e = true_or_false false e refl

-- the kind that gives nonzero marks
pub excluding_kind : {q : Kind} {c : Change} → Sorted q c → nonzeros c ≡ true → q ≡ Kind.Nonzero
excluding_kind root e = true_or_false false e refl
excluding_kind sum e = true_or_false false e refl
excluding_kind marker e = true_or_false false e refl
excluding_kind excluder e = refl

module _ (P : Problem) (S : Standing) where
  pub lowers_says : (x : Step) → lowers P S x ≡ true → Lowering P S x
  unfolding adds_by new_bound
  lowers_says x e =
      let a = adds_says P S x (and_left _ (bounds (change P S x)) e) in
      let f = fits_says P S x a.0 in
      let b = and_right (adds P S x) _ e in
      record { ranged = f.0; meets = f.1; is_bound = b; less = leb-false _ _ (rw (bounds_is (change P S x) b) at a.1) }

  pub lowers_holds : (x : Step) → Lowering P S x → lowers P S x ≡ true
  unfolding adds_by new_bound
  lowers_holds x l =
      and_both _ _
      (adds_holds P S x (fits_holds P S x l.ranged l.meets) (rw (bounds_is (change P S x) l.is_bound) (lt-leb _ _ l.less)))
      l.is_bound

  pub lowers_adds : (x : Step) → lowers P S x ≡ true → adds P S x ≡ true
  unfolding adds_by
  lowers_adds x e = and_left _ (bounds (change P S x)) e

  precedes_asym : (x y : Step) → precedes P S x y ≡ true → precedes P S y x ≡ false
  unfolding precedes
  precedes_asym x y =
      first_by_asym _ _ _ _
      (first_by_asym _ _ _ _ (first_by_asym _ _ _ _ (ltb_asym x.constraint y.constraint)))

  precedes_trans : (x y z : Step) → precedes P S y x ≡ false → precedes P S z y ≡ false → precedes P S z x ≡ false
  unfolding precedes
  precedes_trans x y z =
      first_by_trans _ _ _ _ _ _
      (first_by_trans _ _ _ _ _ _ (first_by_trans _ _ _ _ _ _ (ltb_trans x.constraint y.constraint z.constraint)))

  precedes_irrefl : (x : Step) → precedes P S x x ≡ false
  precedes_irrefl x = false_by (precedes P S x x) (λ e. true_or_false _ e (precedes_asym x x e))

  pub least_bound : (x y : Step) → precedes P S y x ≡ false → new_bound P S x ≤ new_bound P S y
  unfolding precedes
  least_bound x y e = (first_by_says _ _ _ e).0

  -- The search

  -- what was found lowers a bound
  abbrev Candidate : Option Step → Type 0
  Candidate none = Unit {0}
  Candidate (some x) = lowers P S x ≡ true

  -- something was found, and y doesn't precede it
  abbrev Covers : Step → Option Step → Type 0
  Covers y none = ⊥
  Covers y (some x) = precedes P S y x ≡ false

  cond_by : (Q : Option Step → Type 0) (b : Bool) {o o' : Option Step} → (b ≡ true → Q o) → (b ≡ false → Q o') → Q (cond b o o')
  cond_by Q true f g = f refl
  cond_by Q false f g = g refl

  preferred_candidate : (x : Step) (best : Option Step) → lowers P S x ≡ true → Candidate best → Candidate (preferred P S x best)
  preferred_candidate x none l c = l
  preferred_candidate x (some y) l c = cond_by Candidate (precedes P S x y) (λ e. l) (λ e. c)

  preferred_keeps : (x y : Step) (best : Option Step) → Covers y best → Covers y (preferred P S x best)
  preferred_keeps x y none c = absurd c
  preferred_keeps x y (some z) c =
      cond_by (Covers y) (precedes P S x z) (λ e. precedes_trans x z y (precedes_asym x z e) c) (λ e. c)

  preferred_covers : (x : Step) (best : Option Step) → Covers x (preferred P S x best)
  preferred_covers x none = precedes_irrefl x
  preferred_covers x (some z) = cond_by (Covers x) (precedes P S x z) (λ e. precedes_irrefl x) (λ e. e)

  -- what a step more to consider leaves as it was
  abbrev Stays : (Option Step → Type 0) → Type 0
  Stays Q = (x : Step) (best : Option Step) → Q best → Q (consider P S x best)

  consider_candidate : Stays Candidate
  unfolding consider
  consider_candidate x best c = cond_by Candidate (lowers P S x) (λ e. preferred_candidate x best e c) (λ e. c)

  consider_keeps : (y : Step) → Stays (Covers y)
  unfolding consider
  consider_keeps y x best c = cond_by (Covers y) (lowers P S x) (λ e. preferred_keeps x y best c) (λ e. c)

  consider_covers : (x : Step) (best : Option Step) → lowers P S x ≡ true → Covers x (consider P S x best)
  unfolding consider
  consider_covers x best e = rw e (preferred_covers x best)

  targets_keep : (Q : Option Step → Type 0) → Stays Q → (k t : ℕ) (best : Option Step) → Q best → Q (best_of_targets P S k t best)
  unfolding best_of_targets
  targets_keep Q h k zero best c = c
  targets_keep Q h k (suc t) best c = h _ _ (h _ _ (targets_keep Q h k t best c))

  constraints_candidate : (k : ℕ) → Candidate (best_of_constraints P S k)
  unfolding best_of_constraints
  constraints_candidate zero = tt
  constraints_candidate (suc k) = targets_keep Candidate consider_candidate (suc k) P.n _ (constraints_candidate k)

  targets_cover : (k t s : ℕ) {q : Kind} (best : Option Step) → Bounding q → 1 ≤ s → s ≤ t → lowers P S (step q s k 0) ≡ true
      → Covers (step q s k 0) (best_of_targets P S k t best)
  unfolding best_of_targets
  targets_cover k zero s best b l m e = absurd (omega arith)
  targets_cover k (suc t) s {q} best b l m e =
      by_equal s (suc t) (λ h. rw h (here b (rw h at e)))
      (λ d. consider_keeps _ _ _ (consider_keeps _ _ _ (targets_cover k t s best b l (omega arith) e)))
    where
      here : {q : Kind} → Bounding q → lowers P S (step q (suc t) k 0) ≡ true → Covers (step q (suc t) k 0) (best_of_targets P S k (suc t) best)
      here by_root f = consider_keeps _ _ _ (consider_covers _ _ f)
      here by_sum f = consider_covers _ _ f

  constraints_cover : (k j s : ℕ) {q : Kind} → Bounding q → 1 ≤ s → s ≤ P.n → 1 ≤ j → j ≤ k → lowers P S (step q s j 0) ≡ true
      → Covers (step q s j 0) (best_of_constraints P S k)
  unfolding best_of_constraints
  constraints_cover zero j s b l m l' m' e = absurd (omega arith)
  constraints_cover (suc k) j s b l m l' m' e =
      by_equal j (suc k) (λ h. rw h (targets_cover (suc k) P.n s _ b l m (rw h at e)))
      (λ d. targets_keep (Covers _) (consider_keeps _) (suc k) P.n _ (constraints_cover k j s b l m l' (omega arith) e))

  pub lowers_kind : (x : Step) → Lowering P S x → Bounding x.kind
  unfolding change rule_of
  lowers_kind x l = bounding (sorted x.kind (subject (names_of x.kind) P x.constraint) S x.target x.reference) l.is_bound

  pub bounding_fields : {q : Kind} (t k r : ℕ) → Bounding q → in_range P (step q t k r) ≡ true → ((1 ≤ k) × (k ≤ P.m)) × (r ≡ 0)
  unfolding in_range
  bounding_fields {q} t k r b e = go b (and_right (within P.n t) _ e)
    where
      go : {q : Kind} → Bounding q → (inside (constraints q P) k && inside (references q P) r) ≡ true → ((1 ≤ k) × (k ≤ P.m)) × (r ≡ 0)
      go by_root f = (within_says _ _ (and_left _ (eqb r 0) f), eqb-true r 0 (and_right (within P.m k) _ f))
      go by_sum f = (within_says _ _ (and_left _ (eqb r 0) f), eqb-true r 0 (and_right (within P.m k) _ f))

  -- every step that lowers a bound is covered
  best_covers : (y : Step) → lowers P S y ≡ true → Covers y (best_bound P S)
  unfolding best_bound
  best_covers y e =
      let h = lowers_says y e in
      let b = lowers_kind y h in
      let w = target_within P y h.ranged in
      let f = bounding_fields y.target y.constraint y.reference b h.ranged in
      let z : y ≡ step y.kind y.target y.constraint 0
      = ap (λ (r : ℕ). step y.kind y.target y.constraint r) f.1 in
      rw z (constraints_cover P.m y.constraint y.target b w.0 w.1 f.0.0 f.0.1 (rw z at e))

  pub best_none : best_bound P S ≡ none → (y : Step) → lowers P S y ≡ false
  best_none e y = false_by _ (λ l. rw e at (best_covers y l))

  pub best_some : (x : Step) → best_bound P S ≡ some x
      → (lowers P S x ≡ true) × ((y : Step) → lowers P S y ≡ true → precedes P S y x ≡ false)
  unfolding best_bound
  best_some x e = (rw e at (constraints_candidate P.m), λ y l. rw e at (best_covers y l))
