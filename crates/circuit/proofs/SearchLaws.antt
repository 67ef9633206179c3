-- Laws of a search: how the loop goes on or out, that it finds nothing exactly where every number passes the test, the tests of the call, and that a run
-- satisfies the circuit exactly if no constraint is found that it doesn't satisfy.
use Prim.Native.Nat.{ℕ, zero, suc, ◌+◌, ◌-◌, ◌≤◌, ◌<◌}
use mathlib.Core.Path.{◌≡◌, refl, sym, ap, ◌∙◌}
use mathlib.Core.Bool.{Bool, true, false}
use native.Mathlib.Omega.{arith}
use native.Mathlib.Decide.{ℕ_discrete}
use mathlib.Core.List.{List}
use Rattle.std.specs.Prelude.{None, Some}
use borrow.Author.Tests.{lt-ltb, ltb-true, eq-eqb, ne_eqb, eqb-true}
use Rattle.circuit.specs.Circuit.{Constraint, Circuit, constraint_at, value_of, IsRun, Satisfying}
use Rattle.circuit.specs.Reader.{constraint_in, constraint_of, after_constraint, part_from}
use Rattle.circuit.specs.Run.{holds}
use Rattle.circuit.proofs.RunLaws.{holds_satisfies, satisfies_holds}
use Rattle.circuit.proofs.Stored.{part_next}
use Rattle.circuit.specs.Runs.{first_from, found, value_at, below, satisfied_by, unsatisfied, agree}

module _ (test : ℕ → Bool) where
  first_pass : (k left : ℕ) → test k ≡ true → first_from test k (suc left) ≡ first_from test (suc k) left
  unfolding first_from
  first_pass k left e = rw e

  first_fail : (k left : ℕ) → test k ≡ false → first_from test k (suc left) ≡ k
  unfolding first_from
  first_fail k left e = rw e

  pub search_start : (count : ℕ) → first_from test 1 count ≡ first_from test 1 (suc count - 1)
  search_start count = ap (first_from test 1) (omega arith)

  -- a `for` over the numbers from 1 to count: z is what is found from number k on
  module _ (count z k : ℕ) (inv : z ≡ first_from test k (suc count - k)) where
    turn : k ≤ count → z ≡ first_from test k (suc (count - k))
    turn h = inv ∙ ap (first_from test k) (omega arith)

    pub search_next : k ≤ count → test k ≡ true → z ≡ first_from test (k + 1) (suc count - (k + 1))
    search_next h e =
        let one : suc k ≡ k + 1 = omega arith in
        let less : count - k ≡ suc count - (k + 1) = omega arith in
        turn h ∙ first_pass k (count - k) e ∙ rw (one, less)

    pub search_found : 1 ≤ k → k ≤ count → test k ≡ false → Some k ≡ found z
    search_found l h e =
        let same : suc (k - 1) ≡ k = omega arith in
        let is : z ≡ suc (k - 1) = turn h ∙ first_fail k (count - k) e ∙ sym same in
        rw is (ap Some (sym same))

    pub search_none : count < k → None ≡ found z
    unfolding first_from
    search_none h = let none : suc count - k ≡ 0 = omega arith in let is : z ≡ 0 = inv ∙ ap (first_from test k) none in rw is

  -- and its last turn
  pub search_end : (count z k : ℕ) → z ≡ first_from test k (suc count - k) → k ≤ count → count ≤ k → test k ≡ true → None ≡ found z
  search_end count z k inv h l e = search_none count z (k + 1) (search_next count z k inv h e) (omega arith)

  -- nothing found: every number passes
  pub passed_from : (k left : ℕ) → 1 ≤ k → first_from test k left ≡ 0 → (j : ℕ) → k ≤ j → j < k + left → test j ≡ true
  passed_from k zero h e j l m = absurd (omega arith)
  passed_from k (suc left) h e j l m =
      go (test k) refl (ℕ_discrete k j) (λ t d. passed_from (suc k) left (omega arith) (sym (first_pass k left t) ∙ e) j d (omega arith))
    where
      go : (b : Bool) → test k ≡ b → Dec (k ≡ j) → (test k ≡ true → suc k ≤ j → test j ≡ true) → test j ≡ true
      go true t (yes z) later = rw (sym z) t
      go true t (no z) later = later t (omega arith)
      go false t d later = absurd (omega (arith, sym (first_fail k left t) ∙ e))

  pub passed : (count : ℕ) → first_from test 1 count ≡ 0 → (j : ℕ) → 1 ≤ j → j ≤ count → test j ≡ true
  passed count e j l m = passed_from 1 count (omega arith) e j l (omega arith)

  -- and the converse
  pub none_from : (k left : ℕ) → ((j : ℕ) → k ≤ j → j < k + left → test j ≡ true) → first_from test k left ≡ 0
  unfolding first_from
  none_from k zero h = refl
  none_from k (suc left) h =
      rw (h k (omega arith) (omega arith)) (none_from (suc k) left (λ j l m. h j (omega arith) (omega arith)))

  pub none : (count : ℕ) → ((j : ℕ) → 1 ≤ j → j ≤ count → test j ≡ true) → first_from test 1 count ≡ 0
  none count h = none_from 1 count (λ j l m. h j l (omega arith))

  -- a number that fails, with none before it
  pub first_at_from : (k left j : ℕ) → k ≤ j → j < k + left → test j ≡ false → ((i : ℕ) → k ≤ i → i < j → test i ≡ true) → first_from test k left ≡ j
  first_at_from k zero j l m e h = absurd (omega arith)
  first_at_from k (suc left) j l m e h =
      go (ℕ_discrete k j) (λ n. first_at_from (suc k) left j n (omega arith) e (λ i n o. h i (omega arith) o))
    where
      go : Dec (k ≡ j) → (suc k ≤ j → first_from test (suc k) left ≡ j) → first_from test k (suc left) ≡ j
      go (yes q) later = first_fail k left (rw q e) ∙ q
      go (no q) later = first_pass k left (h k (omega arith) (omega arith)) ∙ later (omega arith)

  pub first_at : (count j : ℕ) → 1 ≤ j → j ≤ count → test j ≡ false → ((i : ℕ) → 1 ≤ i → i < j → test i ≡ true) → first_from test 1 count ≡ j
  first_at count j l m e h = first_at_from 1 count j l (omega arith) e h

-- j is the first of `left` numbers from k on that fails a test
pub record First (test : ℕ → Bool) (k left j : ℕ) : Type 0 where
  pub least : k ≤ j
  pub most : j < k + left
  pub fails : test j ≡ false
  pub before : (i : ℕ) → k ≤ i → i < j → test i ≡ true

-- what is found
pub first_is : (test : ℕ → Bool) (k left : ℕ) → (first_from test k left ≡ 0 → ⊥) → First test k left (first_from test k left)
first_is test k zero h = absurd (h (none_from test k 0 (λ j l m. absurd (omega arith))))
first_is test k (suc left) h =
    go (test k) refl (λ t. let later = first_pass test k left t in (later, first_is test (suc k) left (λ z. h (later ∙ z))))
  where
    go : (b : Bool) → test k ≡ b → (test k ≡ true → (first_from test k (suc left) ≡ first_from test (suc k) left) × First test (suc k) left (first_from test (suc k) left))
        → First test k (suc left) (first_from test k (suc left))
    go false t later =
        rw (first_fail test k left t)
        (record { least = omega arith; most = omega arith; fails = t; before = λ i l m. absurd (omega arith) })
    go true t later =
        let F = (later t).1 in
        rw ((later t).0)
        (record {
          least = omega (arith, F.least);
          most = omega (arith, F.most);
          fails = F.fails;
          before = λ i l m. at i (ℕ_discrete i k) l m F;
        })
      where
        at : (i : ℕ) → Dec (i ≡ k) → k ≤ i → i < first_from test (suc k) left → First test (suc k) left (first_from test (suc k) left) → test i ≡ true
        at i (yes same) l m F = rw same t
        at i (no other) l m F = F.before i (omega arith) m

-- as the Option that a search answers
pub found_some : (n : ℕ) {k : ℕ} → Some k ≡ found n → (n ≡ k) × (n ≡ 0 → ⊥)
found_some zero e = let z : ◌≡◌ {A = ℕ} 0 1 = cc in absurd (omega arith)
found_some (suc n) {k} e = (cc, λ z. omega arith)

pub found_nothing : (n : ℕ) → None ≡ found n → n ≡ 0
found_nothing zero e = refl
found_nothing (suc n) e = let z : ◌≡◌ {A = ℕ} 0 1 = cc in absurd (omega arith)

-- tests that agree find the same
pub first_same_from : (test other : ℕ → Bool) (k left : ℕ) → ((j : ℕ) → k ≤ j → j < k + left → test j ≡ other j)
    → first_from test k left ≡ first_from other k left
unfolding first_from
first_same_from test other k zero h = refl
first_same_from test other k (suc left) h =
    rw (h k (omega arith) (omega arith), first_same_from test other (suc k) left (λ j l m. h j (omega arith) (omega arith)))

pub first_same : (test other : ℕ → Bool) (count : ℕ) → ((j : ℕ) → 1 ≤ j → j ≤ count → test j ≡ other j)
    → first_from test 1 count ≡ first_from other 1 count
first_same test other count h = first_same_from test other 1 count (λ j l m. h j l (omega arith))

-- The tests

pub below_yes : (p : ℕ) (t : List ℕ) (j x : ℕ) → x ≡ value_at t j → x < p → below p t j ≡ true
unfolding below
below_yes p t j x e h = lt-ltb (value_at t j) p (omega arith)

pub below_is : (p : ℕ) (t : List ℕ) (j : ℕ) → below p t j ≡ true → value_at t j < p
unfolding below
below_is p t j e = ltb-true (value_at t j) p e

-- constraints that are the same are satisfied alike
pub satisfied_same : (p m : ℕ) (constraint other : ℕ → Constraint) (v : ℕ → ℕ) → ((k : ℕ) → 1 ≤ k → k ≤ m → constraint k ≡ other k)
    → first_from (satisfied_by p constraint v) 1 m ≡ first_from (satisfied_by p other v) 1 m
unfolding satisfied_by
satisfied_same p m constraint other v h = first_same (satisfied_by p constraint v) (satisfied_by p other v) m (λ k l g. rw (h k l g))

-- constraint k by its part, the rest after those before it
pub satisfied_part : (p : ℕ) (s : List ℕ) (v : ℕ → ℕ) (k : ℕ) (rest : List ℕ) (b : Bool) → 1 ≤ k → rest ≡ part_from (k - 1) s
    → b ≡ holds p (constraint_in rest) v → satisfied_by p (constraint_of s) v k ≡ b
unfolding satisfied_by constraint_of
satisfied_part p s v k rest b h e f = sym (f ∙ rw e)

pub part_zero : (s : List ℕ) → s ≡ part_from 0 s
unfolding part_from
part_zero s = refl

pub rest_next : (s : List ℕ) (k : ℕ) (rest next : List ℕ) → 1 ≤ k → rest ≡ part_from (k - 1) s → next ≡ after_constraint rest
    → next ≡ part_from (k + 1 - 1) s
rest_next s k rest next h e f =
    let one : suc (k - 1) ≡ k + 1 - 1 = omega arith in f ∙ ap after_constraint e ∙ sym (part_next (k - 1) s) ∙ ap (λ (j : ℕ). part_from j s) one

pub agree_yes : (v w : ℕ → ℕ) (s : ℕ) → v s ≡ w s → agree v w s ≡ true
unfolding agree
agree_yes v w s e = eq-eqb (v s) (w s) e

pub agree_no : (v w : ℕ → ℕ) (s : ℕ) → (v s ≡ w s → ⊥) → agree v w s ≡ false
unfolding agree
agree_no v w s e = ne_eqb (v s) (w s) e

pub agree_is : (v w : ℕ → ℕ) (s : ℕ) → agree v w s ≡ true → v s ≡ w s
unfolding agree
agree_is v w s e = eqb-true (v s) (w s) e

-- The constraints of a circuit

module _ (C : Circuit) (run : List ℕ) where
  held : ℕ → Bool
  held = satisfied_by C.p (constraint_at C) (value_of run)

  pub satisfying : IsRun C run → unsatisfied C run ≡ 0 → Satisfying C run
  unfolding held satisfied_by unsatisfied
  satisfying r e =
      record {
        is_run = r;
        holds = λ k l m. holds_satisfies C.p (constraint_at C k) (value_of run) (passed held C.m e k l m);
      }

  pub none_unsatisfied : 0 < C.p → Satisfying C run → unsatisfied C run ≡ 0
  unfolding held satisfied_by unsatisfied
  none_unsatisfied h S =
      none held C.m (λ k l m. satisfies_holds C.p (constraint_at C k) (value_of run) h (S.holds k l m))
