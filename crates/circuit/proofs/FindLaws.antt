-- Laws of searches that answer an Option: `find` over the numbers `1..=count` finds the first that fails a test, as `first_from` does, and what is
-- found, or nothing, leads out of a test of a call, or on. And which numbers such a range yields.
use Prim.Native.Nat.{ℕ, zero, suc, ◌+◌, ◌-◌, ◌≤◌}
use mathlib.Core.Path.{◌≡◌, refl, sym, ap, ap₂, subst, ◌∙◌}
use mathlib.Core.Bool.{Bool, true, false}
use mathlib.Core.List.{List, [], ◌∷◌}
use native.Mathlib.Numerals.{add-one}
use native.Mathlib.Omega.{arith}
use denote.Ref.{Bor}
use denote.Param.Members.{Mut}
use Rattle.std.specs.Prelude.{Option, None, Some, IfSome}
use Rattle.std.specs.declared.ops.RangeInclusive.{RangeInclusive}
use Rattle.std.specs.Range.{
  range_inclusive_start,
  range_inclusive_end,
  range_inclusive_exhausted,
  range_inclusive_len,
  range_inclusive_left,
  range_inclusive_steps,
}
use Rattle.std.specs.Iterator.{Yields, FindsItem}
use Rattle.std.specs.List.{FoldsTo, range_with_len}
use Rattle.std.specs.Fn.{CalledAt}
use Rattle.std.proofs.lemmas.Iterator.{YieldsList}
use Rattle.std.proofs.lemmas.Iterator.Consumers.{YieldsList-from_shown}
use Rattle.circuit.specs.Runs.{first_from, found}
use Rattle.circuit.specs.Answer.{Answer, refused, ask_none}

-- how a range of numbers steps
abbrev steps : RangeInclusive ℕ → Option ℕ → RangeInclusive ℕ → Type 0
steps = range_inclusive_steps (λ x y. y - x) (λ x y. y ≡ x + 1)

abbrev left : RangeInclusive ℕ → ℕ
left = range_inclusive_left (λ x y. y - x)

-- a range that has numbers left goes on from its start
goes_on : (a b : ℕ) (e : Bool) → 1 ≤ range_inclusive_len (λ x y. y - x) a b e → e ≡ false
goes_on a b true h = absurd (omega arith)
goes_on a b false h = refl

-- a range yields the numbers that it has left, one after the other
left_yields : (s : RangeInclusive ℕ) → YieldsList steps (λ x. x) s (range_with_len (range_inclusive_start s) (left s))
left_yields =
    YieldsList-from_shown steps (λ x. x) (λ s. range_with_len (range_inclusive_start s) (left s))
    (λ s t e. rw e.1.0 refl)
    (λ s x t e.
    let more : left s ≡ suc (left t) = omega (arith, e.1.1) in
    rw (more, e.1.0) (ap (λ l. range_inclusive_start s ∷ l) (same _ _ (left t) (λ l. e.1.2 (goes_on _ _ _ l)))))
  where
    same : (a b n : ℕ) → (1 ≤ n → b ≡ a) → range_with_len a n ≡ range_with_len b n
    same a b zero h = refl
    same a b (suc n) h = let is : b ≡ a = h (omega arith) in rw is refl

-- YIELDS: what `1..=count` yields
pub range_yields : {s : RangeInclusive ℕ} {count : ℕ} → range_inclusive_start s ≡ 1 → range_inclusive_end s ≡ count
    → range_inclusive_exhausted s ≡ false → YieldsList steps (λ x. x) s (range_with_len 1 count)
range_yields {s} {count} start end e =
    let all : left s ≡ count = rw (e, start, end) (omega arith) in
    subst (λ (l : List ℕ). YieldsList steps (λ x. x) s l) (ap₂ range_with_len start all) (left_yields s)

-- the first of `suc n` numbers from k on, by the test at k
module _ (test : ℕ → Bool) (k n : ℕ) where
  found_none : n ≡ 0 → None ≡ found (first_from test k n)
  unfolding first_from
  found_none e = rw e

  found_here : 1 ≤ k → test k ≡ false → Some k ≡ found (first_from test k (suc n))
  unfolding first_from
  found_here l e = let is : k ≡ suc (k - 1) = omega arith in rw (e, is)

  found_later : test k ≡ true → found (first_from test (k + 1) n) ≡ found (first_from test k (suc n))
  unfolding first_from
  found_later e = rw (e, add-one k)

module _ {F : Type 0} {g : Mut F (Bor ℕ × Unit {0}) Bool} (test : ℕ → Bool) (f : F) (count : ℕ)
    (fails : (x : ℕ) (q : F) → 1 ≤ x → x ≤ count → CalledAt g f x true q → test x ≡ false)
    (passes : (x : ℕ) (q : F) → 1 ≤ x → x ≤ count → CalledAt g f x false q → (q ≡ f) × (test x ≡ true)) where
  -- calls that find r from a state s on, with n numbers left from k on
  search_from : (xs : List ℕ) (s t u : RangeInclusive ℕ) (j : F) (r : Option ℕ) → Yields steps s xs t → steps t r u
      → FoldsTo (λ p x q. CalledAt g p x false q) f xs j → IfSome r (λ x. (h : F) × CalledAt g j x true h)
      → (k n : ℕ) → 1 ≤ k → k + n ≡ count + 1 → n ≡ left s → (range_inclusive_exhausted s ≡ false → range_inclusive_start s ≡ k)
      → r ≡ found (first_from test k n)
  search_from [] s t u j None y last calls end k n l m is at =
      found_none test k n (is ∙ ap left y ∙ last.1.0)
  search_from [] s t u j (Some x) y last calls end k n l m is at =
      let more : 1 ≤ left s = rw y (omega (arith, last.1.1)) in
      let here : x ≡ k = last.1.0 ∙ ap range_inclusive_start (sym y) ∙ at (goes_on _ _ _ more) in
      let test_fails : test k ≡ false = rw here at (fails x end.0 (omega arith) (omega arith) (rw (sym calls) at end.1)) in
      let suc_is : n ≡ suc (n - 1) = omega arith in
      ap Some here ∙ found_here test k (n - 1) l test_fails ∙ ap (λ (m : ℕ). found (first_from test k m)) (sym suc_is)
  search_from (x ∷ xs) s t u j r y last calls end k n l m is at =
      let step = y.1 in
      let more : 1 ≤ left s = omega (arith, step.1.1) in
      let here : x ≡ k = step.1.0 ∙ at (goes_on _ _ _ more) in
      let passed = passes x calls.0 (omega arith) (omega arith) calls.1 in
      let test_passes : test k ≡ true = rw here at passed.1 in
      let suc_is : n ≡ suc (n - 1) = omega arith in
      let fewer : n - 1 ≡ left y.0 = omega (arith, step.1.1) in
      search_from xs y.0 t u j r y.2 last (rw passed.0 at calls.2) end (k + 1) (n - 1) (omega arith) (omega arith) fewer
      (λ e. step.1.2 e ∙ ap (λ (m : ℕ). m + 1) (at (goes_on _ _ _ more)))
      ∙ found_later test k (n - 1) test_passes ∙ ap (λ (m : ℕ). found (first_from test k m)) (sym suc_is)

  -- FIND: what `find` over `1..=count` answers
  pub find_first : (s u : RangeInclusive ℕ) (r : Option ℕ) → FindsItem steps g s f r u
      → range_inclusive_start s ≡ 1 → range_inclusive_end s ≡ count → range_inclusive_exhausted s ≡ false
      → r ≡ found (first_from test 1 count)
  find_first s u r d start end e =
      search_from d.0 s d.2.0 u d.1 r d.2.1 d.2.2 d.3 d.4 1 count (omega arith) (omega arith) (rw (e, start, end) (omega arith)) (λ z. start)

-- What is found decides a test

pub ask_some : {A : Type 0} (number base : ℕ) (r : Answer A) {k : ℕ} (n : ℕ) → Some k ≡ found n → ask_none n number base r ≡ refused number (base + k)
ask_some number base r zero e = let z : ◌≡◌ {A = ℕ} 0 1 = cc in absurd (omega arith)
ask_some number base r {k} (suc n) e = let same : k ≡ suc n = cc in rw same

pub ask_nothing : {A : Type 0} (number base : ℕ) (r : Answer A) (n : ℕ) → None ≡ found n → ask_none n number base r ≡ r
ask_nothing number base r zero e = refl
ask_nothing number base r (suc n) e = let z : ◌≡◌ {A = ℕ} 0 1 = cc in absurd (omega arith)

-- both, for the functions that go through the tests of a call
pub ruleset asks = (ask_some, ask_nothing)
