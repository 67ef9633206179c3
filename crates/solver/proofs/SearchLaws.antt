-- Laws of the search for a signal in the bytes of a form, and of the signal of its one term.
use Prim.Native.Nat.{ℕ, zero, suc, ◌+◌, ◌-◌, ◌*◌, ◌≤◌, ◌<◌}
use mathlib.Core.Path.{◌≡◌, refl, sym, ap, ◌∙◌}
use mathlib.Core.Bool.{Bool, true, false}
use mathlib.Core.List.{List, map}
use native.Mathlib.Omega.{arith}
use lib.Dec.{leb}
use lib.ListN.{length}
use borrow.Author.Tests.{eq-eqb, ne_eqb, eqb-true, leb-true, le-leb}
use Rattle.std.specs.Prelude.{Option, None, Some, MatchOption}
use Rattle.std.specs.List.{range_with_len, AllWithin, HoldsAt}
use Rattle.std.proofs.lemmas.List.FromFn.{get_or-map-range_with_len, length-map-range_with_len}
use Rattle.circuit.specs.Bytes.{byte_at, u16_at}
use Rattle.circuit.specs.Circuit.{Form, names}
use Rattle.circuit.specs.Reader.{form_in}
use Rattle.laws.proofs.Sum.{true_or_false}
use Rattle.laws.specs.Rules.{single}
use Rattle.rules.specs.Steps.{sole}
use Rattle.rules.proofs.FormTests.{sole_none, sole_some}
use Rattle.solver.specs.Search.{SomeNamed, SomeDivisor}
use Rattle.rules.proofs.Walk.{terms_from, turn, terms_end, form_start}

-- the signals that the form names are those of the terms that are left
record Unfound (f : Form) (part : List ℕ) (left at : ℕ) : Type 0 where
  pub same : (s : ℕ) → 1 ≤ s → names f s ≡ names (terms_from part left at) s

unfound_start : (part : List ℕ) (count : ℕ) → count ≡ byte_at part 0 → Unfound (form_in part) part count 1
unfound_start part count e = record { same = λ s l. ap (λ (f : Form). names f s) (form_start part count e) }

module _ (f : Form) (part : List ℕ) (left at : ℕ) (U : Unfound f part left at) where
  module _ (some : 0 < left) (signal : ℕ) (known : signal ≡ u16_at part at) where
    signal_found : 0 < signal → signal ≤ 256 → (1 ≤ signal) × (names f signal ≡ true)
    unfolding names
    signal_found l h =
        let here : names (terms_from part left at) signal ≡ true
        = rw (turn part left at some signal known, le-leb signal 256 h, eq-eqb signal signal refl) refl in
        (omega (arith, l), U.same signal (omega (arith, l)) ∙ here)

    -- a term on 0 or on a signal above 256
    signal_on : {left' at' : ℕ} → left' ≡ left - 1 → at' ≡ at + 6 → (0 < signal → signal ≤ 256 → ⊥) → Unfound f part left' at'
    unfolding names
    signal_on is_left is-at outside = rw (is_left, is-at) (record { same = λ s l. U.same s l ∙ later s l (leb signal 256) refl })
      where
        later : (s : ℕ) → 1 ≤ s → (c : Bool) → leb signal 256 ≡ c → names (terms_from part left at) s ≡ names (terms_from part (left - 1) (at + 6)) s
        later s l true g =
            let other : signal ≡ s → ⊥ = λ q. outside (omega (arith, l, q)) (leb-true signal 256 g) in
            rw (turn part left at some signal known, g, ne_eqb signal s other) refl
        later s l false g = rw (turn part left at some signal known, g) refl

  signal_none : left ≤ 0 → (s : ℕ) → 1 ≤ s → names f s ≡ true → ⊥
  unfolding names
  signal_none h s l e = true_or_false _ e (U.same s l ∙ ap (λ (g : Form). names g s) (terms_end part left at h))

-- what a search passes over, and what it ends at
abbrev pub Outside : ℕ → Type 0
Outside s = 0 < s → s ≤ 256 → ⊥

abbrev pub Inside : ℕ → Type 0
Inside s = (0 < s) × (s ≤ 256)

module _ (part : List ℕ) where
  unfoldable pub signal_at : ℕ → ℕ
  signal_at i = u16_at part (1 + 6 * i)

  module _ (count : ℕ) (counted : count ≡ byte_at part 0) where
    abbrev signals : List ℕ
    signals = map signal_at (range_with_len 0 count)

    passed : (n : ℕ) → n ≤ count → AllWithin Outside signals 0 n → Unfound (form_in part) part (count - n) (1 + 6 * n)
    unfolding signal_at
    passed zero l h =
        let left : count - 0 ≡ count = omega arith in
        let at : 1 + 6 * 0 ≡ 1 = omega arith in
        rw (left, at) (unfound_start part count counted)
    passed (suc n) l h =
        let at = get_or-map-range_with_len signal_at 0 count n n 0 (omega arith) (omega arith) in
        signal_on _ _ _ _ (passed n (omega arith) (λ k d a b. h k d a (omega arith))) (omega arith) _ refl (omega arith) (omega arith)
        (rw at at (h n 0 (omega arith) (omega arith)))

    -- what the search of all the signals finds
    pub signal_first : (x : Option ℕ)
        → MatchOption x (AllWithin Outside signals 0 (length signals))
        (λ s. Inside s × (i : ℕ) × (i < length signals) × HoldsAt (λ y. y ≡ s) signals i × AllWithin Outside signals 0 i)
        → SomeNamed (form_in part) x
    unfolding signal_at
    signal_first None h =
        let long = length-map-range_with_len signal_at 0 count in
        signal_none _ _ _ _ (passed count (omega arith) (rw long at h)) (omega arith)
    signal_first (Some s) h =
        let long = length-map-range_with_len signal_at 0 count in
        let before : h.1 < count = omega (arith, long, h.2) in
        signal_found _ _ _ _ (passed h.1 (omega arith) h.4) (omega arith) s
        (sym (h.3 0) ∙ get_or-map-range_with_len signal_at 0 count h.1 h.1 0 before (omega arith)) h.0.0 h.0.1

-- The signal of a form's one term

module _ (f : Form) (nz : ℕ → Bool) where
  pub divisor_none : None ≡ sole f → SomeDivisor f nz None
  divisor_none e r l i z = true_or_false _ i (sole_none f e r)

  module _ (s : ℕ) (e : Some s ≡ sole f) where
    only : (r : ℕ) → single r f ≡ true → s ≡ r
    only r i = eqb-true s r (sym (sole_some f s e r) ∙ i)

    pub divisor_constant : s ≡ 0 → SomeDivisor f nz None
    divisor_constant z r l i k = omega (arith, only r i)

    pub divisor_free : nz s ≡ false → SomeDivisor f nz None
    divisor_free free r l i k = true_or_false _ k (ap nz (sym (only r i)) ∙ free)

    pub divisor_some : (s ≡ 0 → ⊥) → nz s ≡ true → SomeDivisor f nz (Some s)
    divisor_some d k = (omega arith, sole_some f s e s ∙ eq-eqb s s refl, k)
