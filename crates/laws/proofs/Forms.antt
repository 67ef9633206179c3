-- Laws of forms: coefficients and names of a form in order, its value as a sum over all signals, and what the tests on a form say of each signal.
use Prim.Native.Nat.{ℕ, zero, suc, ◌+◌, ◌*◌, ◌≤◌, ◌<◌}
use mathlib.Core.Path.{◌≡◌, refl, sym, ap, ◌∙◌}
use mathlib.Core.Bool.{Bool, true, false, not, ◌&&◌, ◌||◌}
use mathlib.Core.List.{[], ◌∷◌}
use native.Mathlib.Nat.{add-zero, zero-add}
use native.Mathlib.Omega.{arith}
use lib.Dec.{eqb}
use borrow.Author.Tests.{eq-eqb, ne_eqb, eqb-true, not-true}
use Rattle.circuit.specs.Circuit.{Term, Form, Rises, no_more, more, coef, names, eval}
use Rattle.laws.specs.Sum.{sum, keep}
use Rattle.laws.specs.Rules.{names_none, is_zero, names_only, others_marked, single}
use Rattle.laws.proofs.Sum.{and_left, and_right, and_both, or_cases, or_left, or_right, true_or_false, by_test, false_by, by_equal}
use Rattle.laws.proofs.Sum.{keep_true, keep_false, keep_same, none_times, sum_cong, sum_zeros, sum_one, sum_out, sum_first}

-- Coefficients and names

coef_none : (s : ℕ) → coef [] s ≡ 0
unfolding coef
coef_none s = refl

coef_miss : (t : Term) (f : Form) (s : ℕ) → eqb t.signal s ≡ false → coef (t ∷ f) s ≡ coef f s
unfolding coef
coef_miss t f s e = rw (e, zero-add)

names_miss : (t : Term) (f : Form) (s : ℕ) → eqb t.signal s ≡ false → names (t ∷ f) s ≡ names f s
unfolding names
names_miss t f s e = rw e

-- a form has no coefficient where it names no signal
pub unnamed_coef : (f : Form) (s : ℕ) → names f s ≡ false → coef f s ≡ 0
unfolding coef names
unnamed_coef [] s e = refl
unnamed_coef (t ∷ f) s e =
    by_test (eqb t.signal s) (λ h. true_or_false _ (or_left _ (names f s) h) e)
    (λ h. coef_miss t f s h ∙ unnamed_coef f s (sym (names_miss t f s h) ∙ e))

-- nor below the least number of its signals, nor above n
pub unnamed_low : {n p least : ℕ} {f : Form} → Rises n p least f → (s : ℕ) → s < least → names f s ≡ false
unfolding names
unnamed_low no_more s h = refl
unnamed_low (more {t = t} {f = f} l m c d r) s h =
    names_miss t f s (ne_eqb _ _ (λ (e : t.signal ≡ s). omega arith)) ∙ unnamed_low r s (omega arith)

-- so the coefficient of its first signal is that of its first term
coef_hit : {n p : ℕ} (t : Term) {f : Form} → Rises n p (suc t.signal) f → (s : ℕ) → eqb t.signal s ≡ true
    → coef (t ∷ f) s ≡ t.coefficient
unfolding coef
coef_hit t {f} r s e =
    let later : coef f s ≡ 0 = unnamed_coef f s (unnamed_low r s (omega (arith, eqb-true t.signal s e))) in
    rw (e, later, add-zero)

pub unnamed_beyond : {n p least : ℕ} {f : Form} → Rises n p least f → (s : ℕ) → n < s → names f s ≡ false
unfolding names
unnamed_beyond no_more s h = refl
unnamed_beyond (more {t = t} {f = f} l m c d r) s h =
    names_miss t f s (ne_eqb _ _ (λ (e : t.signal ≡ s). omega arith)) ∙ unnamed_beyond r s h

pub coef_below : {n p least : ℕ} {f : Form} → 0 < p → Rises n p least f → (s : ℕ) → coef f s < p
unfolding coef
coef_below h no_more s = h
coef_below h (more {t = t} {f = f} l m c d r) s =
    by_test (eqb t.signal s) (λ e. rw (coef_hit t r s e) d) (λ e. rw (coef_miss t f s e) (coef_below h r s))

pub named_coef : {n p least : ℕ} {f : Form} → Rises n p least f → (s : ℕ) → names f s ≡ true → 0 < coef f s
unfolding names
named_coef no_more s e = true_or_false false e refl
named_coef (more {t = t} {f = f} l m c d r) s e =
    by_test (eqb t.signal s) (λ h. rw (coef_hit t r s h) c)
    (λ h. rw (coef_miss t f s h) (named_coef r s (sym (names_miss t f s h) ∙ e)))

-- The value

-- the value of a form is a sum over the constant and all signals
pub eval_sum : {n p least : ℕ} {f : Form} → Rises n p least f → (v : ℕ → ℕ) → eval f v ≡ sum (suc n) (λ s. coef f s * v s)
unfolding eval
eval_sum {n} no_more v = sym (sum_zeros (suc n) (λ s. coef [] s * v s) (λ s l. none_times _ (v s) (coef_none s)))
eval_sum {n} (more {t = t} {f = f} l m c d r) v =
    omega (
      arith,
      eval_sum r v,
      sum_out (suc n) (λ s. coef (t ∷ f) s * v s) t.signal (omega arith),
      ap (λ (k : ℕ). k * v t.signal) (coef_hit t r t.signal (eq-eqb t.signal t.signal refl)),
      sum_cong (suc n) (λ s. keep (not (eqb s t.signal)) (coef (t ∷ f) s * v s)) (λ s. coef f s * v s) rest,
    )
  where
    rest : (s : ℕ) → s < suc n → keep (not (eqb s t.signal)) (coef (t ∷ f) s * v s) ≡ coef f s * v s
    rest s h =
        by_equal s t.signal
        (λ e.
        keep_false _ _ (ap not (eq-eqb s t.signal e))
        ∙ sym (none_times _ (v s) (unnamed_coef f s (unnamed_low r s (omega arith)))))
        (λ d.
        keep_true _ _ (ap not (ne_eqb s t.signal d))
        ∙ ap (λ (k : ℕ). k * v s) (coef_miss t f s (ne_eqb _ _ (λ g. d (sym g)))))

-- Tests on a form

-- a test g that asks q of each term's signal asks it of each signal named, and the converse
module _ (g : Form → Bool) (q : ℕ → Bool) (step : (x : Term) (f : Form) → g (x ∷ f) ≡ (q x.signal && g f)) where
  every_at : (f : Form) → g f ≡ true → (s : ℕ) → names f s ≡ true → q s ≡ true
  unfolding names
  every_at [] e s h = true_or_false false h refl
  every_at (x ∷ f) e s h =
      or_cases (eqb x.signal s) (names f s) h
      (λ i. ap q (sym (eqb-true x.signal s i)) ∙ and_left (q x.signal) (g f) (sym (step x f) ∙ e))
      (λ i. every_at f (and_right (q x.signal) (g f) (sym (step x f) ∙ e)) s i)

  every_from : g [] ≡ true → (f : Form) → ((s : ℕ) → names f s ≡ true → q s ≡ true) → g f ≡ true
  unfolding names
  every_from base [] h = base
  every_from base (x ∷ f) h =
      step x f
      ∙ and_both (q x.signal) (g f) (h x.signal (or_left _ _ (eq-eqb x.signal x.signal refl)))
      (every_from base f (λ s i. h s (or_right (eqb x.signal s) (names f s) i)))

pub none_at : (f : Form) → names_none f ≡ true → (s : ℕ) → names f s ≡ true → s ≡ 0
unfolding names_none
none_at f e s h = eqb-true s 0 (every_at names_none (λ s. eqb s 0) (λ x f. refl) f e s h)

pub only_at : (t : ℕ) (f : Form) → names_only t f ≡ true → (s : ℕ) → names f s ≡ true → (eqb s 0 || eqb s t) ≡ true
unfolding names_only
only_at t f e = every_at (names_only t) (λ s. eqb s 0 || eqb s t) (λ x f. refl) f e

pub others_at : (m : ℕ → Bool) (t : ℕ) (f : Form) → others_marked m t f ≡ true
    → (s : ℕ) → names f s ≡ true → (eqb s 0 || eqb s t || m s) ≡ true
unfolding others_marked
others_at m t f e = every_at (others_marked m t) (λ s. eqb s 0 || eqb s t || m s) (λ x f. refl) f e

pub others_from : (m : ℕ → Bool) (t : ℕ) (f : Form) → ((s : ℕ) → names f s ≡ true → (eqb s 0 || eqb s t || m s) ≡ true)
    → others_marked m t f ≡ true
unfolding others_marked
others_from m t f h = every_from (others_marked m t) (λ s. eqb s 0 || eqb s t || m s) (λ x f. refl) refl f h

-- What the tests say of coefficients and values

pub none_coef : (f : Form) → names_none f ≡ true → (s : ℕ) → coef f (suc s) ≡ 0
none_coef f e s = unnamed_coef f (suc s) (false_by _ (λ h. absurd (omega (arith, none_at f e (suc s) h))))

pub only_coef : (t : ℕ) (f : Form) → names_only t f ≡ true → (s : ℕ) → (suc s ≡ t → ⊥) → coef f (suc s) ≡ 0
only_coef t f e s d =
    unnamed_coef f (suc s)
    (false_by _
    (λ h.
    or_cases (eqb (suc s) 0) (eqb (suc s) t) (only_at t f e (suc s) h) (λ i. absurd (omega (arith, eqb-true (suc s) 0 i)))
    (λ i. d (eqb-true (suc s) t i))))

-- the value of the signals, without the constant
pub signals : ℕ → Form → (ℕ → ℕ) → ℕ
signals n f v = sum n (λ s. coef f (suc s) * v (suc s))

-- the signals of a form that names none
pub signals_none : (n : ℕ) (f : Form) (v : ℕ → ℕ) → names_none f ≡ true → signals n f v ≡ 0
unfolding signals
signals_none n f v e = sum_zeros n (λ s. coef f (suc s) * v (suc s)) (λ s l. none_times _ (v (suc s)) (none_coef f e s))

pub eval_zero : (f : Form) → is_zero f ≡ true → (v : ℕ → ℕ) → eval f v ≡ 0
unfolding is_zero eval
eval_zero [] e v = refl
eval_zero (x ∷ f) e v = true_or_false false e refl

-- a form of exactly one term, on s
pub record Single (p s : ℕ) (f : Form) : Type 0 where
  pub factor : ℕ
  pub positive : 0 < factor
  pub below : factor < p
  pub value : (v : ℕ → ℕ) → eval f v ≡ factor * v s

pub single_says : {n p least s : ℕ} {f : Form} → Rises n p least f → single s f ≡ true → Single p s f
unfolding single is_zero eval
single_says no_more e = true_or_false false e refl
single_says {s = s} (more {t = x} {f = []} l m c d r) e =
    record {
      factor = x.coefficient;
      positive = c;
      below = d;
      value = λ v. add-zero _ ∙ ap (λ (u : ℕ). x.coefficient * v u) (eqb-true x.signal s (and_left (eqb x.signal s) true e));
    }
single_says {s = s} (more {t = x} {f = y ∷ f} l m c d r) e = true_or_false false (and_right (eqb x.signal s) false e) refl

pub single_names : (s : ℕ) (f : Form) → single s f ≡ true → names f s ≡ true
unfolding single names
single_names s [] e = e
single_names s (x ∷ f) e = or_left _ (names f s) (and_left (eqb x.signal s) (is_zero f) e)

pub single_only : (s u : ℕ) (f : Form) → single s f ≡ true → names f u ≡ true → u ≡ s
unfolding single is_zero names
single_only s u [] e h = true_or_false false e refl
single_only s u (x ∷ []) e h =
    or_cases (eqb x.signal u) false h (λ i. sym (eqb-true x.signal u i) ∙ eqb-true x.signal s (and_left (eqb x.signal s) true e))
    (λ i. true_or_false false i refl)
single_only s u (x ∷ y ∷ f) e h = true_or_false false (and_right (eqb x.signal s) false e) refl

module _ {n p least : ℕ} {f : Form} (r : Rises n p least f) where
  -- one signal taken out
  pub eval_out : (v : ℕ → ℕ) (t : ℕ) → t ≤ n → eval f v ≡ coef f t * v t + sum (suc n) (λ s. keep (not (eqb s t)) (coef f s * v s))
  eval_out v t h = eval_sum r v ∙ sum_out (suc n) (λ s. coef f s * v s) t (omega arith)

  -- the constant taken out
  pub eval_parts : (v : ℕ → ℕ) → v 0 ≡ 1 → eval f v ≡ coef f 0 + signals n f v
  unfolding signals
  eval_parts v one = eval_sum r v ∙ sum_first n (λ s. coef f s * v s) ∙ omega (arith, ap (λ (k : ℕ). coef f 0 * k) one)

  -- a form that names no other signal than t has at most two terms
  pub eval_only : {t : ℕ} → 1 ≤ t → t ≤ n → names_only t f ≡ true → (v : ℕ → ℕ) → v 0 ≡ 1 → eval f v ≡ coef f 0 + coef f t * v t
  unfolding signals
  eval_only {t = zero} l h e v one = absurd (omega arith)
  eval_only {t = suc t} l h e v one =
      omega (
        arith,
        eval_parts v one,
        sum_one n (λ s. coef f (suc s) * v (suc s)) t (omega arith)
            (λ s m d. none_times _ (v (suc s)) (only_coef (suc t) f e s (λ (i : suc s ≡ suc t). d (omega arith)))),
      )

  -- runs that agree at the constant and at the marked signals agree at each term but the one of t
  pub others_equal : (m : ℕ → Bool) (t : ℕ) → others_marked m t f ≡ true → (v w : ℕ → ℕ) → v 0 ≡ w 0
      → ((s : ℕ) → 1 ≤ s → s ≤ n → m s ≡ true → v s ≡ w s)
      → (s : ℕ) → s < suc n → keep (not (eqb s t)) (coef f s * v s) ≡ keep (not (eqb s t)) (coef f s * w s)
  others_equal m t e v w zero-equal agree s l =
      keep_same (not (eqb s t)) _ _
      (λ d.
      by_test (names f s) (λ h. ap (λ (k : ℕ). coef f s * k) (same s l (not-true _ d) (others_at m t f e s h)))
      (λ h. none_times _ (v s) (unnamed_coef f s h) ∙ sym (none_times _ (w s) (unnamed_coef f s h))))
    where
      same : (s : ℕ) → s < suc n → eqb s t ≡ false → (eqb s 0 || eqb s t || m s) ≡ true → v s ≡ w s
      same zero l d h = zero-equal
      same (suc s) l d h =
          or_cases (eqb (suc s) 0 || eqb (suc s) t) (m (suc s)) h
          (λ i. or_cases (eqb (suc s) 0) (eqb (suc s) t) i (λ j. absurd (omega (arith, eqb-true (suc s) 0 j))) (λ j. true_or_false _ j d))
          (λ i. agree (suc s) (omega arith) (omega arith) i)
