-- The reduced form, made by adding multiples of the three forms: its coefficients are those of the definition, and each signal has the forms that
-- name it.
use Prim.Native.Nat.{ℕ, zero, suc, ◌+◌, ◌-◌, ◌*◌, ◌%◌, ◌≤◌, ◌<◌}
use mathlib.Core.Path.{◌≡◌, refl, sym, ap, ◌∙◌}
use mathlib.Core.Bool.{Bool, true, false, ◌&&◌, ◌||◌, or-true, and-false}
use mathlib.Core.List.{List, []}
use native.Mathlib.Nat.{zero-add, mod-lt, mod-mod, mod-add-mod, mod-eq_of_lt}
use native.Mathlib.Omega.{arith}
use lib.Dec.{leb, eqb}
use lib.ListN.{length, set, replicate, length-set}
use lib.Seq.{get_or-set_same, get_or-set_other}
use borrow.Author.Tests.{eq-eqb, ne_eqb, le-leb, lt-leb}
use Rattle.field.specs.Residue.{Congruent, opposite}
use Rattle.field.proofs.Residue.{congruent_multiples, congruent_refl, congruent_sym, congruent_trans, congruent_plus, congruent_times}
use Rattle.field.proofs.Residue.{congruent_mod, congruent_shift, opposite_only, opposite_plus}
use Rattle.circuit.specs.Bytes.{byte_at, u16_at, u32_at}
use Rattle.circuit.specs.Circuit.{Form, coef, names}
use Rattle.circuit.specs.Reader.{signals_most, after_form, form_in, constraint_in}
use Rattle.laws.specs.Sum.{keep}
use Rattle.laws.specs.Rules.{constant, reduced}
use Rattle.laws.proofs.Sum.{by_equal, by_order, or_false, keep_le}
use Rattle.rules.specs.declared.rows.Entry.{Entry}
use Rattle.rules.specs.Rows.{forms_of, nothing, entry_at, coef_on, forms_on, Addable, FormAdded, Reduces}
use Rattle.rules.proofs.ViewLaws.{get_d_repeated}
use Rattle.rules.proofs.Walk.{left_of, left_start, left_end, names_next, coef_next}

-- A form added by a walk over its terms

-- what a walk has made of a signal's coefficient x₀ and of the forms f₀ that name it, and what the terms that are left add to it
pub record Adding (p k bit : ℕ) (F rest : Form) (s x₀ f₀ x f : ℕ) : Type 0 where
  pub sum : x₀ < p → (x₀ + k * coef F s) % p ≡ (x + k * coef rest s) % p
  pub below : x₀ < p → x < p
  pub bit_added : f₀ < bit → f ≡ f₀ + keep (leb bit f) bit
  pub bit_left : f₀ < bit → names F s ≡ (leb bit f || names rest s)

pub adding_start : (p k bit : ℕ) (F rest : Form) → F ≡ rest → (s x f : ℕ) → Adding p k bit F rest s x f x f
unfolding keep
adding_start p k bit F rest e s x f =
    record {
      sum = λ l. ap (λ (G : Form). (x + k * coef G s) % p) e;
      below = λ l. l;
      bit_added = λ l. rw (lt-leb bit f l) (omega arith);
      bit_left = λ l. rw (lt-leb bit f l) (ap (λ (G : Form). names G s) e);
    }

-- a turn
module _ (part : List ℕ) (count i : ℕ) (more : i < count) (signal : ℕ) (known : signal ≡ u16_at part (1 + 6 * i)) (p k bit : ℕ) where
  abbrev next : Form
  next = left_of part count (i + 1)

  module _ (F : Form) (s : ℕ) (low : s ≤ signals_most) {x₀ f₀ x f : ℕ} (A : Adding p k bit F (left_of part count i) s x₀ f₀ x f) where
    adding_hit : signal ≡ s → (v : ℕ) → v ≡ u32_at part (1 + 6 * i + 2) → (x' : ℕ) → (x' ≡ (x + k * v) % p) × (x' < p)
        → (f' : ℕ) → (f < bit → f' ≡ f + bit) × (bit ≤ f → f' ≡ f) → Adding p k bit F next s x₀ f₀ x' f'
    unfolding keep
    adding_hit e v is_v x' is_x f' is_f =
        record {
          sum = λ l.
              let turned : coef (left_of part count i) s ≡ v + coef next s =
              coef_next part count i more signal known s ∙ rw (here, is_v) in
              let apart : x + k * (v + coef next s) ≡ x + k * v + k * coef next s = omega arith in
              A.sum l ∙ rw (turned, apart, is_x.0) (sym (mod-add-mod (x + k * v) p (k * coef next s)));
          below = λ l. is_x.1;
          bit_added = λ l. rw (there l) (omega (arith, with l));
          bit_left = λ l. rw (there l) (A.bit_left l ∙ rw (names_next part count i more signal known s, here) (or-true (leb bit f)));
        }
      where
        with : f₀ < bit → f' ≡ f₀ + bit
        with l =
            by_order f bit
            (λ g. omega (arith, is_f.0 g, rw (lt-leb bit f g) at (A.bit_added l)))
            (λ g. omega (arith, is_f.1 g, rw (le-leb bit f g) at (A.bit_added l)))

        there : f₀ < bit → leb bit f' ≡ true
        there l = le-leb bit f' (omega (arith, with l))

        here : (leb signal signals_most && eqb signal s) ≡ true
        here = rw (le-leb signal signals_most (omega arith), eq-eqb signal s e)

    adding_off : (signal ≡ s → ⊥) → Adding p k bit F next s x₀ f₀ x f
    unfolding keep
    adding_off d =
        record {
          sum = λ l.
              let turned : coef (left_of part count i) s ≡ coef next s =
              coef_next part count i more signal known s ∙ rw (elsewhere, zero-add) in
              A.sum l ∙ rw turned;
          below = A.below;
          bit_added = A.bit_added;
          bit_left = λ l. A.bit_left l ∙ rw (names_next part count i more signal known s, elsewhere);
        }
      where
        elsewhere : (leb signal signals_most && eqb signal s) ≡ false
        elsewhere = rw (ne_eqb signal s d) (and-false (leb signal signals_most))

-- a store at a signal
module _ (form : List Entry) (t : ℕ) (e : Entry) where
  abbrev stored : List Entry
  stored = set form t e

  coef_same : t < length form → coef_on stored t ≡ e.coefficient
  unfolding coef_on entry_at
  coef_same h = ap (λ (x : Entry). x.coefficient) (get_or-set_same form t e nothing h)

  forms_same : t < length form → forms_on stored t ≡ e.forms
  unfolding forms_on entry_at
  forms_same h = ap (λ (x : Entry). x.forms) (get_or-set_same form t e nothing h)

  coef_other : (s : ℕ) → (s ≡ t → ⊥) → coef_on stored s ≡ coef_on form s
  unfolding coef_on entry_at
  coef_other s d = ap (λ (x : Entry). x.coefficient) (get_or-set_other form t s e nothing d)

  forms_other : (s : ℕ) → (s ≡ t → ⊥) → forms_on stored s ≡ forms_on form s
  unfolding forms_on entry_at
  forms_other s d = ap (λ (x : Entry). x.forms) (get_or-set_other form t s e nothing d)

-- a walk over the form at the start of a part, of whose terms so many are added
pub record Walking (p k bit : ℕ) (part : List ℕ) (form₀ form : List Entry) (count i : ℕ) : Type 0 where
  pub wide : length form ≡ 1 + signals_most
  pub each : (s : ℕ) → s ≤ signals_most
      → Adding p k bit (form_in part) (left_of part count i) s (coef_on form₀ s) (forms_on form₀ s) (coef_on form s) (forms_on form s)

pub walk_start : {p k bit : ℕ} {part : List ℕ} {form : List Entry} → Addable p bit form → (count : ℕ) → count ≡ byte_at part 0
    → Walking p k bit part form form count 0
walk_start {p} {k} {bit} {part} R count e =
    record {
      wide = R.wide;
      each = λ s low. adding_start p k bit _ _ (left_start part count e) s _ _;
    }

module _ {p k bit : ℕ} {part : List ℕ} {form₀ form : List Entry} {count i : ℕ} (W : Walking p k bit part form₀ form count i) where
  module _ (more : i < count) (signal : ℕ) (known : signal ≡ u16_at part (1 + 6 * i)) where
    pub walk_at : signal < length form → (v : ℕ) → v ≡ u32_at part (1 + 6 * i + 2) → (e : Entry)
        → (e.coefficient ≡ (coef_on form signal + k * v) % p) × (e.coefficient < p)
        → (forms_on form signal < bit → e.forms ≡ forms_on form signal + bit) × (bit ≤ forms_on form signal → e.forms ≡ forms_on form signal)
        → Walking p k bit part form₀ (set form signal e) count (i + 1)
    walk_at h v is_v e is_x is_f =
        record {
          wide = simp length-set W.wide;
          each = λ s low.
              by_equal signal s
              (λ same. rw (← same) (rw (coef_same form signal e h, forms_same form signal e h)
              (adding_hit part count i more signal known p k bit _ signal (omega (arith, W.wide)) (W.each signal (omega (arith, W.wide)))
              refl v is_v e.coefficient is_x e.forms is_f)))
              (λ d.
              let off : s ≡ signal → ⊥ = λ same. d (sym same) in
              rw (coef_other form signal e s off, forms_other form signal e s off)
              (adding_off part count i more signal known p k bit _ s low (W.each s low) d));
        }

    pub walk_past : length form ≤ signal → Walking p k bit part form₀ form count (i + 1)
    walk_past h =
        record {
          wide = W.wide;
          each = λ s low. adding_off part count i more signal known p k bit _ s low (W.each s low) (λ (e : signal ≡ s). omega (arith, W.wide));
        }

  -- where no terms are left
  pub walk_end : count ≤ i → FormAdded p k bit (form_in part) form₀ form
  unfolding coef names
  walk_end none =
      record {
        added = λ s low l. sym ((each s low).sum l ∙ ap (λ (n : ℕ). n % p) (omega arith) ∙ mod-eq_of_lt ((each s low).below l));
        named = λ s low l.
            (each s low).bit_added l
            ∙ ap (λ (b : Bool). forms_on form₀ s + keep b bit) (sym ((each s low).bit_left l ∙ or_false (leb bit (forms_on form s))));
      }
    where
      each : (s : ℕ) → s ≤ signals_most
          → Adding p k bit (form_in part) [] s (coef_on form₀ s) (forms_on form₀ s) (coef_on form s) (forms_on form s)
      each s low = rw (left_end part count i none) at (W.each s low)

-- what an array of `nothing` holds
pub nothing_repeated : (n t : ℕ) → entry_at (replicate n nothing) t ≡ nothing
unfolding entry_at
nothing_repeated n t = get_d_repeated n t nothing

-- The coefficients, modulo p

multiplied : {p x a b x' a' b' : ℕ} → Congruent p x x' → Congruent p a a' → Congruent p b b' → Congruent p ((x + a * b) % p) (x' + a' * b')
multiplied {p} hx ha hb = congruent_trans (congruent_mod p _) (congruent_plus hx (congruent_times ha hb))

-- p - 1 times x is -x
minus : (p q x : ℕ) → p ≡ suc q → Congruent p (q * x) (opposite p x)
minus p q x e = opposite_only x (omega arith) (congruent_multiples p 0 x (omega (arith, ap (λ (n : ℕ). x * n) e)))

-- three multiples added one after the other; A and B with the constants a0 and b0, C
abbrev three_added : ℕ → ℕ → ℕ → ℕ → ℕ → ℕ → ℕ
three_added p a0 b0 a b c = (((0 + b0 % p * a) % p + a0 % p * b) % p + (p - 1) * c) % p

three : (p a0 b0 a b c : ℕ) → 1 < p → Congruent p (three_added p a0 b0 a b c) (a0 * b + b0 * a + opposite p c)
three p a0 b0 a b c h =
    congruent_trans
    (multiplied
    (multiplied (multiplied (congruent_refl p 0) (congruent_mod p b0) (congruent_refl p a)) (congruent_mod p a0) (congruent_refl p b))
    (congruent_refl p (p - 1))
    (congruent_refl p c))
    (congruent_shift _ _ (minus p (p - 1) c (omega arith)) (omega arith))

-- at a signal
signal_value : (p a0 b0 a b c : ℕ) → 1 < p
    → three_added p a0 b0 a b c ≡ (a0 * b + b0 * a + opposite p 0 + opposite p c) % p
signal_value p a0 b0 a b c h =
    sym (mod-mod _ p)
    ∙ (congruent_trans (three p a0 b0 a b c h) (congruent_shift _ _ (congruent_sym (opposite_plus {p = p} 0 (omega arith))) (omega arith))).is

-- at the constant, with a0·b0 taken off
constant_value : (p a0 b0 c : ℕ) → 1 < p
    → (three_added p a0 b0 a0 b0 c + (p - (0 + a0 % p * (b0 % p)) % p) * 1) % p ≡ (a0 * b0 + b0 * a0 + opposite p (a0 * b0) + opposite p c) % p
unfolding opposite
constant_value p a0 b0 c h =
    let product : (0 + a0 % p * (b0 % p)) % p ≡ (a0 * b0) % p =
    (congruent_trans (congruent_plus (congruent_refl p 0) (congruent_times (congruent_mod p a0) (congruent_mod p b0)))
    (congruent_refl p (0 + a0 * b0))).is ∙ ap (λ (n : ℕ). n % p) (omega arith) in
    ap (λ (m : ℕ). (three_added p a0 b0 a0 b0 c + (p - m) * 1) % p) product
    ∙ (congruent_shift _ _ (three p a0 b0 a0 b0 c h) (omega arith)).is

-- the coefficients of the constraint's forms
module _ (p : ℕ) (s : List ℕ) (h : 1 < p) where
  reduced_signal : (t : ℕ)
      → reduced p (constraint_in s) (suc t)
      ≡ three_added p (coef (form_in s) 0) (coef (form_in (after_form s)) 0) (coef (form_in s) (suc t)) (coef (form_in (after_form s)) (suc t))
      (coef (form_in (after_form (after_form s))) (suc t))
  unfolding reduced constant constraint_in
  reduced_signal t = sym (signal_value p _ _ _ _ _ h)

  reduced_constant :
      reduced p (constraint_in s) 0
      ≡ (three_added p (coef (form_in s) 0) (coef (form_in (after_form s)) 0) (coef (form_in s) 0) (coef (form_in (after_form s)) 0)
      (coef (form_in (after_form (after_form s))) 0)
      + (p - (0 + coef (form_in s) 0 % p * (coef (form_in (after_form s)) 0 % p)) % p) * 1)
      % p
  unfolding reduced constant constraint_in
  reduced_constant = sym (constant_value p _ _ _ h)

  -- the forms added one after the other, from nothing
  module _
      (b c : List ℕ) (b-is : b ≡ after_form s) (c-is : c ≡ after_form (after_form s))
      (a0 b0 : ℕ) (a0-is : a0 ≡ coef (form_in s) 0 % p) (b0-is : b0 ≡ coef (form_in b) 0 % p)
      {f₀ f₁ f₂ f₃ : List Entry} (none : (t : ℕ) → entry_at f₀ t ≡ nothing)
      (first : FormAdded p b0 1 (form_in s) f₀ f₁) (second : FormAdded p a0 2 (form_in b) f₁ f₂)
      (third : FormAdded p (p - 1) 4 (form_in c) f₂ f₃) where
    no_coef : (t : ℕ) → coef_on f₀ t ≡ 0
    unfolding coef_on nothing
    no_coef t = ap (λ (e : Entry). e.coefficient) (none t)

    no_forms : (t : ℕ) → forms_on f₀ t ≡ 0
    unfolding forms_on nothing
    no_forms t = ap (λ (e : Entry). e.forms) (none t)

    third_at : (t : ℕ) → t ≤ signals_most
        → coef_on f₃ t
        ≡ three_added p (coef (form_in s) 0) (coef (form_in (after_form s)) 0) (coef (form_in s) t) (coef (form_in (after_form s)) t)
        (coef (form_in (after_form (after_form s))) t)
    third_at t l =
        let e₁ : coef_on f₁ t ≡ (0 + b0 * coef (form_in s) t) % p =
        first.added t l (rw (no_coef t) (omega arith)) ∙ ap (λ (x : ℕ). (x + b0 * coef (form_in s) t) % p) (no_coef t) in
        let e₂ = second.added t l (rw e₁ (mod-lt _ (omega arith))) in
        let e₃ = third.added t l (rw e₂ (mod-lt _ (omega arith))) in
        e₃ ∙ rw (e₂, e₁, a0-is, b0-is, c-is, b-is)

    all_forms : (t : ℕ) → t ≤ signals_most → forms_on f₃ t ≡ forms_of (constraint_in s) t
    unfolding forms_of constraint_in
    all_forms t l =
        let one = first.named t l (omega (arith, no_forms t)) in
        let few = keep_le (names (form_in s) t) 1 in
        let two = second.named t l (omega (arith, no_forms t)) in
        let few' = keep_le (names (form_in b) t) 2 in
        let three = third.named t l (omega (arith, no_forms t)) in
        let all : forms_on f₃ t ≡ keep (names (form_in s) t) 1 + keep (names (form_in b) t) 2 + keep (names (form_in c) t) 4 = omega (arith, no_forms t) in
        all ∙ rw (c-is, b-is) refl

    pub reduced_made : (m x : ℕ) → m ≡ (0 + a0 * b0) % p → x ≡ (coef_on f₃ 0 + (p - m) * 1) % p → 0 < length f₃
        → (e : Entry) → e.coefficient ≡ x → e.forms ≡ forms_on f₃ 0 → Reduces p (constraint_in s) (set f₃ 0 e)
    reduced_made m x m-is x-is wide e e-is e-forms = record { coefficient = value; named = forms }
      where
        value : (t : ℕ) → t ≤ signals_most → coef_on (set f₃ 0 e) t ≡ reduced p (constraint_in s) t
        value zero l =
            coef_same f₃ 0 e wide ∙ e-is ∙ x-is
            ∙ rw (m-is, third_at 0 l, a0-is, b0-is, b-is) (sym reduced_constant)
        value (suc t) l =
            coef_other f₃ 0 e (suc t) (λ (d : suc t ≡ 0). omega arith) ∙ third_at (suc t) l ∙ sym (reduced_signal t)

        forms : (t : ℕ) → t ≤ signals_most → forms_on (set f₃ 0 e) t ≡ forms_of (constraint_in s) t
        forms zero l = forms_same f₃ 0 e wide ∙ e-forms ∙ all_forms 0 l
        forms (suc t) l = forms_other f₃ 0 e (suc t) (λ (d : suc t ≡ 0). omega arith) ∙ all_forms (suc t) l
