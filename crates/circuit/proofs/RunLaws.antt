-- Laws of forms on a run: a form's value summed term by term modulo p, and the test of a constraint against its meaning.
use Prim.Native.Nat.{ℕ, zero, suc, ◌+◌, ◌*◌, ◌-◌, ◌%◌, ◌≤◌, ◌<◌}
use mathlib.Core.Path.{◌≡◌, sym, ap, ◌∙◌}
use mathlib.Core.Bool.{Bool, true, false, cond, ◌&&◌}
use mathlib.Core.List.{List}
use native.Mathlib.Nat.{add-zero, zero-add, add_assoc, mul-le-mul}
use Rattle.std.proofs.Math.Nat.{mod-eq_of_lt}
use native.Mathlib.Omega.{arith}
use borrow.Author.Tests.{lt-ltb, eq-eqb, ne_eqb, eqb-true}
use lib.Dec.{ltb, leb, eqb}
use lib.ListN.{drop}
use lib.Seq.{drop-drop}
use Rattle.field.proofs.Residue.{congruent_refl, congruent_sym, congruent_plus, congruent_mod, congruent_times}
use Rattle.circuit.specs.Bytes.{byte_at, u16_at}
use Rattle.circuit.specs.Circuit.{Term, Form, Constraint, eval, Satisfies}
use Rattle.circuit.specs.Reader.{term_at, term_kept, terms_in, form_in, after_form, constraint_in}
use Rattle.circuit.specs.Run.{term_mod, eval_mod, holds}
use Rattle.circuit.proofs.ByteLaws.{u16_drop, u32_drop}

-- a product of two 32-bit numbers
pub product_most : (a b : ℕ) → a ≤ 4294967295 → b ≤ 4294967295 → a * b ≤ 18446744065119617025
product_most a b h g = mul-le-mul h g

-- what is below p is its own remainder
pub small_remainder : (x p : ℕ) → x < p → x ≡ x % p
small_remainder x p h = sym (mod-eq_of_lt h)

-- The test of a constraint and its meaning

pub holds_satisfies : (p : ℕ) (K : Constraint) (v : ℕ → ℕ) → holds p K v ≡ true → Satisfies p K v
unfolding holds
holds_satisfies p K v e = go (ltb 0 p) e
  where
    go : (b : Bool) → (b && eqb (eval K.a v * eval K.b v % p) (eval K.c v % p)) ≡ true → Satisfies p K v
    go true e = record { is = eqb-true _ _ e }
    go false e = let z : ◌≡◌ {A = ℕ} 0 1 = cc in absurd (omega arith)

pub satisfies_holds : (p : ℕ) (K : Constraint) (v : ℕ → ℕ) → 0 < p → Satisfies p K v → holds p K v ≡ true
unfolding holds
satisfies_holds p K v h s = rw (lt-ltb 0 p h, eq-eqb _ _ s.is)

-- The loop over the terms

-- what is left of a form's sum where `left` terms are to be added from `at` on
unfoldable pub sum_from : ℕ → List ℕ → (ℕ → ℕ) → ℕ → ℕ → ℕ → ℕ
sum_from p s v left at sum = (sum + eval (terms_in left (drop at s)) v) % p

plus_kept : (b : Bool) (t : Term) (f : Form) (v : ℕ → ℕ) (sum p : ℕ)
    → (sum + eval (term_kept b t f) v) % p ≡ (sum + cond b (t.coefficient * v t.signal % p) 0 + eval f v) % p
unfolding eval
plus_kept true t f v sum p =
    rw (← add_assoc)
    (congruent_plus (congruent_plus (congruent_refl p sum) (congruent_sym (congruent_mod p (t.coefficient * v t.signal)))) (congruent_refl p (eval f v))
    ).is
plus_kept false t f v sum p = rw add-zero

sum_turn : (p : ℕ) (s : List ℕ) (v : ℕ → ℕ) (left at sum : ℕ) → sum_from p s v (suc left) at sum ≡ sum_from p s v left (at + 6) (sum + term_mod p s at v)
unfolding sum_from terms_in term_mod
sum_turn p s v left at sum =
    plus_kept (leb (u16_at (drop at s) 0) 256) (term_at (drop at s)) (terms_in left (drop 6 (drop at s))) v sum p
    ∙ simp (u16_drop, u32_drop, drop-drop, add-zero)

-- the loop: the whole value z is the sum so far and what is left
module _ (p : ℕ) (s : List ℕ) (v : ℕ → ℕ) where
  pub sum_start : (count : ℕ) → count ≡ byte_at s 0 → 0 < p → eval_mod p (form_in s) v ≡ sum_from p s v (count - 0) 1 0
  unfolding eval_mod form_in sum_from
  sum_start count e h = let all : count - 0 ≡ byte_at s 0 = omega (arith, e) in rw (ne_eqb p 0 (λ z. omega arith), all, zero-add)

  pub sum_again : (z count i sum x : ℕ) → z ≡ sum_from p s v (count - i) (1 + 6 * i) sum → i < count → x ≡ term_mod p s (1 + 6 * i) v
      → z ≡ sum_from p s v (count - (i + 1)) (1 + 6 * (i + 1)) (sum + x)
  sum_again z count i sum x e h is =
      let more : count - i ≡ suc (count - (i + 1)) = omega arith in
      let next : 1 + 6 * i + 6 ≡ 1 + 6 * (i + 1) = omega arith in
      e ∙ ap (λ (k : ℕ). sum_from p s v k (1 + 6 * i) sum) more ∙ sum_turn p s v (count - (i + 1)) (1 + 6 * i) sum ∙ rw (is, next)

  pub sum_end : (z left at sum : ℕ) → z ≡ sum_from p s v left at sum → left ≤ 0 → sum % p ≡ z
  unfolding sum_from terms_in eval
  sum_end z zero at sum e h = sym (e ∙ rw add-zero)
  sum_end z (suc left) at sum e h = absurd (omega arith)

-- a constraint by the values of its forms
module _ (p : ℕ) (s : List ℕ) (v : ℕ → ℕ) where
  pub holds_not : p ≡ 0 → false ≡ holds p (constraint_in s) v
  unfolding holds
  holds_not h = rw h

  pub holds_by : (s₁ s₂ : List ℕ) (a b c : ℕ) → (p ≡ 0 → ⊥) → s₁ ≡ after_form s → s₂ ≡ after_form s₁
      → a ≡ eval_mod p (form_in s) v → b ≡ eval_mod p (form_in s₁) v → c ≡ eval_mod p (form_in s₂) v
      → eqb (a * b % p) c ≡ holds p (constraint_in s) v
  unfolding holds eval_mod constraint_in
  holds_by s₁ s₂ a b c h e f ea eb ec =
      rw (
        ea,
        eb,
        ec,
        f,
        e,
        ne_eqb p 0 h,
        lt-ltb 0 p (omega arith),
        (congruent_times (congruent_mod p (eval (form_in s) v)) (congruent_mod p (eval (form_in (after_form s)) v))).is,
      )
