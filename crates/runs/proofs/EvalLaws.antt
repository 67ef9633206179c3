-- Laws of forms on small values: a value summed term by term as a whole number, the test of a constraint by remainders.
use Prim.Native.Nat.{ℕ, zero, suc, ◌+◌, ◌*◌, ◌-◌, ◌%◌, ◌≤◌, ◌<◌}
use mathlib.Core.Path.{◌≡◌, refl, sym, ap, ◌∙◌}
use mathlib.Core.Bool.{Bool, true, false}
use mathlib.Core.List.{List}
use native.Mathlib.Nat.{add-zero, zero-add, mul-le-mul}
use native.Mathlib.Decide.{dec_le}
use native.Mathlib.Omega.{arith}
use borrow.Author.Tests.{ne_eqb, leb-false}
use lib.Dec.{leb, eqb}
use lib.ListN.{drop}
use lib.Seq.{drop-drop}
use Rattle.circuit.specs.Bytes.{byte_at, u16_at, u32_at}
use Rattle.circuit.specs.Circuit.{Term, Form, eval}
use Rattle.circuit.specs.Reader.{term_at, term_kept, terms_in, form_in, after_form, constraint_in}
use Rattle.circuit.specs.Run.{eval_mod, holds}
use Rattle.circuit.proofs.ByteLaws.{u16_drop, u32_drop}
use Rattle.circuit.proofs.RunLaws.{holds_by}
use Rattle.runs.specs.Inner.{Candidate, Small}

pub candidate_small : {p n : ℕ} {v : ℕ → ℕ} → p ≤ 65536 → n ≤ 10 → Candidate p n v → Small v
candidate_small {n = n} {v = v} p_most few is =
    record { below = λ s. below s (dec_le 1 s) (dec_le s n); past = λ s l. is.past s (omega arith) }
  where
    below : (s : ℕ) → Dec (1 ≤ s) → Dec (s ≤ n) → v s < 65536
    below s (no a) b = let z : s ≡ 0 = omega arith in rw z (omega (arith, is.constant))
    below s (yes a) (yes b) = omega (arith, is.below s a b)
    below s (yes a) (no b) = omega (arith, is.past s (omega arith))

-- ---- the loop over the terms

-- the sum so far and the value of what is left of a form, `left` terms from `at` on
unfoldable pub whole_from : List ℕ → (ℕ → ℕ) → ℕ → ℕ → ℕ → ℕ
whole_from s v left at sum = sum + eval (terms_in left (drop at s)) v

-- a product of a coefficient and a small value
pub product_most : (c x : ℕ) → c ≤ 4294967295 → x ≤ 65535 → c * x ≤ 281470681677825
product_most c x h g = mul-le-mul h g

module _ (s : List ℕ) (v : ℕ → ℕ) (small : Small v) where
  -- a term on a number that no signal has is passed over, and would add 0
  kept_value : (t : Term) (f : Form) (b : Bool) → leb t.signal 256 ≡ b → (sum : ℕ)
      → sum + eval (term_kept b t f) v ≡ sum + t.coefficient * v t.signal + eval f v
  unfolding eval
  kept_value t f true e sum = omega arith
  kept_value t f false e sum = rw (small.past t.signal (leb-false t.signal 256 e)) (omega arith)

  whole_turn : (left at sum : ℕ) → whole_from s v (suc left) at sum ≡ whole_from s v left (at + 6) (sum + u32_at s (at + 2) * v (u16_at s at))
  unfolding whole_from terms_in
  whole_turn left at sum =
      kept_value (term_at (drop at s)) (terms_in left (drop 6 (drop at s))) (leb (u16_at (drop at s) 0) 256) refl sum
      ∙ simp (u16_drop, u32_drop, drop-drop, add-zero)

  pub whole_start : (count : ℕ) → count ≡ byte_at s 0 → eval (form_in s) v ≡ whole_from s v (count - 0) 1 0
  unfolding form_in whole_from
  whole_start count e = let all : count - 0 ≡ byte_at s 0 = omega (arith, e) in rw (all, zero-add)

  pub whole_again : (z count i sum c x : ℕ) → z ≡ whole_from s v (count - i) (1 + 6 * i) sum → i < count → c ≡ u32_at s (1 + 6 * i + 2)
      → x ≡ v (u16_at s (1 + 6 * i)) → z ≡ whole_from s v (count - (i + 1)) (1 + 6 * (i + 1)) (sum + c * x)
  whole_again z count i sum c x e h f g =
      let more : count - i ≡ suc (count - (i + 1)) = omega arith in
      let next : 1 + 6 * i + 6 ≡ 1 + 6 * (i + 1) = omega arith in
      e ∙ ap (λ (k : ℕ). whole_from s v k (1 + 6 * i) sum) more ∙ whole_turn (count - (i + 1)) (1 + 6 * i) sum ∙ rw (f, g, next)

  pub whole_end : (z left at sum : ℕ) → z ≡ whole_from s v left at sum → left ≤ 0 → sum ≡ z
  unfolding whole_from terms_in eval
  whole_end z zero at sum e h = sym (e ∙ rw add-zero)
  whole_end z (suc left) at sum e h = absurd (omega arith)

-- a constraint by the remainders of its forms
pub holds_whole : (p : ℕ) (s : List ℕ) (v : ℕ → ℕ) → (p ≡ 0 → ⊥) → (s₁ s₂ : List ℕ) (a b c : ℕ) → s₁ ≡ after_form s → s₂ ≡ after_form (after_form s)
    → a ≡ eval (form_in s) v → b ≡ eval (form_in s₁) v → c ≡ eval (form_in s₂) v → eqb ((a % p) * (b % p) % p) (c % p) ≡ holds p (constraint_in s) v
unfolding eval_mod
holds_whole p s v some s₁ s₂ a b c e f ea eb ec =
    let rest : (x : ℕ) (f : Form) → x ≡ eval f v → x % p ≡ eval_mod p f v = λ x f e. rw (e, ne_eqb p 0 some) in
    holds_by p s v s₁ s₂ (a % p) (b % p) (c % p) some e (f ∙ ap after_form (sym e)) (rest a (form_in s) ea)
    (rest b (form_in s₁) eb)
    (rest c (form_in s₂) ec)
