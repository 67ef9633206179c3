-- Laws of answers: what a result says of each test before it, and the refusal at a number that a search found.
use Prim.Native.Nat.{ℕ, zero, suc, ◌+◌}
use mathlib.Core.Path.{◌≡◌, refl, ap, ◌∙◌}
use mathlib.Core.Bool.{Bool, true, false}
use Rattle.std.specs.Prelude.{Result, Err}
use Rattle.std.specs.Result.{IsErrAnd}
use Rattle.std.proofs.lemmas.Result.{err_from_is_err_and}
use native.Mathlib.Nat.{zero-add}
use native.Mathlib.Omega.{arith}
use Rattle.circuit.specs.Answer.{Answer, refused, given, ask, ask_none, and_then}

-- what the exit of a `?` answers
pub err_is : {A E : Type 0} {e : E} (r : Result A E) → IsErrAnd r (λ y. y ≡ e) → r ≡ Err e
err_is r h = let p = err_from_is_err_and r h in p.1 ∙ ap Err p.2

pub ask_given : {A : Type 0} (b : Bool) (number place : ℕ) (r : Answer A) {x : A} → ask b number place r ≡ given x → (b ≡ true) × (r ≡ given x)
ask_given true number place r e = (refl, e)
ask_given false number place r e = let z : ◌≡◌ {A = ℕ} 0 1 = cc in absurd (omega arith)

pub none_given : {A : Type 0} (found number base : ℕ) (r : Answer A) {x : A} → ask_none found number base r ≡ given x → (found ≡ 0) × (r ≡ given x)
none_given zero number base r e = (refl, e)
none_given (suc found) number base r e = let z : ◌≡◌ {A = ℕ} 0 1 = cc in absurd (omega arith)

-- what was given first, and then
pub record Came {A B : Type 0} (r : Answer A) (f : A → Answer B) (y : B) : Type 0 where
  pub result : A
  pub first : r ≡ given result
  pub then : f result ≡ given y

pub next_given : {A B : Type 0} (r : Answer A) (f : A → Answer B) {y : B} → and_then r f ≡ given y → Came r f y
next_given (refused number place) f e = let z : ◌≡◌ {A = ℕ} 0 1 = cc in absurd (omega arith)
next_given (given x) f e = record { result = x; first = refl; then = e }

pub then_same : {A B : Type 0} (r : Answer A) (f g : A → Answer B) → ((x : A) → f x ≡ g x) → and_then r f ≡ and_then r g
then_same (refused number place) f g h = refl
then_same (given x) f g h = h x

pub ask_found : {A : Type 0} (found number base : ℕ) (r : Answer A) → (found ≡ 0 → ⊥) → ask_none found number base r ≡ refused number (base + found)
ask_found zero number base r h = absurd (h refl)
ask_found (suc found) number base r h = refl

pub ask_here : {A : Type 0} (found number : ℕ) (r : Answer A) → (found ≡ 0 → ⊥) → ask_none found number 0 r ≡ refused number found
ask_here found number r h = ask_found found number 0 r h ∙ ap (refused number) (zero-add found)
