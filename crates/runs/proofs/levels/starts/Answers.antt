-- `runs::levels::starts`: the call at each level gave where it begins.
use mathlib.Core.Path.{subst}
use native.Mathlib.Decide.{ℕ_discrete}
use Rattle.std.proofs.Common.{◌≡◌, ◌≤◌, ◌<◌, ℕ, zero, suc, ◌+◌, List, get_or, arith, rules}
use Rattle.std.specs.Fn.{Mut, Called}
use Rattle.std.specs.Array.{IsFromFnResultFrom}
use Rattle.runs.specs.Inner.{IsStart}
use Rattle.runs.proofs.levels.starts.Goals as goal

-- what holds of each call that leaves the closure as it was holds of each element
each_from : {F B : Type 0} (g : Mut F (ℕ × Unit {0}) B) (P : ℕ → B → Type 0) (f : F) → ((i : ℕ) (y : B) (q : F) → Called g f (i, tt) y q → P i y × (q ≡ f))
    → (ys : List B) (i n : ℕ) → IsFromFnResultFrom g f ys i n → (j : ℕ) (d : B) → i ≤ j → j < i + n → P j (get_or ys j d)
each_from g P f step ys i zero E j d l h = absurd (omega arith)
each_from {F} {B} g P f step ys i (suc n) E j d l h = at (each_from g P f step ys (i + 1) n) (ℕ_discrete j i)
  where
    one : P i E.1 × (E.0 ≡ f)
    one = step i E.1 E.0 E.3

    at : (IsFromFnResultFrom g f ys (i + 1) n → (j : ℕ) (d : B) → i + 1 ≤ j → j < i + 1 + n → P j (get_or ys j d)) → Dec (j ≡ i) → P j (get_or ys j d)
    at rest (yes e) = rw (e, E.2.1 d) one.0
    at rest (no e) = rest (subst (λ q. IsFromFnResultFrom g q ys (i + 1) n) one.1 E.4) j d (omega arith) (omega arith)

pub returns : goal.returns
returns c =
    let at = each_from _ (λ h y. IsStart c.args.order.now h y) _ (λ i y q k. search rules) c.from_fn.result 0 11 c.from_fn.ensures.items.each in
    record { each = λ h l. at h 0 (omega arith) (omega arith) }
