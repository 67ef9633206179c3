-- What a step has shown where it ends: the rule is met or not, and the arrays are the next standing.
use Prim.Native.Nat.{ℕ, zero, suc, ◌-◌, ◌≤◌, ◌<◌, min}
use mathlib.Core.Path.{◌≡◌, refl, sym, ap, ◌∙◌, fun_ext}
use mathlib.Core.Bool.{Bool, true, false, cond, ◌&&◌}
use mathlib.Core.List.{List, ◌∷◌, ◌++◌}
use Rattle.std.specs.Prelude.{Option, None, Some}
use native.Mathlib.Decide.{dec_lt}
use native.Mathlib.Omega.{arith}
use lib.Dec.{leb}
use lib.ListN.{length, get_or, set, replicate, length-replicate, get_or-replicate, get_or-append, drop}
use lib.Seq.{get_or-append_right, get_or-drop}
use borrow.Author.Tests.{le-leb, lt-leb}
use Rattle.laws.specs.Problem.{largest}
use Rattle.laws.specs.Standing.{is_input, none_of}
use Rattle.laws.specs.Standing as laws
use Rattle.rules.specs.View.{bound_in, mark_in, view_of}
use Rattle.rules.specs.Promise.{Taken, Told, Flagged}
use Rattle.rules.proofs.ViewLaws.{bound_within, bound_largest, get_d_repeated, view_lower}

-- t's bound becomes at most `most`
pub taken_lower : (p : ℕ) (bounds : List ℕ) (marks nonzeros : List Bool) (t most v : ℕ) → t < length bounds → v ≡ min (get_or bounds t 0) most
    → Taken (leb (get_or bounds t 0) most) (view_of p (set bounds t v) marks nonzeros) (view_of p bounds marks nonzeros) t
    (record { met = true; change = laws.at_most most })
unfolding view_of
taken_lower p bounds marks nonzeros t most v h e =
    let same = bound_within p bounds t h in
    record {
      met = refl;
      idle = ap (λ (b : ℕ). leb b most) same;
      after =
          ap (λ (x : ℕ). view_of p (set bounds t x) marks nonzeros) (e ∙ ap (λ (b : ℕ). min b most) same)
          ∙ view_lower p bounds marks nonzeros t most h;
    }

-- a flag of an array is set, where that changes the standing so
pub told_flag : (view : List Bool → laws.Standing) (change : laws.Change) (t : ℕ) (flags : List Bool) (met : Bool)
    → mark_in flags t ≡ laws.idle change (view flags) t → view (set flags t true) ≡ laws.apply change (view flags) t
    → (told : Option Bool) (next : List Bool) → Flagged told next flags t met
    → Told told (view next) (view flags) t (record { met = met; change = change })
told_flag view change t flags met same store None next F = (F.0, ap view F.1)
told_flag view change t flags met same store (Some was) next F = record { met = F.0; idle = F.1 ∙ same; after = ap view F.2 ∙ store }

-- A rule's bound

pub none_given : {A : Type 0} (b : Bool) (x : A) → None ≡ cond b (Some x) None → b ≡ false
none_given true x e = cc
none_given false x e = refl

pub some_given : {A : Type 0} (b : Bool) (x y : A) → Some y ≡ cond b (Some x) None → (b ≡ true) × (x ≡ y)
some_given true x y e = (refl, cc)
some_given false x y e = cc

-- The start

pub start_zero : (p n : ℕ) → p ≤ 0 → replicate n 0 ≡ replicate n (p - 1)
start_zero p n h = ap (λ (x : ℕ). replicate n x) (omega arith)

-- the constant, then n marks, then none
pub start_filled : (n m : ℕ) (filled : List Bool) → filled ≡ replicate n true → mark_in (false ∷ (filled ++ drop n (replicate m false))) ≡ is_input n
unfolding is_input mark_in
start_filled n m filled is = fun_ext go
  where
    inner : (s : ℕ) → Dec (s < n) → get_or (replicate n true ++ drop n (replicate m false)) s false ≡ leb (suc s) n
    inner s (yes l) =
        get_or-append _ _ false s (omega (arith, length-replicate n true))
        ∙ get_or-replicate n s true false l ∙ sym (le-leb (suc s) n (omega arith))
    inner s (no l) =
        get_or-append_right _ _ s false (omega (arith, length-replicate n true))
        ∙ get_or-drop n _ _ false ∙ get_d_repeated m _ false ∙ sym (lt-leb (suc s) n (omega arith))

    go : (s : ℕ) → get_or (false ∷ (filled ++ drop n (replicate m false))) s false ≡ (leb 1 s && leb s n)
    go zero = refl
    go (suc s) = rw (is, le-leb 1 (suc s) (omega arith)) (inner s (dec_lt s n))

no_marks : (m : ℕ) → mark_in (replicate m false) ≡ none_of
unfolding mark_in none_of
no_marks m = fun_ext (λ s. get_d_repeated m s false)

pub start_view : (p n k i m : ℕ) (bounds : List ℕ) (marks : List Bool) → bounds ≡ replicate n (p - 1) → k ≡ i → mark_in marks ≡ is_input k
    → view_of p bounds marks (replicate m false) ≡ record { bound = largest p; marked = is_input i; nonzero = none_of }
unfolding view_of
start_view p n k i m bounds marks bounds_is k-is e =
    let bounds_same : bound_in p bounds ≡ largest p = ap (bound_in p) bounds_is ∙ bound_largest p n in
    let marks_same : mark_in marks ≡ is_input i = e ∙ ap is_input k-is in
    rw (bounds_same, marks_same, no_marks m)
