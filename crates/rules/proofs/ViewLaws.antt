-- Laws of arrays viewed as functions of the signal, over the length of the array: a store is `lower`, `mark` or `exclude_zero`, and what stands past
-- the end.
use Prim.Native.Nat.{ℕ, zero, suc, ◌-◌, ◌≤◌, ◌<◌, min}
use mathlib.Core.Path.{◌≡◌, refl, sym, ap, ◌∙◌, fun_ext}
use mathlib.Core.Bool.{Bool, true, false}
use mathlib.Core.List.{List, [], ◌∷◌}
use native.Mathlib.Omega.{arith}
use lib.ListN.{length, get_or, set, replicate, get_or-eq_default, length-replicate, get_or-replicate}
use lib.Seq.{get_or-set_same, get_or-set_other}
use Rattle.laws.specs.Problem.{largest}
use Rattle.laws.specs.Standing.{put, add, lower, mark, exclude_zero}
use Rattle.laws.proofs.Sum.{by_equal, by_order}
use Rattle.laws.proofs.Order.{put_same, put_other, add_same, add_other}
use Rattle.rules.specs.View.{bound_in, mark_in, view_of}

-- past the end

pub bound_past : (p : ℕ) (bounds : List ℕ) (s : ℕ) → length bounds ≤ s → bound_in p bounds s ≡ p - 1
unfolding bound_in
bound_past p bounds s h = get_or-eq_default bounds (p - 1) h

-- within, whatever stands past the end
pub get_d_within : {A : Type 0} (l : List A) (i : ℕ) (d e : A) → i < length l → get_or l i d ≡ get_or l i e
get_d_within [] i d e h = absurd (omega arith)
get_d_within (x ∷ l) zero d e h = refl
get_d_within (x ∷ l) (suc i) d e h = get_d_within l i d e (omega arith)

pub mark_within : (marks : List Bool) (s : ℕ) → get_or marks s false ≡ mark_in marks s
unfolding mark_in
mark_within marks s = refl

pub bound_within : (p : ℕ) (bounds : List ℕ) (s : ℕ) → s < length bounds → get_or bounds s 0 ≡ bound_in p bounds s
unfolding bound_in
bound_within p bounds s h = get_d_within bounds s 0 (p - 1) h

-- one element repeated

pub get_d_repeated : {A : Type 0} (n i : ℕ) (a : A) → get_or (replicate n a) i a ≡ a
get_d_repeated n i a =
    by_order i n (λ h. get_or-replicate n i a a h) (λ h. get_or-eq_default (replicate n a) a (rw (length-replicate n a) h))

pub bound_largest : (p n : ℕ) → bound_in p (replicate n (p - 1)) ≡ largest p
unfolding bound_in largest
bound_largest p n = fun_ext (λ s. get_d_repeated n s (p - 1))

-- a store

pub bound_set : (p : ℕ) (bounds : List ℕ) (t x : ℕ) → t < length bounds → bound_in p (set bounds t x) ≡ put (bound_in p bounds) t x
unfolding bound_in
bound_set p bounds t x h =
    fun_ext (λ s.
    by_equal s t (λ e. rw e (get_or-set_same bounds t x (p - 1) h ∙ sym (put_same _ t x)))
    (λ d. get_or-set_other bounds t s x (p - 1) d ∙ sym (put_other _ t x s d)))

pub mark_set : (marks : List Bool) (t : ℕ) → t < length marks → mark_in (set marks t true) ≡ add (mark_in marks) t
unfolding mark_in
mark_set marks t h =
    fun_ext (λ s.
    by_equal s t (λ e. rw e (get_or-set_same marks t true false h ∙ sym (add_same _ t)))
    (λ d. get_or-set_other marks t s true false d ∙ sym (add_other _ t s d)))

module _ (p : ℕ) (bounds : List ℕ) (marks nonzeros : List Bool) (t : ℕ) where
  pub view_lower : (x : ℕ) → t < length bounds
      → view_of p (set bounds t (min (bound_in p bounds t) x)) marks nonzeros ≡ lower (view_of p bounds marks nonzeros) t x
  unfolding view_of lower
  view_lower x h =
      ap (λ (f : ℕ → ℕ). record { bound = f; marked = mark_in marks; nonzero = mark_in nonzeros }) (bound_set p bounds t _ h)

  pub view_mark : t < length marks → view_of p bounds (set marks t true) nonzeros ≡ mark (view_of p bounds marks nonzeros) t
  unfolding view_of mark
  view_mark h = ap (λ (f : ℕ → Bool). record { bound = bound_in p bounds; marked = f; nonzero = mark_in nonzeros }) (mark_set marks t h)

  pub view_nonzero : t < length nonzeros → view_of p bounds marks (set nonzeros t true) ≡ exclude_zero (view_of p bounds marks nonzeros) t
  unfolding view_of exclude_zero
  view_nonzero h = ap (λ (f : ℕ → Bool). record { bound = bound_in p bounds; marked = mark_in marks; nonzero = f }) (mark_set nonzeros t h)
