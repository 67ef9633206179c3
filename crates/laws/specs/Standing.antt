-- The standing (the abstract state of uniqueness propagation), and what a rule may change in it.
use Rattle.std.specs.Prelude.{ℕ, min, Bool, true, false, cond, ◌&&◌, ◌||◌, leb, eqb}
use Rattle.laws.specs.Problem.{Problem}

-- Rule 3.1. The bound is the largest value that a signal is known to take; a mark says that the inputs settle the signal ("constrained"), a nonzero
-- mark that it is never 0 (has an inverse).
pub record Standing : Type 0 where
  pub bound : ℕ → ℕ
  pub marked : ℕ → Bool
  pub nonzero : ℕ → Bool

-- f, but x at t
unfoldable pub put : (ℕ → ℕ) → ℕ → ℕ → ℕ → ℕ
put f t x s = cond (eqb s t) x (f s)

-- m, but true at t
unfoldable pub add : (ℕ → Bool) → ℕ → ℕ → Bool
add m t s = eqb s t || m s

-- Rule 3.3: the bound of t becomes at most x, and never rises.
unfoldable pub lower : Standing → ℕ → ℕ → Standing
lower S t x = record { bound = put S.bound t (min (S.bound t) x); marked = S.marked; nonzero = S.nonzero }

-- Rule 3.3: t becomes marked; the other marks stay.
unfoldable pub mark : Standing → ℕ → Standing
mark S t = record { bound = S.bound; marked = add S.marked t; nonzero = S.nonzero }

-- Rule 3.3: t gets a nonzero mark; the others stay.
unfoldable pub exclude_zero : Standing → ℕ → Standing
exclude_zero S t = record { bound = S.bound; marked = S.marked; nonzero = add S.nonzero t }

-- signals 1 to i
unfoldable pub is_input : ℕ → ℕ → Bool
is_input i s = leb 1 s && leb s i

-- no signal
unfoldable pub none_of : ℕ → Bool
none_of s = false

-- Rule 3.2: the first bounds, the inputs marked, and no nonzero marks.
unfoldable pub start : Problem → Standing
start P = record { bound = P.first; marked = is_input P.i; nonzero = none_of }

-- what a rule gives its target: a bound of at most x, a mark, or a nonzero mark
pub data Change : Type 0 where
  at_most : ℕ → Change
  fixed : Change
  not_zero : Change

abbrev pub apply : Change → Standing → ℕ → Standing
apply (at_most x) S t = lower S t x
apply fixed S t = mark S t
apply not_zero S t = exclude_zero S t

-- Rule 3.4: the change gives its target nothing new. That the standing then stays as it is, and only then, is a theorem.
abbrev pub idle : Change → Standing → ℕ → Bool
idle (at_most x) S t = leb (S.bound t) x
idle fixed S t = S.marked t
idle not_zero S t = S.nonzero t

-- The sorts of changes

abbrev pub bounds : Change → Bool
bounds (at_most x) = true
bounds fixed = false
bounds not_zero = false

abbrev pub marks : Change → Bool
marks (at_most x) = false
marks fixed = true
marks not_zero = false

abbrev pub nonzeros : Change → Bool
nonzeros (at_most x) = false
nonzeros fixed = false
nonzeros not_zero = true

-- the bound that a change gives
abbrev pub value : Change → ℕ
value (at_most x) = x
value fixed = 0
value not_zero = 0
