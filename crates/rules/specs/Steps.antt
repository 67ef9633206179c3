-- What single functions of the code give: how the rules run, not what they mean.
use Rattle.std.specs.Prelude.{ℕ, ◌≤◌, ◌<◌, ◌≡◌, Bool, true, cond, not, ◌||◌, [], ◌∷◌, Option, None, Some, IfSome, MatchOption, leb, eqb}
use Rattle.field.specs.Residue.{opposite}
use Rattle.field.specs.Inverse.{inverse}
use Rattle.circuit.specs.Circuit.{Form, Constraint}
use Rattle.circuit.specs.Reader.{signals_most}
use Rattle.laws.specs.Sum.{sum}
use Rattle.laws.specs.Rules.{reduced, occurs, sum_term, sum_bound, sum_met}
use Rattle.rules.specs.declared.sums.Lowering.{Lowering}

-- a term on this signal is passed over, or leaves all signals but t marked
unfoldable pub allowed : (ℕ → Bool) → ℕ → ℕ → Bool
allowed m t signal = not (leb signal signals_most) || (eqb signal 0 || eqb signal t || m signal)

-- the signal of a form's one term, if no term has been found before; that which was found, if the form has none
abbrev pub sole_after : Option ℕ → Form → Option ℕ
sole_after found [] = found
sole_after None (x ∷ f) = sole_after (Some x.signal) f
sole_after (Some s) (x ∷ f) = None

-- the signal of a form that has exactly one term, 0 for the constant; None of other forms
unfoldable pub sole : Form → Option ℕ
sole f = sole_after None f

-- the bound that the sum rule gives, None where the rule isn't met
abbrev pub sum_step : ℕ → ℕ → Constraint → (ℕ → ℕ) → ℕ → Option ℕ
sum_step p n K b t = cond (sum_met p n K b t) (Some (sum_bound p n (reduced p K) b t)) None

-- A sum by a form R lowers the target's bound.
pub record SumLowers (p n : ℕ) (R b : ℕ → ℕ) (target bound : ℕ) : Type 0 where
  pub least : 1 ≤ target
  pub most : target ≤ n
  pub present : occurs R target ≡ true
  pub is : sum_bound p n R b target ≡ bound
  pub below : bound < p
  pub lower : bound < b target

-- The one sum by a form R that lowers a bound, None where there is none.
pub record OneSum (p n : ℕ) (R b : ℕ → ℕ) (x : Option Lowering) : Type 0 where
  pub only : (t : ℕ) → 1 ≤ t → t ≤ n → occurs R t ≡ true → sum_bound p n R b t < p → sum_bound p n R b t < b t
      → x ≡ Some (record { target = t; bound = sum_bound p n R b t })
  pub held : IfSome x (λ l. SumLowers p n R b l.target l.bound)

-- Sums by a row, of which R and b are coefficients and bounds by place

-- place e has a signal with a coefficient ..
pub record Target (R : ℕ → ℕ) (count e : ℕ) : Type 0 where
  pub least : 1 ≤ e
  pub before : e < count
  pub present : R e ≡ 0 → ⊥

-- .. whose bound is above those of all others
pub record Highest (R b : ℕ → ℕ) (count e : ℕ) : Type 0 where
  pub target : Target R count e
  pub positive : 0 < b e
  pub above : (i : ℕ) → Target R count i → (i ≡ e → ⊥) → b i < b e

-- a coefficient times the scale is a weight of the sum for place e
pub record Scale (p : ℕ) (R : ℕ → ℕ) (count e scale : ℕ) : Type 0 where
  pub modulus : 0 < p
  pub target : Target R count e
  pub is : scale ≡ opposite p (inverse p (R e))

-- the scale, None where place e has no target
abbrev pub Scaled : ℕ → (ℕ → ℕ) → ℕ → ℕ → Option ℕ → Type 0
Scaled p R count e x = MatchOption x (0 < p → Target R count e → ⊥) (λ scale. Scale p R count e scale)

-- the sum for place e, if it is below a limit
pub record Total (p : ℕ) (R b : ℕ → ℕ) (count e limit x : ℕ) : Type 0 where
  pub target : Target R count e
  pub below : x < limit
  pub is : x ≡ sum count (sum_term p R b e)

abbrev pub Summed : ℕ → (ℕ → ℕ) → (ℕ → ℕ) → ℕ → ℕ → ℕ → Option ℕ → Type 0
Summed p R b count e limit x =
    MatchOption x (0 < p → Target R count e → limit ≤ sum count (sum_term p R b e)) (λ total. Total p R b count e limit total)
