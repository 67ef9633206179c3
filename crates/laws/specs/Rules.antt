-- The seven rules, each over one constraint and over bounds and marks of both sorts as functions of the signal: whether it is met, and the bound that it gives.
use Rattle.std.specs.Prelude.{ℕ, zero, suc, ◌+◌, ◌*◌, ◌%◌, max, Bool, true, false, not, ◌&&◌, ◌||◌, [], ◌∷◌, ltb, eqb}
use Rattle.field.specs.Residue.{opposite}
use Rattle.field.specs.Inverse.{inverse}
use Rattle.circuit.specs.Circuit.{Form, Constraint, coef, names}
use Rattle.laws.specs.Sum.{sum, all, keep, implies}

-- the form names no signal
unfoldable pub names_none : Form → Bool
names_none [] = true
names_none (x ∷ f) = eqb x.signal 0 && names_none f

-- Rule 4.1: A or B names no signal.
unfoldable pub linear : Constraint → Bool
linear K = names_none K.a || names_none K.b

-- x at the constant, 0 at every signal
unfoldable pub constant : ℕ → ℕ → ℕ
constant x zero = x
constant x (suc s) = 0

-- Rule 4.2: the coefficient of signal s in a0·B + b0·A - a0·b0 - C modulo p, 0 where it drops out; at 0 the constant.
unfoldable pub reduced : ℕ → Constraint → ℕ → ℕ
reduced p K s =
    (coef K.a 0 * coef K.b s + coef K.b 0 * coef K.a s
    + opposite p (constant (coef K.a 0 * coef K.b 0) s)
    + opposite p (coef K.c s))
    % p

-- a form, given by its coefficients, has one at s
unfoldable pub occurs : (ℕ → ℕ) → ℕ → Bool
occurs R s = not (eqb (R s) 0)

-- Root

unfoldable pub is_zero : Form → Bool
is_zero [] = true
is_zero (x ∷ f) = false

-- the form names no other signal than t
unfoldable pub names_only : ℕ → Form → Bool
names_only t [] = true
names_only t (x ∷ f) = (eqb x.signal 0 || eqb x.signal t) && names_only t f

-- Rule 4.3: C is zero, and A and B each name t alone.
unfoldable pub root_met : Constraint → ℕ → Bool
root_met K t =
    is_zero K.c
    && (names K.a t && names_only t K.a)
    && (names K.b t && names_only t K.b)

-- where a form that names only t is 0
unfoldable pub root : ℕ → Form → ℕ → ℕ
root p f t = opposite p (coef f 0) * inverse p (coef f t) % p

-- Rule 4.3: the larger root.
unfoldable pub root_bound : ℕ → Constraint → ℕ → ℕ
root_bound p K t = max (root p K.a t) (root p K.b t)

-- Sum

-- Rule 4.4: the weight of s, its coefficient times -1/c modulo p, where c is the coefficient of the target.
unfoldable pub sum_weight : ℕ → (ℕ → ℕ) → ℕ → ℕ → ℕ
sum_weight p R t s = opposite p (R s) * inverse p (R t) % p

-- what weights are multiplied by: 1 at the constant, the bound at a signal
unfoldable pub ceiling : (ℕ → ℕ) → ℕ → ℕ
ceiling b zero = 1
ceiling b (suc s) = b (suc s)

unfoldable pub sum_term : ℕ → (ℕ → ℕ) → (ℕ → ℕ) → ℕ → ℕ → ℕ
sum_term p R b t s = keep (not (eqb s t)) (sum_weight p R t s * ceiling b s)

-- Rule 4.4: the constant weight and every weight times bound, but the target's, added up as whole numbers.
unfoldable pub sum_bound : ℕ → ℕ → (ℕ → ℕ) → (ℕ → ℕ) → ℕ → ℕ
sum_bound p n R b t = sum (suc n) (sum_term p R b t)

-- Rule 4.4: linear, the target occurs, and the sum is below p.
unfoldable pub sum_met : ℕ → ℕ → Constraint → (ℕ → ℕ) → ℕ → Bool
sum_met p n K b t = linear K && occurs (reduced p K) t && ltb (sum_bound p n (reduced p K) b t) p

-- Zero

-- Rule 4.5: the target has bound 0.
unfoldable pub zero_met : (ℕ → ℕ) → ℕ → Bool
zero_met b t = eqb (b t) 0

-- Product

-- all signals of the form other than t are marked
unfoldable pub others_marked : (ℕ → Bool) → ℕ → Form → Bool
others_marked m t [] = true
others_marked m t (x ∷ f) = (eqb x.signal 0 || eqb x.signal t || m x.signal) && others_marked m t f

-- Rule 4.6: not linear; t stands in C alone; all other signals are marked.
unfoldable pub product_met : Constraint → (ℕ → Bool) → ℕ → Bool
product_met K m t =
    not (linear K)
    && (names K.c t && not (names K.a t) && not (names K.b t))
    && (others_marked m t K.a && others_marked m t K.b && others_marked m t K.c)

-- Digits

-- Rule 4.7: the weight of s where the form is scaled so that r, marked or not, has weight 1.
unfoldable pub weight : ℕ → (ℕ → ℕ) → ℕ → ℕ → ℕ
weight p R r s = R s * inverse p (R r) % p

-- s is an unmarked signal of the form
unfoldable pub live : (ℕ → ℕ) → (ℕ → Bool) → ℕ → Bool
live R m zero = false
live R m (suc s) = occurs R (suc s) && not (m (suc s))

-- the weight of s differs from that of u, if u is another unmarked signal
unfoldable pub differs : ℕ → (ℕ → ℕ) → (ℕ → Bool) → ℕ → ℕ → ℕ → Bool
differs p R m r s u = implies (live R m u && not (eqb s u)) (not (eqb (weight p R r s) (weight p R r u)))

unfoldable pub smaller_term : ℕ → (ℕ → ℕ) → (ℕ → ℕ) → (ℕ → Bool) → ℕ → ℕ → ℕ → ℕ
smaller_term p R b m r w u = keep (live R m u && ltb (weight p R r u) w) (weight p R r u * b u)

-- weight times bound, added up over the unmarked signals with weights below w
unfoldable pub smaller_sum : ℕ → ℕ → (ℕ → ℕ) → (ℕ → ℕ) → (ℕ → Bool) → ℕ → ℕ → ℕ
smaller_sum p n R b m r w = sum (suc n) (smaller_term p R b m r w)

-- an unmarked signal's weight differs from the others and exceeds that sum
unfoldable pub separate : ℕ → ℕ → (ℕ → ℕ) → (ℕ → ℕ) → (ℕ → Bool) → ℕ → ℕ → Bool
separate p n R b m r s =
    implies (live R m s)
    (all (suc n) (differs p R m r s) && ltb (smaller_sum p n R b m r (weight p R r s)) (weight p R r s))

unfoldable pub live_term : ℕ → (ℕ → ℕ) → (ℕ → ℕ) → (ℕ → Bool) → ℕ → ℕ → ℕ
live_term p R b m r u = keep (live R m u) (weight p R r u * b u)

-- Rule 4.7: the unmarked signals have different weights, each above the sum over the smaller ones, and the sum over all is below p:
-- the weights of a mixed-radix numeral.
unfoldable pub separated : ℕ → ℕ → (ℕ → ℕ) → (ℕ → ℕ) → (ℕ → Bool) → ℕ → Bool
separated p n R b m r = all (suc n) (separate p n R b m r) && ltb (sum (suc n) (live_term p R b m r)) p

-- Rule 4.7: linear, target and reference occur, and the reference separates the unmarked signals.
unfoldable pub digits_met : ℕ → ℕ → Constraint → (ℕ → ℕ) → (ℕ → Bool) → ℕ → ℕ → Bool
digits_met p n K b m t r = linear K && (occurs (reduced p K) t && occurs (reduced p K) r) && separated p n (reduced p K) b m r

-- Nonzero

-- the form has exactly one term, and it is on s
unfoldable pub single : ℕ → Form → Bool
single s [] = false
single s (x ∷ f) = eqb x.signal s && is_zero f

-- Rule 4.8: C is a constant other than 0, and A or B is one term on t.
unfoldable pub nonzero_met : Constraint → ℕ → Bool
nonzero_met K t = single 0 K.c && (single t K.a || single t K.b)

-- Quotient

-- r is marked and never 0, and isn't t
unfoldable pub divisor : (ℕ → Bool) → (ℕ → Bool) → ℕ → ℕ → Bool
divisor m z t r = m r && z r && not (eqb r t)

-- one of two forms is a single term on r, and t is in the other
unfoldable pub divides : Form → Form → ℕ → ℕ → Bool
divides f g t r = (single r f && names g t) || (single r g && names f t)

-- Rule 4.9: r is marked, never 0, and not t; one of A and B is a single term on r, and t is in the other; t isn't in C; all other signals are marked.
unfoldable pub quotient_met : Constraint → (ℕ → Bool) → (ℕ → Bool) → ℕ → ℕ → Bool
quotient_met K m z t r =
    divisor m z t r
    && (divides K.a K.b t r && not (names K.c t))
    && (others_marked m t K.a && others_marked m t K.b && others_marked m t K.c)
