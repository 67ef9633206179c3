-- Circuits (rank-1 constraint systems), runs (witnesses) and satisfaction: rules 1.2 to 1.7.
use Rattle.std.specs.Prelude.{ℕ, suc, ◌+◌, ◌*◌, ◌-◌, ◌≤◌, ◌<◌, ◌≡◌, Bool, false, cond, ◌||◌, List, [], ◌∷◌, eqb, length, get_or}
use Rattle.field.specs.Prime.{Prime}
use Rattle.field.specs.Residue.{Congruent}

-- Rule 1.3: a term is a signal's number and its coefficient. Rule 1.2: signal 0 is the constant one.
pub record Term : Type 0 where
  pub signal : ℕ
  pub coefficient : ℕ

-- Rule 1.3: a form is a linear combination, zero where it has no terms
abbrev pub Form : Type 0
Form = List Term

-- Rule 1.3: A · B = C
pub record Constraint : Type 0 where
  pub a : Form
  pub b : Form
  pub c : Form

-- Rules 1.1, 1.2: the prime, how many signals, inputs, outputs and constraints there are. Signals 1 to i are the inputs, i + 1 to i + o the outputs.
pub record Circuit : Type 0 where
  pub p : ℕ
  pub n : ℕ
  pub i : ℕ
  pub o : ℕ
  pub m : ℕ
  pub constraints : List Constraint

-- 0 · 0 = 0, for a number that no constraint has
abbrev pub no_constraint : Constraint
no_constraint = record { a = []; b = []; c = [] }

-- constraint k, counted from 1
unfoldable pub constraint_at : Circuit → ℕ → Constraint
constraint_at C k = get_or C.constraints (k - 1) no_constraint

-- the coefficient of signal s in a form: the sum of those of its terms on s, of which a form that was read has at most one; 0 where it has none
unfoldable pub coef : Form → ℕ → ℕ
coef [] s = 0
coef (t ∷ f) s = cond (eqb t.signal s) t.coefficient 0 + coef f s

-- the form names signal s
unfoldable pub names : Form → ℕ → Bool
names [] s = false
names (t ∷ f) s = eqb t.signal s || names f s

-- Rule 1.4: the value of signal s in a run (a witness), the list of the values of signals 1 to n: 1 for signal 0, and 0 past the end
unfoldable pub value_of : List ℕ → ℕ → ℕ
value_of run s = get_or (1 ∷ run) s 0

-- the value of a form, as a whole number
unfoldable pub eval : Form → (ℕ → ℕ) → ℕ
eval [] v = 0
eval (t ∷ f) v = t.coefficient * v t.signal + eval f v

-- Rule 1.5
abbrev pub Satisfies : ℕ → Constraint → (ℕ → ℕ) → Type 0
Satisfies p K v = Congruent p (eval K.a v * eval K.b v) (eval K.c v)

-- Rule 1.4: n values, each below p
pub record IsRun (C : Circuit) (run : List ℕ) : Type 0 where
  pub sized : length run ≡ C.n
  pub below : (s : ℕ) → 1 ≤ s → s ≤ C.n → value_of run s < C.p

-- Rule 1.5: a run that satisfies every constraint
pub record Satisfying (C : Circuit) (run : List ℕ) : Type 0 where
  pub is_run : IsRun C run
  pub holds : (k : ℕ) → 1 ≤ k → k ≤ C.m → Satisfies C.p (constraint_at C k) (value_of run)

-- Rule 1.6
abbrev pub ShareInputs : Circuit → List ℕ → List ℕ → Type 0
ShareInputs C run other = (s : ℕ) → 1 ≤ s → s ≤ C.i → value_of run s ≡ value_of other s

-- Rule 1.3: terms in order, signal numbers from `least` strictly rising and at most n, coefficients 1 to p - 1
pub data Rises (n p : ℕ) : ℕ → Form → Type 0 where
  no_more : {least : ℕ} → Rises n p least []
  more : {least : ℕ} {t : Term} {f : Form} → least ≤ t.signal → t.signal ≤ n → 0 < t.coefficient → t.coefficient < p
      → Rises n p (suc t.signal) f → Rises n p least (t ∷ f)

-- forms whose terms are in order, at most 32 of them
pub record WellFormedConstraint (n p : ℕ) (K : Constraint) : Type 0 where
  pub rises_a : Rises n p 0 K.a
  pub rises_b : Rises n p 0 K.b
  pub rises_c : Rises n p 0 K.c
  pub few_a : length K.a ≤ 32
  pub few_b : length K.b ≤ 32
  pub few_c : length K.c ≤ 32

-- Rule 1.7: all of it but the length of the file, which is no matter of the circuit
pub record WellFormed (C : Circuit) : Type 0 where
  pub prime : Prime C.p
  pub p_least : 3 ≤ C.p
  pub p_most : C.p ≤ 2147483647
  pub n_least : 1 ≤ C.n
  pub n_most : C.n ≤ 256
  pub o_least : 1 ≤ C.o
  pub fits : C.i + C.o ≤ C.n
  pub m_most : C.m ≤ 512
  pub counted : length C.constraints ≡ C.m
  pub each : (k : ℕ) → WellFormedConstraint C.n C.p (constraint_at C k)
