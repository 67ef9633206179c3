-- Laws of a step read from its bytes.
use Prim.Native.Nat.{ℕ, ◌+◌}
use mathlib.Core.Path.{◌≡◌, refl}
use mathlib.Core.Bool.{Bool, true, false, ◌&&◌, and_assoc}
use mathlib.Core.List.{List}
use mathlib.Core.Option.{none, some}
use Rattle.circuit.specs.Bytes.{byte_at, u16_at}
use Rattle.laws.specs.Problem.{Problem}
use Rattle.laws.specs.Step.{Kind, Step, within, inside, named, referred, names_of, refers, in_range}
use Rattle.derivation.specs.Steps.{kind_of, step_start, step_at, read_step}
use Rattle.derivation.specs.Inner.{names_in, range_of}

-- the values that the table allows a field
names_range : (named_one : Bool) (P : Problem) → named (names_in named_one) P ≡ range_of named_one P.m
names_range true P = refl
names_range false P = refl

refers_range : (refers : Bool) (P : Problem) → referred refers P ≡ range_of refers P.n
refers_range true P = refl
refers_range false P = refl

-- the three fields of a step
pub ranges_are : (P : Problem) (x : Step) (n m : ℕ) (names : Bool) {refer a b c : Bool} → P.n ≡ n → P.m ≡ m
    → names_in names ≡ names_of x.kind → refer ≡ refers x.kind
    → a ≡ within n x.target → b ≡ inside (range_of names m) x.constraint → c ≡ inside (range_of refer n) x.reference
    → (a && b && c) ≡ in_range P x
unfolding in_range
ranges_are P x n m names {refer} e f names_are refers_are target constraint reference =
    rw (target, constraint, reference, ← e, ← f, ← names_are, ← refers_are, names_range names P, refers_range refer P) (and_assoc (within P.n x.target) (inside (range_of names P.m) x.constraint) (inside (range_of refer P.n) x.reference))

-- step k is none where its kind is ..
pub step_unknown : (d : List ℕ) (k : ℕ) {at : ℕ} → at ≡ step_start k → none ≡ kind_of (byte_at d at) → none ≡ read_step d k
unfolding read_step
step_unknown d k is e = rw (← is, ← e)

-- .. or has the kind and the fields that were read
pub step_known : (d : List ℕ) (k : ℕ) {at : ℕ} {q : Kind} {target constraint reference : ℕ} → at ≡ step_start k → some q ≡ kind_of (byte_at d at)
    → target ≡ u16_at d (at + 1) → constraint ≡ u16_at d (at + 3) → reference ≡ u16_at d (at + 5)
    → some (record { kind = q; target = target; constraint = constraint; reference = reference }) ≡ read_step d k
unfolding read_step step_at
step_known d k is e t c r = rw (← is, ← e, ← is, t, c, r)
