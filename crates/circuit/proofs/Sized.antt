-- What the circuit call says of the bytes: a circuit that isn't refused is well-formed and has the sizes answered.
use Prim.Native.Nat.{ℕ, suc, ◌-◌, ◌≤◌}
use mathlib.Core.Path.{◌≡◌, refl, ap, ◌∙◌}
use mathlib.Core.List.{List}
use native.Mathlib.Omega.{arith}
use lib.ListN.{length, drop}
use Rattle.circuit.specs.Circuit.{Circuit, constraint_at}
use Rattle.circuit.specs.Reading.{Reading, whole, fault}
use Rattle.circuit.specs.Reader.{read_circuit, constraint_of}
use Rattle.circuit.specs.Answer.{Answer, refused, given}
use Rattle.circuit.specs.Call.{sizes_of, on_circuit, circuit_call, circuit_of, Sized, SizedAnswer}
use Rattle.circuit.specs.declared.reader.Sizes.{Sizes}
use Rattle.circuit.proofs.WellFormed.{circuit_whole, read_well_formed}
use Rattle.circuit.proofs.Stored.{read_part}
use Rattle.circuit.proofs.HeaderLaws.{same_sizes}

circuit_of_lem : (s : List ℕ) (C : Circuit) (size : ℕ) → read_circuit s ≡ whole C size → circuit_of s ≡ C
unfolding circuit_of
circuit_of_lem s C size e = rw e

-- the bytes of a circuit that was read
pub read_sized : (s : List ℕ) (C : Circuit) (size : ℕ) → read_circuit s ≡ whole C size → Sized s (sizes_of C)
read_sized s C size e =
    let R = circuit_whole s e in
    let is : circuit_of s ≡ C = circuit_of_lem s C size e in
    record {
      read = rw (is, ← R.is_size) e;
      least = R.least;
      most = R.most;
      formed = rw is (read_well_formed s C size e);
      is_p = rw is;
      is_n = rw is;
      is_i = rw is;
      is_o = rw is;
      is_m = rw is;
    }

-- every call on these bytes is that on the circuit in them
pub on_sized : {A : Type 0} {s : List ℕ} {z : Sizes} (f : Circuit → Answer A) → Sized s z → on_circuit (read_circuit s) f ≡ f (circuit_of s)
on_sized f Z = rw Z.read

pub sizes_are : {s : List ℕ} {z : Sizes} → Sized s z → z ≡ sizes_of (circuit_of s)
sizes_are Z = same_sizes Z.is_p Z.is_n Z.is_i Z.is_o Z.is_m

-- each constraint stands where it is read
pub sized_constraint : {s : List ℕ} {z : Sizes} → Sized s z → (k : ℕ) → 1 ≤ k → k ≤ z.m → constraint_at (circuit_of s) k ≡ constraint_of (drop 17 s) k
unfolding constraint_of
sized_constraint {s} Z k l h =
    let z : k ≡ suc (k - 1) = omega arith in
    ap (constraint_at (circuit_of s)) z ∙ read_part s (circuit_of s) (length s) Z.read (k - 1) (omega (arith, Z.is_m))

pub sized_answer : (s : List ℕ) → SizedAnswer s (circuit_call s)
unfolding circuit_call
sized_answer s z e = go (read_circuit s) refl e
  where
    go : (r : Reading Circuit) → read_circuit s ≡ r → on_circuit r (λ C. given (sizes_of C)) ≡ given z → Sized s z
    go (whole C size) h e = let is : z ≡ sizes_of C = cc in rw is (read_sized s C size h)
    go (fault number place) h e = let z : ◌≡◌ {A = ℕ} 0 1 = cc in absurd (omega arith)

-- a circuit's file that isn't refused: all of rule 1.7
pub call_sized : {s : List ℕ} {z : Sizes} → circuit_call s ≡ given z → Sized s z
call_sized {s} {z} e = sized_answer s z e

-- every call on bytes that the circuit call refuses is refused alike
pub on_refused : {A : Type 0} (s : List ℕ) {number place : ℕ} (f : Circuit → Answer A) → refused number place ≡ circuit_call s
    → refused number place ≡ on_circuit (read_circuit s) f
unfolding circuit_call
on_refused {A} s {number} {place} f e = go (read_circuit s) e
  where
    go : (r : Reading Circuit) → refused number place ≡ on_circuit r (λ C. given (sizes_of C)) → refused number place ≡ on_circuit r f
    go (whole C size) e = let z : ◌≡◌ {A = ℕ} 0 1 = cc in absurd (omega arith)
    go (fault x y) e =
        let same_number : number ≡ x = cc in
        let same_place : place ≡ y = cc in
        rw (same_number, same_place)
