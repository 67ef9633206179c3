-- Laws of the check of a whole file: its tests in the order of the code, each of which leads out or on.
use Prim.Native.Nat.{ℕ, ◌≤◌}
use mathlib.Core.Path.{◌≡◌, refl, sym, ◌∙◌}
use mathlib.Core.Bool.{Bool, true, false}
use mathlib.Core.List.{List}
use borrow.Author.Tests.{leb-true}
use lib.Dec.{leb}
use lib.ListN.{length}
use Rattle.circuit.specs.Circuit.{Circuit, Constraint}
use Rattle.circuit.specs.Reading.{Reading, whole, fault, require, mapped, size_of}
use Rattle.circuit.specs.Reader.{header_size, read_circuit}
use Rattle.circuit.specs.Answer.{Answer, refused, given, ask, and_then}
use Rattle.circuit.specs.Call.{sizes_of, header_call, body_answer, body_call, on_circuit, circuit_call}
use Rattle.circuit.specs.declared.reader.Sizes.{Sizes}
use Rattle.circuit.proofs.AnswerLaws.{ask_given}

abbrev header_answer : Reading Circuit → Answer Sizes
header_answer r = on_circuit r (λ C. given (sizes_of C))

header_require : (b : Bool) (number : ℕ) (r : Reading Circuit) → header_answer (require b number r) ≡ ask b number 0 (header_answer r)
header_require true number r = refl
header_require false number r = refl

header_body : (p n i o m : ℕ) (r : Reading (List Constraint))
    → header_answer (mapped (λ Ks. record { p = p; n = n; i = i; o = o; m = m; constraints = Ks }) r)
    ≡ body_answer (record { p = p; n = n; i = i; o = o; m = m }) (size_of r)
header_body p n i o m (whole x size) = refl
header_body p n i o m (fault number offset) = refl

pub same_sizes : {p n i o m p' n' i' o' m' : ℕ} → p ≡ p' → n ≡ n' → i ≡ i' → o ≡ o' → m ≡ m'
    → ◌≡◌ {A = Sizes} (record { p = p; n = n; i = i; o = o; m = m }) (record { p = p'; n = n'; i = i'; o = o'; m = m' })
same_sizes a b c d e = rw (a, b, c, d, e)

-- the call: the header, then the body
then_ask : {A B : Type 0} (b : Bool) (number place : ℕ) (r : Answer A) (f : A → Answer B)
    → and_then (ask b number place r) f ≡ ask b number place (and_then r f)
then_ask true number place r f = refl
then_ask false number place r f = refl

pub call_header : (s : List ℕ) → circuit_call s ≡ and_then (header_call s) (body_call s)
unfolding circuit_call read_circuit header_call body_call
call_header s = simp (header_require, header_body, then_ask)

pub header_out : (s : List ℕ) {number place : ℕ} → refused number place ≡ header_call s → refused number place ≡ circuit_call s
header_out s e = sym (call_header s ∙ rw (sym e))

pub header_on : (s : List ℕ) {z : Sizes} {x : Answer Sizes} → given z ≡ header_call s → x ≡ body_call s z → x ≡ circuit_call s
header_on s {z} e f = f ∙ sym (call_header s ∙ rw (sym e))

pub header_long : (s : List ℕ) {z : Sizes} → given z ≡ header_call s → header_size ≤ length s
unfolding header_call
header_long s e = leb-true header_size (length s) (ask_given (leb header_size (length s)) 1 0 _ (sym e)).0
