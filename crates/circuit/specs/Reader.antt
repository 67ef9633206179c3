-- The circuit file (rules 1.1 to 1.3): its bytes read into a circuit, or refusals 1 to 10 in reading order with their places.
use Rattle.std.specs.Prelude.{ℕ, zero, suc, ◌+◌, ◌*◌, ◌-◌, Bool, true, false, ◌&&◌, List, [], ◌∷◌, ltb, leb, eqb, length, drop}
use Rattle.field.specs.Prime.{odd_prime}
use Rattle.circuit.specs.Bytes.{byte_at, u16_at, u32_at, low, high}
use Rattle.circuit.specs.Circuit.{Term, Form, Constraint, Circuit}
use Rattle.circuit.specs.Reading.{Reading, whole, require, after, mapped, next, Size, size_of, further}

-- Rule 1.7: the sizes
abbrev pub header_size : ℕ
header_size = 17

abbrev pub file_most : ℕ
file_most = 60000

abbrev pub signals_most : ℕ
signals_most = 256

abbrev pub constraints_most : ℕ
constraints_most = 512

abbrev pub terms_most : ℕ
terms_most = 32

-- Rule 1.3: a term is a signal's number of 16 bits and a coefficient of 32
abbrev pub term_size : ℕ
term_size = 6

abbrev pub term_at : List ℕ → Term
term_at s = record { signal = u16_at s 0; coefficient = u32_at s 2 }

-- `left` more terms, signal numbers at least `least`. Rule 6.3, at a term: refusals 6, 8, 9.
unfoldable pub read_terms : ℕ → ℕ → ℕ → ℕ → List ℕ → Reading Form
read_terms n p zero least s = whole [] 0
read_terms n p (suc left) least s =
    require (leb term_size (length s)) 6
    (require (leb (u16_at s 0) n) 8
    (require (leb least (u16_at s 0)) 8
    (require (ltb 0 (u32_at s 2)) 9
    (require (ltb (u32_at s 2) p) 9
    (after term_size (mapped (λ f. term_at s ∷ f) (read_terms n p left (suc (u16_at s 0)) (drop term_size s))))))))

-- Rule 1.3: a form is a byte that counts its terms, then the terms. Rule 6.3, at a count byte: refusals 6, 7.
unfoldable pub read_form : ℕ → ℕ → List ℕ → Reading Form
read_form n p s =
    require (leb 1 (length s)) 6
    (require (leb (byte_at s 0) terms_most) 7
    (after 1 (read_terms n p (byte_at s 0) 0 (drop 1 s))))

-- how far the form goes that starts at an offset
unfoldable pub form_from : ℕ → ℕ → List ℕ → ℕ → Size
form_from n p s at = further at (size_of (read_form n p (drop at s)))

-- Rule 1.3: three forms, A, B and C
unfoldable pub read_constraint : ℕ → ℕ → List ℕ → Reading Constraint
read_constraint n p s =
    next s (read_form n p s)
    (λ a s₁. next s₁ (read_form n p s₁)
    (λ b s₂. mapped (λ c. record { a = a; b = b; c = c }) (read_form n p s₂)))

-- how many bytes a form has, by its count of terms; term i, counted from 0, starts where a form of i terms would end
abbrev pub form_size : ℕ → ℕ
form_size count = 1 + term_size * count

-- the most that a count byte can say: 255 terms
abbrev pub form_most : ℕ
form_most = 1531

-- Rule 1.8: the part after a form, and after a constraint, by the count bytes
unfoldable pub after_form : List ℕ → List ℕ
after_form s = drop (form_size (byte_at s 0)) s

unfoldable pub after_constraint : List ℕ → List ℕ
after_constraint s = after_form (after_form (after_form s))

-- m constraints, each from the part after the one before it
unfoldable pub read_constraints : ℕ → ℕ → ℕ → List ℕ → Reading (List Constraint)
read_constraints n p zero s = whole [] 0
read_constraints n p (suc m) s =
    next s (read_constraint n p s) (λ K rest. mapped (λ Ks. K ∷ Ks) (read_constraints n p m rest))

-- Rules 1.1, 2.1, 2.4: the letters C, D and P of the three files, then Q and T
abbrev pub circuit_letter : ℕ
circuit_letter = 67

abbrev pub derivation_letter : ℕ
derivation_letter = 68

abbrev pub pair_letter : ℕ
pair_letter = 80

abbrev pub letter_q : ℕ
letter_q = 81

abbrev pub letter_t : ℕ
letter_t = 84

-- a file starts with its mark (its magic number): a letter, then Q and T
unfoldable pub has_mark : ℕ → List ℕ → Bool
has_mark letter s = eqb (byte_at s 0) letter && eqb (byte_at s 1) letter_q && eqb (byte_at s 2) letter_t

-- Rules 1.1, 2.1, 2.4, 2.5: its version, after the mark, is 1
abbrev pub has_version : List ℕ → Bool
has_version s = eqb (u16_at s 3) 1

-- Rules 2.1, 2.4: what a file begins with in which a 16-bit number follows: the mark, version 1 and the number
abbrev pub file_start : ℕ → ℕ → List ℕ
file_start letter x = letter ∷ letter_q ∷ letter_t ∷ 1 ∷ 0 ∷ low x ∷ high x ∷ []

-- Rule 1.7: n, i, o and m keep their sizes
unfoldable pub sizes_fit : ℕ → ℕ → ℕ → ℕ → Bool
sizes_fit n i o m = leb 1 n && leb n signals_most && leb 1 o && leb (i + o) n && leb m constraints_most

-- Refusal 10: bytes after the last constraint; the place is that of the first
abbrev pub at_end : {A : Type 0} → A → List ℕ → Reading A
at_end x rest = require (eqb (length rest) 0) 10 (whole x 0)

-- the constraints after the header, and nothing after them
unfoldable pub read_body : ℕ → ℕ → ℕ → List ℕ → Reading (List Constraint)
read_body n p m s = next s (after header_size (read_constraints n p m (drop header_size s))) at_end

-- Rule 1.1: the mark, the version, p, n, i, o, m, then the constraints. Refusals 1 to 5, then those of the body.
unfoldable pub read_circuit : List ℕ → Reading Circuit
read_circuit s =
    require (leb header_size (length s)) 1
    (require (leb (length s) file_most) 1
    (require (has_mark circuit_letter s) 2
    (require (eqb (u16_at s 3) 1) 3
    (require (odd_prime (u32_at s 5)) 4
    (require (sizes_fit (u16_at s 9) (u16_at s 11) (u16_at s 13) (u16_at s 15)) 5
    (mapped
    (λ Ks. record { p = u32_at s 5; n = u16_at s 9; i = u16_at s 11; o = u16_at s 13; m = u16_at s 15; constraints = Ks })
    (read_body (u16_at s 9) (u32_at s 5) (u16_at s 15) s)))))))

-- Reading without tests, for bytes that have been found whole. Terms on signals that no circuit has are passed over.
abbrev pub term_kept : Bool → Term → Form → Form
term_kept true t f = t ∷ f
term_kept false t f = f

unfoldable pub terms_in : ℕ → List ℕ → Form
terms_in zero s = []
terms_in (suc left) s = term_kept (leb (u16_at s 0) signals_most) (term_at s) (terms_in left (drop term_size s))

-- the form that the bytes start with
unfoldable pub form_in : List ℕ → Form
form_in s = terms_in (byte_at s 0) (drop 1 s)

-- the constraint that the bytes start with
unfoldable pub constraint_in : List ℕ → Constraint
constraint_in s = record { a = form_in s; b = form_in (after_form s); c = form_in (after_form (after_form s)) }

-- the part that is left after k constraints
unfoldable pub part_from : ℕ → List ℕ → List ℕ
part_from zero s = s
part_from (suc k) s = part_from k (after_constraint s)

-- constraint k of those that the bytes start with, counted from 1
unfoldable pub constraint_of : List ℕ → ℕ → Constraint
constraint_of s k = constraint_in (part_from (k - 1) s)

-- the offset after the form at an offset
unfoldable pub offset_after : List ℕ → ℕ → ℕ
offset_after s at = at + form_size (byte_at s at)

-- the offset of constraint k, counted from 0, by the count bytes before it
unfoldable pub offset_at : List ℕ → ℕ → ℕ
offset_at s zero = header_size
offset_at s (suc k) = offset_after s (offset_after s (offset_after s (offset_at s k)))
