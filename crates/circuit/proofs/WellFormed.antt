-- A circuit that was read is well-formed: what was read whole, taken apart, has met every test on the way.
use Prim.Native.Nat.{ℕ, zero, suc, ◌+◌, ◌*◌, ◌-◌, ◌≤◌, ◌<◌}
use mathlib.Core.Path.{◌≡◌, refl, sym, ap, ◌∙◌}
use mathlib.Core.Bool.{Bool, true, false, ◌&&◌}
use mathlib.Core.List.{List, [], ◌∷◌}
use native.Mathlib.Decide.{dec_le}
use native.Mathlib.Omega.{arith}
use borrow.Author.Tests.{leb-true, ltb-true, eqb-true, le-leb}
use lib.Dec.{ltb, leb, eqb}
use lib.ListN.{length, drop, get_or, length-drop, get_or-eq_default}
use lib.Seq.{drop-drop}
use Rattle.field.specs.Prime.{odd_prime}
use Rattle.field.proofs.Prime.{both, odd_prime_lem, odd_prime_range}
use Rattle.circuit.specs.Bytes.{byte_at, u16_at, u32_at}
use Rattle.circuit.specs.Circuit.{Form, Constraint, Circuit, no_constraint, constraint_at}
use Rattle.circuit.specs.Circuit.{Rises, no_more, more, WellFormedConstraint, WellFormed}
use Rattle.circuit.specs.Reading.{Reading, whole, fault, require, after, mapped, next}
use Rattle.circuit.specs.Reader.{term_at, read_terms, read_form, read_constraint, read_constraints, read_body, read_circuit, at_end}
use Rattle.circuit.specs.Reader.{circuit_letter, has_mark, sizes_fit, after_form, after_constraint, terms_in, form_in, part_from}

-- ---- what was read whole, step by step

require_whole : {A : Type 0} (b : Bool) (number : ℕ) (r : Reading A) {x : A} {k : ℕ}
    → require b number r ≡ whole x k → (b ≡ true) × (r ≡ whole x k)
require_whole true number r e = (refl, e)
require_whole false number r e = let z : ◌≡◌ {A = ℕ} 0 1 = cc in absurd (omega arith)

after_whole : {A : Type 0} (at : ℕ) (r : Reading A) {x : A} {k : ℕ} → after at r ≡ whole x k → (j : ℕ) × (r ≡ whole x j) × (k ≡ at + j)
after_whole at (whole y size) e = (size, cc, cc)
after_whole at (fault number offset) e = let z : ◌≡◌ {A = ℕ} 0 1 = cc in absurd (omega arith)

mapped_whole : {A B : Type 0} (f : A → B) (r : Reading A) {y : B} {k : ℕ} → mapped f r ≡ whole y k → (x : A) × (r ≡ whole x k) × (y ≡ f x)
mapped_whole f (whole x size) e = (x, cc, cc)
mapped_whole f (fault number offset) e = let z : ◌≡◌ {A = ℕ} 0 1 = cc in absurd (omega arith)

-- a part, and what follows it, with the sizes of both
record BothRead {A B : Type 0} (s : List ℕ) (r : Reading A) (f : A → List ℕ → Reading B) (y : B) (k : ℕ) : Type 0 where
  value : A
  size : ℕ
  later : ℕ
  first : r ≡ whole value size
  then : f value (drop size s) ≡ whole y later
  total : k ≡ size + later

next_whole : {A B : Type 0} (s : List ℕ) (r : Reading A) (f : A → List ℕ → Reading B) {y : B} {k : ℕ} → next s r f ≡ whole y k → BothRead s r f y k
next_whole s (whole x size) f e =
    let w = after_whole size (f x (drop size s)) e in
    record { value = x; size = size; later = w.0; first = refl; then = w.1; total = w.2 }
next_whole s (fault number offset) f e = let z : ◌≡◌ {A = ℕ} 0 1 = cc in absurd (omega arith)

-- ---- forms

-- `left` terms that were read whole
record TermsRead (n p left least : ℕ) (s : List ℕ) (f : Form) (size : ℕ) : Type 0 where
  rises : Rises n p least f
  counted : length f ≡ left
  sized : size ≡ 6 * left
  inside : size ≤ length s
  stored : n ≤ 256 → terms_in left s ≡ f

terms_whole : (n p left least : ℕ) (s : List ℕ) {f : Form} {k : ℕ} → read_terms n p left least s ≡ whole f k → TermsRead n p left least s f k
unfolding read_terms terms_in
terms_whole n p zero least s {f} {k} e =
    let is : f ≡ [] = cc in
    let none : k ≡ 0 = cc in
    rw (is, none) (record { rises = no_more; counted = refl; sized = refl; inside = omega arith; stored = λ h. refl })
terms_whole n p (suc left) least s e =
    let fits = require_whole (leb 6 (length s)) 6 _ e in
    let low = require_whole (leb (u16_at s 0) n) 8 _ fits.1 in
    let rises = require_whole (leb least (u16_at s 0)) 8 _ low.1 in
    let positive = require_whole (ltb 0 (u32_at s 2)) 9 _ rises.1 in
    let below = require_whole (ltb (u32_at s 2) p) 9 _ positive.1 in
    let rest = after_whole 6 _ below.1 in
    let made = mapped_whole (λ f. term_at s ∷ f) _ rest.1 in
    let T = terms_whole n p left (suc (u16_at s 0)) (drop 6 s) made.1 in
    let low_is : u16_at s 0 ≤ n = leb-true _ _ low.0 in
    rw made.2
    (record {
      rises = more (leb-true _ _ rises.0) low_is (ltb-true _ _ positive.0) (ltb-true _ _ below.0) T.rises;
      counted = ap suc T.counted;
      sized = omega (arith, rest.2, T.sized);
      inside = omega (arith, leb-true 6 (length s) fits.0, rest.2, T.inside, length-drop 6 s);
      stored = λ (h : n ≤ 256). rw (le-leb (u16_at s 0) 256 (omega arith), T.stored h);
    })

-- a form that was read whole: by its tests, and as it is read without them
pub record FormRead (n p : ℕ) (s : List ℕ) (f : Form) (size : ℕ) : Type 0 where
  pub rises : Rises n p 0 f
  pub few : length f ≤ 32
  pub sized : size ≡ 1 + 6 * byte_at s 0
  pub inside : size ≤ length s
  pub rest : after_form s ≡ drop size s
  pub stored : n ≤ 256 → form_in s ≡ f

form_whole : (n p : ℕ) (s : List ℕ) {f : Form} {k : ℕ} → read_form n p s ≡ whole f k → FormRead n p s f k
unfolding read_form after_form form_in
form_whole n p s {k = k} e =
    let some = require_whole (leb 1 (length s)) 6 _ e in
    let few = require_whole (leb (byte_at s 0) 32) 7 _ some.1 in
    let terms = after_whole 1 _ few.1 in
    let T = terms_whole n p (byte_at s 0) 0 (drop 1 s) terms.1 in
    let size : k ≡ 1 + 6 * byte_at s 0 = omega (arith, terms.2, T.sized) in
    record {
      rises = T.rises;
      few = omega (arith, leb-true (byte_at s 0) 32 few.0, T.counted);
      sized = size;
      inside = omega (arith, leb-true 1 (length s) some.0, terms.2, T.inside, length-drop 1 s);
      rest = ap (λ (j : ℕ). drop j s) (sym size);
      stored = T.stored;
    }

-- ---- constraints

-- the three forms, each from the part after the one before it
pub record ConstraintRead (n p : ℕ) (s : List ℕ) (K : Constraint) (size : ℕ) : Type 0 where
  pub size_a : ℕ
  pub size_b : ℕ
  pub size_c : ℕ
  pub form_a : FormRead n p s K.a size_a
  pub form_b : FormRead n p (after_form s) K.b size_b
  pub form_c : FormRead n p (after_form (after_form s)) K.c size_c
  pub inside : size ≤ length s
  pub rest : after_constraint s ≡ drop size s

forms_read : (n p : ℕ) (s : List ℕ) {K : Constraint} {a b c : Form} {i j k l size : ℕ} → FormRead n p s a i → FormRead n p (drop i s) b j
    → FormRead n p (drop j (drop i s)) c k → K ≡ record { a = a; b = b; c = c } → size ≡ i + l → l ≡ j + k → ConstraintRead n p s K size
unfolding after_constraint
forms_read n p s {i = i} {j = j} {k = k} A B C is total later =
    rw (is, total, later)
    (record {
      size_a = i;
      size_b = j;
      size_c = k;
      form_a = A;
      form_b = rw A.rest B;
      form_c = rw (A.rest, B.rest) C;
      inside = omega (arith, A.inside, B.inside, C.inside, length-drop i s, length-drop j (drop i s));
      rest = rw (A.rest, B.rest) (C.rest ∙ drop-drop k j (drop i s) ∙ drop-drop (j + k) i s);
    })

pub constraint_whole : (n p : ℕ) (s : List ℕ) {K : Constraint} {k : ℕ} → read_constraint n p s ≡ whole K k → ConstraintRead n p s K k
unfolding read_constraint
constraint_whole n p s e =
    let first = next_whole s (read_form n p s) _ e in
    let second = next_whole (drop first.size s) (read_form n p (drop first.size s)) _ first.then in
    let third = mapped_whole _ (read_form n p (drop second.size (drop first.size s))) second.then in
    forms_read n p s (form_whole n p _ first.first) (form_whole n p _ second.first) (form_whole n p _ third.1) third.2
    first.total second.total

constraint_formed : {n p : ℕ} {s : List ℕ} {K : Constraint} {size : ℕ} → ConstraintRead n p s K size → WellFormedConstraint n p K
constraint_formed R =
    record {
      rises_a = R.form_a.rises;
      rises_b = R.form_b.rises;
      rises_c = R.form_c.rises;
      few_a = R.form_a.few;
      few_b = R.form_b.few;
      few_c = R.form_c.few;
    }

-- m constraints, each from the part that is left after those before it
pub record ConstraintsRead (n p m : ℕ) (s : List ℕ) (Ks : List Constraint) (size : ℕ) : Type 0 where
  pub counted : length Ks ≡ m
  pub inside : size ≤ length s
  pub part : (k : ℕ) → k < m → (i : ℕ) × ConstraintRead n p (part_from k s) (get_or Ks k no_constraint) i

constraints_more : (n p m : ℕ) (s : List ℕ) {K : Constraint} {Ks all : List Constraint} {i j k : ℕ} → ConstraintRead n p s K i
    → ConstraintsRead n p m (drop i s) Ks j → all ≡ K ∷ Ks → k ≡ i + j → ConstraintsRead n p (suc m) s all k
unfolding part_from
constraints_more n p m s {K} {Ks} {i = i} R Rs is sum =
    rw (is, sum) (record { counted = ap suc Rs.counted; inside = omega (arith, R.inside, Rs.inside, length-drop i s); part = part })
  where
    part : (k : ℕ) → k < suc m → (i : ℕ) × ConstraintRead n p (part_from k s) (get_or (K ∷ Ks) k no_constraint) i
    part zero h = (i, R)
    part (suc k) h = rw R.rest (Rs.part k (omega arith))

constraints_whole : (n p m : ℕ) (s : List ℕ) {Ks : List Constraint} {k : ℕ} → read_constraints n p m s ≡ whole Ks k → ConstraintsRead n p m s Ks k
unfolding read_constraints
constraints_whole n p zero s {Ks} {k} e =
    let is : Ks ≡ [] = cc in
    let none : k ≡ 0 = cc in
    rw (is, none) (record { counted = refl; inside = omega arith; part = λ k h. absurd (omega arith) })
constraints_whole n p (suc m) s e =
    let one = next_whole s (read_constraint n p s) _ e in
    let others = mapped_whole _ (read_constraints n p m (drop one.size s)) one.then in
    constraints_more n p m s (constraint_whole n p s one.first) (constraints_whole n p m _ others.1) others.2 one.total

-- ---- the circuit

-- the tests of the header, and the constraints after its 17 bytes
pub record CircuitRead (s : List ℕ) (C : Circuit) (size : ℕ) : Type 0 where
  pub least : 17 ≤ length s
  pub most : length s ≤ 60000
  pub is_size : size ≡ length s
  pub prime : odd_prime C.p ≡ true
  pub fits : sizes_fit C.n C.i C.o C.m ≡ true
  pub size_constraints : ℕ
  pub read : ConstraintsRead C.n C.p C.m (drop 17 s) C.constraints size_constraints

body_whole : (n p m : ℕ) (s : List ℕ) {Ks : List Constraint} {k : ℕ} → 17 ≤ length s → read_body n p m s ≡ whole Ks k
    → (j : ℕ) × ConstraintsRead n p m (drop 17 s) Ks j × (k ≡ length s)
unfolding read_body
body_whole n p m s {Ks} {k} h e =
    let body = next_whole s (after 17 (read_constraints n p m (drop 17 s))) at_end e in
    let all = after_whole 17 (read_constraints n p m (drop 17 s)) body.first in
    let end = require_whole (eqb (length (drop body.size s)) 0) 10 _ body.then in
    ended (constraints_whole n p m (drop 17 s) all.1) all.2 (eqb-true _ _ end.0) end.1 body.total
  where
    ended : {L : List Constraint} {i j l : ℕ} → ConstraintsRead n p m (drop 17 s) L j → l ≡ 17 + j → length (drop l s) ≡ 0
        → whole L 0 ≡ whole Ks i → k ≡ l + i → (j : ℕ) × ConstraintsRead n p m (drop 17 s) Ks j × (k ≡ length s)
    ended {L} {i} {j} {l} R e left same sum =
        let is : L ≡ Ks = cc in
        let nothing : i ≡ 0 = cc in
        (j, rw is at R, omega (arith, R.inside, length-drop 17 s, length-drop l s))

pub circuit_whole : (s : List ℕ) {C : Circuit} {size : ℕ} → read_circuit s ≡ whole C size → CircuitRead s C size
unfolding read_circuit
circuit_whole s e =
    let least = require_whole (leb 17 (length s)) 1 _ e in
    let most = require_whole (leb (length s) 60000) 1 _ least.1 in
    let mark = require_whole (has_mark circuit_letter s) 2 _ most.1 in
    let version = require_whole (eqb (u16_at s 3) 1) 3 _ mark.1 in
    let prime = require_whole (odd_prime (u32_at s 5)) 4 _ version.1 in
    let fits = require_whole (sizes_fit (u16_at s 9) (u16_at s 11) (u16_at s 13) (u16_at s 15)) 5 _ prime.1 in
    let made = mapped_whole _ (read_body (u16_at s 9) (u32_at s 5) (u16_at s 15) s) fits.1 in
    let all = body_whole (u16_at s 9) (u32_at s 5) (u16_at s 15) s (leb-true _ _ least.0) made.1 in
    rw made.2
    (record {
      least = leb-true _ _ least.0;
      most = leb-true _ _ most.0;
      is_size = all.2;
      prime = prime.0;
      fits = fits.0;
      size_constraints = all.0;
      read = all.1;
    })

record Fits (n i o m : ℕ) : Type 0 where
  n_least : 1 ≤ n
  n_most : n ≤ 256
  o_least : 1 ≤ o
  io_most : i + o ≤ n
  m_most : m ≤ 512

sizes_fit_lem : (n i o m : ℕ) → sizes_fit n i o m ≡ true → Fits n i o m
unfolding sizes_fit
sizes_fit_lem n i o m e =
    let h₄ = both (leb 1 n && leb n 256 && leb 1 o && leb (i + o) n) (leb m 512) e in
    let h₃ = both (leb 1 n && leb n 256 && leb 1 o) (leb (i + o) n) h₄.0 in
    let h₂ = both (leb 1 n && leb n 256) (leb 1 o) h₃.0 in
    let h₁ = both (leb 1 n) (leb n 256) h₂.0 in
    record {
      n_least = leb-true _ _ h₁.0;
      n_most = leb-true _ _ h₁.1;
      o_least = leb-true _ _ h₂.1;
      io_most = leb-true _ _ h₃.1;
      m_most = leb-true _ _ h₄.1;
    }

no_constraint_formed : (n p : ℕ) → WellFormedConstraint n p no_constraint
no_constraint_formed n p =
    record { rises_a = no_more; rises_b = no_more; rises_c = no_more; few_a = omega arith; few_b = omega arith; few_c = omega arith }

pub read_well_formed : (s : List ℕ) (C : Circuit) (size : ℕ) → read_circuit s ≡ whole C size → WellFormed C
unfolding constraint_at
read_well_formed s C size e =
    let R = circuit_whole s e in
    let fits = sizes_fit_lem C.n C.i C.o C.m R.fits in
    record {
      prime = odd_prime_lem C.p R.prime;
      p_least = (odd_prime_range C.p R.prime).0;
      p_most = (odd_prime_range C.p R.prime).1;
      n_least = fits.n_least;
      n_most = fits.n_most;
      o_least = fits.o_least;
      fits = fits.io_most;
      m_most = fits.m_most;
      counted = R.read.counted;
      each = λ k. each R.read (k - 1) (dec_le C.m (k - 1));
    }
  where
    each : {j : ℕ} → ConstraintsRead C.n C.p C.m (drop 17 s) C.constraints j
        → (k : ℕ) → Dec (C.m ≤ k) → WellFormedConstraint C.n C.p (get_or C.constraints k no_constraint)
    each R k (yes h) =
        rw (get_or-eq_default C.constraints no_constraint {n = k} (omega (arith, R.counted))) (no_constraint_formed C.n C.p)
    each R k (no h) = constraint_formed (R.part k (omega arith)).1
