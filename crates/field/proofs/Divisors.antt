-- Trial division by enough divisors, of which some are passed over by their inverses, answers as trial division by every odd number.
-- Assumes nothing.
use mathlib.Core.Path.{◌≡◌, refl, sym, ap, ◌∙◌}
use mathlib.Core.Logic.{◌⊎◌, inl, inr, ⊎_elim}
use mathlib.Core.Bool.{Bool, true, false, not, true≢false}
use mathlib.Core.List.{List, [], ◌∷◌}
use Prim.Native.Nat.{ℕ, zero, suc, ◌+◌, ◌-◌, ◌*◌, ◌/◌, ◌%◌, ◌≤◌, ◌<◌}
use native.Mathlib.Nat.{
  div-le_self,
  div-mul_cancel,
  div-mul-le_self,
  dvd_of_mod-eq-zero,
  dvd_trans,
  le-div_iff_mul-le,
  mod-eq_of_lt,
  mod-eq-zero_of_dvd,
  mul-le-mul_left,
}
use native.Mathlib.Decide.{dec_le, ℕ_discrete}
use native.Mathlib.Omega.{arith}
use borrow.Author.Tests.{eq-eqb, ne_eqb, eqb-true, not-true, leb-true, leb-false}
use lib.Dec.{eqb, leb}
use lib.ListN.{length, get_or, take, drop, length-take, length-drop}
use Rattle.std.specs.Prelude.{None, Some}
use Rattle.std.specs.List.{position, position_or_len}
use Rattle.std.proofs.lemmas.Grind.{common_steps}
use Rattle.std.proofs.lemmas.List.{get_or-take, get_or-drop}
use Rattle.std.proofs.lemmas.List.Sums.{fails_before_first}
use Rattle.std.proofs.lemmas.List.Quantifiers.{position-Some}
use Rattle.field.specs.Prime.{no_divisor, odd_prime}
use Rattle.field.specs.Divisors.{Enough, Next, Passed, complete, paired}
use Rattle.field.proofs.Residue.{mul_mod_mod}
use Rattle.field.proofs.Prime.{
  Clear,
  Free,
  both,
  clear_no_divisor,
  free_clear,
  free_next,
  free_start,
  odd_next,
  odd_prime_divisors,
}

-- n is the next entry
record Named (k n : ℕ) (xs : List ℕ) : Type 0 where
  rest : List ℕ
  same : xs ≡ n ∷ rest
  more : complete k (n + 2) rest ≡ true

-- n is no entry and has a divisor
record Between (k n : ℕ) (xs : List ℕ) : Type 0 where
  divided : no_divisor n 3 n ≡ false
  more : complete k (n + 2) xs ≡ true

between : (k n : ℕ) (xs : List ℕ) → (n ≡ get_or xs 0 0 → ⊥) → complete (suc k) n xs ≡ true → Between k n xs
unfolding complete
between k n xs m t =
    let b = both (not (no_divisor n 3 n)) (complete k (n + 2) xs) (rw (ne_eqb n (get_or xs 0 0) m) at t) in
    record { divided = not-true (no_divisor n 3 n) b.0; more = b.1 }

next : (k n : ℕ) (xs : List ℕ) → 3 ≤ n → complete (suc k) n xs ≡ true → Named k n xs ⊎ Between k n xs
unfolding complete
next k n [] h t = inr (between k n [] (λ (e : n ≡ 0). omega arith) t)
next k n (x ∷ xs) h t = go (ℕ_discrete n x)
  where
    go : Dec (n ≡ x) → Named k n (x ∷ xs) ⊎ Between k n (x ∷ xs)
    go (yes e) = inl (record { rest = xs; same = ap (λ (m : ℕ). m ∷ xs) (sym e); more = rw (eq-eqb n x e) at t })
    go (no m) = inr (between k n (x ∷ xs) m t)

-- a divisor of p that has a divisor of its own is not the first
free_between : (p n : ℕ) → n % 2 ≡ 1 → 3 ≤ n → no_divisor n 3 n ≡ false → Free p n → Free p (n + 2)
free_between p n o h b F =
    free_next p n o F (λ e. true≢false (sym (clear_no_divisor n 3 n (omega arith) refl (clear e)) ∙ b))
  where
    clear : p % n ≡ 0 → Clear n
    clear e =
        record {
          none = λ d l q s z. F.none d l (omega (arith, mul-le-mul_left d l)) q
              (mod-eq-zero_of_dvd d (dvd_trans d (dvd_of_mod-eq-zero d z) (dvd_of_mod-eq-zero n e)));
        }

-- ---- the order of a complete table

-- each entry is at least n, and none is below one before it
record Ordered (n : ℕ) (xs : List ℕ) : Type 0 where
  above : (i : ℕ) → i < length xs → n ≤ get_or xs i 0
  rising : (i j : ℕ) → i ≤ j → j < length xs → get_or xs i 0 ≤ get_or xs j 0

ordered_more : (n : ℕ) (xs : List ℕ) → Ordered (n + 2) xs → Ordered n (n ∷ xs)
ordered_more n xs O = record { above = above; rising = rising }
  where
    above : (i : ℕ) → i < length (n ∷ xs) → n ≤ get_or (n ∷ xs) i 0
    above zero l = omega arith
    above (suc i) l = omega (arith, O.above i (omega arith))

    rising : (i j : ℕ) → i ≤ j → j < length (n ∷ xs) → get_or (n ∷ xs) i 0 ≤ get_or (n ∷ xs) j 0
    rising zero j h l = above j l
    rising (suc i) zero h l = absurd (omega arith)
    rising (suc i) (suc j) h l = O.rising i j (omega arith) (omega arith)

ordered_less : (n : ℕ) (xs : List ℕ) → Ordered (n + 2) xs → Ordered n xs
ordered_less n xs O = record { above = λ i l. omega (arith, O.above i l); rising = O.rising }

complete_ordered : (k n : ℕ) (xs : List ℕ) → 3 ≤ n → complete k n xs ≡ true → Ordered n xs
unfolding complete
complete_ordered zero n xs h c =
    let e : length xs ≡ 0 = eqb-true (length xs) 0 c in
    record { above = λ i l. absurd (omega arith); rising = λ i j m l. absurd (omega arith) }
complete_ordered (suc k) n xs h c =
    ⊎_elim (λ (N : Named k n xs). rw N.same (ordered_more n N.rest (complete_ordered k (n + 2) N.rest (omega arith) N.more)))
    (λ (B : Between k n xs). ordered_less n xs (complete_ordered k (n + 2) xs (omega arith) B.more)) (next k n xs h c)

enough_ordered : {xs : List ℕ} {p : ℕ} → Enough xs p → Ordered 3 xs
enough_ordered {xs} E = complete_ordered E.count 3 xs (omega arith) E.all

-- ---- the inverses

-- each entry of vs is the inverse of that of xs
pub record Inverses (xs vs : List ℕ) : Type 0 where
  pub lengths : length vs ≡ length xs
  pub one : (j : ℕ) → j < length xs → get_or xs j 0 * get_or vs j 0 % 4294967296 ≡ 1

inverses_more : (x v : ℕ) (xs vs : List ℕ) → x * v % 4294967296 ≡ 1 → Inverses xs vs → Inverses (x ∷ xs) (v ∷ vs)
inverses_more x v xs vs e I = record { lengths = ap suc I.lengths; one = one }
  where
    one : (j : ℕ) → j < length (x ∷ xs) → get_or (x ∷ xs) j 0 * get_or (v ∷ vs) j 0 % 4294967296 ≡ 1
    one zero l = e
    one (suc j) l = I.one j (omega arith)

paired_inverses : (xs vs : List ℕ) → paired xs vs ≡ true → Inverses xs vs
unfolding paired
paired_inverses [] [] e = record { lengths = refl; one = λ j l. absurd (omega arith) }
paired_inverses [] (v ∷ vs) e = absurd (true≢false (sym e))
paired_inverses (x ∷ xs) [] e = absurd (true≢false (sym e))
paired_inverses (x ∷ xs) (v ∷ vs) e =
    let b = both (eqb (x * v % 4294967296) 1) (paired xs vs) e in
    inverses_more x v xs vs (eqb-true (x * v % 4294967296) 1 b.0) (paired_inverses xs vs b.1)

-- where d divides p, p times the inverse of d is the quotient
quotient : (m d v p : ℕ) → d * v % m ≡ 1 → p < m → p % d ≡ 0 → p * v % m ≡ p / d
quotient m d v p i l e =
    let w : p / d * d ≡ p = div-mul_cancel d (dvd_of_mod-eq-zero d e) in
    let s : p * v ≡ p / d * (d * v) = omega (arith, ap (λ (n : ℕ). n * v) w) in
    ap (λ (n : ℕ). n % m) s ∙ sym (mul_mod_mod (p / d) (d * v) m) ∙ ap (λ (n : ℕ). p / d * n % m) i
    ∙ ap (λ (n : ℕ). n % m) (omega arith) ∙ mod-eq_of_lt (omega (arith, div-le_self p d))

-- the quotient by a larger divisor is not larger
div_antitone : (p d e : ℕ) → 0 < d → d ≤ e → p / e ≤ p / d
div_antitone p d e z h = (le-div_iff_mul-le z).1 (omega (arith, mul-le-mul_left (p / e) h, div-mul-le_self p e))

-- ---- the places that are passed

-- the entries of vs from start to end, and the test of one
abbrev run : List ℕ → ℕ → ℕ → List ℕ
run vs start end = take (end - start) (drop start vs)

abbrev candidate : ℕ → ℕ → ℕ → Bool
candidate p q v = leb (p * v % 4294967296) q

module _ (vs : List ℕ) (start end : ℕ) (h : start ≤ end) (l : end ≤ length vs) where
  run_length : length (run vs start end) ≡ end - start
  run_length = omega (arith, length-take (end - start) (drop start vs), length-drop start vs)

  run_at : (j : ℕ) → start ≤ j → j < end → get_or vs j 0 ≡ get_or (run vs start end) (j - start) 0
  run_at j from to =
      let on : j ≡ start + (j - start) = omega arith in
      ap (λ (k : ℕ). get_or vs k 0) on ∙ sym (get_or-take (end - start) (drop start vs) (j - start) 0 (omega arith) ∙ get_or-drop start vs (j - start) 0)

module _ {vs : List ℕ} {p q start end : ℕ} (h : start ≤ end) (l : end ≤ length vs) where
  -- the entries before place k of the run are passed
  passed_run : (k : ℕ) → start + k ≤ end
      → ((j : ℕ) → j < k → q < p * get_or (run vs start end) j 0 % 4294967296)
      → Passed vs p q start end (start + k)
  passed_run k inside each =
      record { from = omega arith; to = inside; above = λ j from to. rw (run_at vs start end h l j from (omega arith)) (each (j - start) (omega arith)) }

  -- all of them
  next_all : ((j : ℕ) → j < length (run vs start end) → q < p * get_or (run vs start end) j 0 % 4294967296) → Next vs p q start end end
  next_all each =
      let size = run_length vs start end h l in
      let whole : start + (end - start) ≡ end = omega arith in
      record { passed = rw whole at (passed_run (end - start) (omega arith) (λ j m. each j (omega arith))); found = λ z. absurd (omega arith) }

  -- the least product is above q
  pub next_above : (least : ℕ) → ((j : ℕ) → j < length (run vs start end) → least ≤ p * get_or (run vs start end) j 0 % 4294967296)
      → q < least → Next vs p q start end end
  next_above least each m = next_all (λ j z. omega (arith, each j z))

  -- what is searched for and found, or not
  pub next_found : (k : ℕ) → Some k ≡ position (candidate p q) (run vs start end) → Next vs p q start end (start + k)
  next_found k e =
      let F = position-Some (candidate p q) (run vs start end) k 0 (sym e) in
      let inside : start + k < end = omega (arith, F.0, run_length vs start end h l) in
      let here : start + k - start ≡ k = omega arith in
      record {
        passed = passed_run k (omega arith) (λ j m. leb-false _ q (F.2 j m));
        found = λ z. rw (run_at vs start end h l (start + k) (omega arith) inside, here) (leb-true _ q F.1);
      }

  pub next_none : None ≡ position (candidate p q) (run vs start end) → Next vs p q start end end
  next_none e =
      let all : length (run vs start end) ≤ position_or_len (candidate p q) (run vs start end) = grind (arith, common_steps) in
      next_all (λ j m. leb-false _ q (fails_before_first (candidate p q) (run vs start end) j 0 (omega arith)))

-- ---- the walk over the table

-- no entry before the i-th divides p
pub record Missed (xs : List ℕ) (p i : ℕ) : Type 0 where
  pub none : (j : ℕ) → j < i → p % get_or xs j 0 ≡ 0 → ⊥

-- an entry that doesn't divide p, and those that are passed over with its quotient
missed_next :
    {xs vs : List ℕ} {p i end r : ℕ}
    → Ordered 3 xs
    → Inverses xs vs
    → p < 4294967296
    → end ≤ length xs
    → (p % get_or xs i 0 ≡ 0 → ⊥)
    → Passed vs p (p / get_or xs i 0) (i + 1) end r
    → Missed xs p i
    → Missed xs p r
missed_next {xs} {vs} {p} {i} {end} {r} O I l h n N M = record { none = none }
  where
    after : (j : ℕ) → i + 1 ≤ j → j < r → p % get_or xs j 0 ≡ 0 → ⊥
    after j g m e =
        let z : j < length xs = omega (arith, N.to) in
        omega (
          arith,
          N.above j g m,
          quotient 4294967296 (get_or xs j 0) (get_or vs j 0) p (I.one j z) l e,
          div_antitone p (get_or xs i 0) (get_or xs j 0) (omega (arith, O.above i (omega arith))) (O.rising i j (omega arith) z),
        )

    here : (j : ℕ) → j < r → p % get_or xs j 0 ≡ 0 → Dec (i + 1 ≤ j) → Dec (j ≡ i) → ⊥
    here j m e (yes g) _ = after j g m e
    here j m e (no g) (yes q) = n (rw q at e)
    here j m e (no g) (no q) = M.none j (omega arith) e

    none : (j : ℕ) → j < r → p % get_or xs j 0 ≡ 0 → ⊥
    none j m e = here j m e (dec_le (i + 1) j) (ℕ_discrete j i)

-- where the walk ends: no entry before divides p, and there is none here or its square is above p
record Done (xs : List ℕ) (p : ℕ) : Type 0 where
  place : ℕ
  missed : Missed xs p place
  ends : place < length xs → p < get_or xs place 0 * get_or xs place 0

done_next : (n p : ℕ) (xs : List ℕ) → Done (n ∷ xs) p → (p < n * n) ⊎ ((p % n ≡ 0 → ⊥) × Done xs p)
done_next n p xs D = go D.place D.missed D.ends
  where
    go :
        (i : ℕ)
        → Missed (n ∷ xs) p i
        → (i < length (n ∷ xs) → p < get_or (n ∷ xs) i 0 * get_or (n ∷ xs) i 0)
        → (p < n * n) ⊎ ((p % n ≡ 0 → ⊥) × Done xs p)
    go zero M s = inl (s (omega arith))
    go (suc i) M s =
        inr (
          M.none 0 (omega arith),
          record { place = i; missed = record { none = λ j m. M.none (suc j) (omega arith) }; ends = λ m. s (omega arith) },
        )

done_clear :
    (k n p : ℕ) (xs : List ℕ)
    → n % 2 ≡ 1
    → 3 ≤ n
    → complete k n xs ≡ true
    → Free p n
    → p < (n + 2 * k) * (n + 2 * k)
    → Done xs p
    → Clear p
done_clear zero n p xs o h c F l D = free_clear p n (omega arith) F
done_clear (suc k) n p xs o h c F l D =
    ⊎_elim
    (λ (N : Named k n xs). ⊎_elim (λ (q : p < n * n). free_clear p n q F)
    (λ w. done_clear k (n + 2) p N.rest (odd_next n o) (omega arith) N.more (free_next p n o F w.0) (omega arith) w.1)
    (done_next n p N.rest (rw N.same at D)))
    (λ (B : Between k n xs). done_clear k (n + 2) p xs (odd_next n o) (omega arith) B.more (free_between p n o h B.divided F) (omega arith) D)
    (next k n xs h c)

-- ---- the walk at entry i: p is in range and odd, the table and its inverses are right, and no entry before divides p

pub record Walk (xs vs : List ℕ) (p i : ℕ) : Type 0 where
  pub low : 3 ≤ p
  pub high : p ≤ 2147483647
  pub odd : p % 2 ≡ 1
  pub enough : Enough xs p
  pub inverses : Inverses xs vs
  pub missed : Missed xs p i

pub walk_start : (xs vs : List ℕ) (p : ℕ) → 3 ≤ p → p ≤ 2147483647 → p % 2 ≡ 1 → Enough xs p → paired xs vs ≡ true → Walk xs vs p 0
walk_start xs vs p l h o E e =
    record {
      low = l;
      high = h;
      odd = o;
      enough = E;
      inverses = paired_inverses xs vs e;
      missed = record { none = λ j m z. absurd (omega arith) };
    }

module _ {xs vs : List ℕ} {p i : ℕ} (W : Walk xs vs p i) where
  pub walk_above : i < length xs → 3 ≤ get_or xs i 0
  walk_above l = (enough_ordered W.enough).above i l

  pub walk_ends : (i < length xs → p < get_or xs i 0 * get_or xs i 0) → true ≡ odd_prime p
  walk_ends s =
      let E = W.enough in
      sym
      (odd_prime_divisors p W.low W.high W.odd
      ∙ clear_no_divisor p 3 p (omega arith) refl
      (done_clear E.count 3 p xs refl (omega arith) E.all (free_start p) E.past
      (record { place = i; missed = W.missed; ends = s })))

  pub walk_next :
      {end r : ℕ}
      → (p % get_or xs i 0 ≡ 0 → ⊥)
      → end ≤ length xs
      → Passed vs p (p / get_or xs i 0) (i + 1) end r
      → Walk xs vs p r
  walk_next n h P =
      record {
        low = W.low;
        high = W.high;
        odd = W.odd;
        enough = W.enough;
        inverses = W.inverses;
        missed = missed_next (enough_ordered W.enough) W.inverses (omega (arith, W.high)) h n P W.missed;
      }
