-- Coefficients of the unmarked entries: which entries are unmarked, whether coefficients differ, and that weights modulo a prime tell them apart.
use Prim.Native.Nat.{ℕ, zero, suc, ◌+◌, ◌*◌, ◌%◌, ◌≤◌, ◌<◌, min, max}
use mathlib.Core.Path.{◌≡◌, refl, sym, ap, ◌∙◌}
use mathlib.Core.Bool.{Bool, true, false, not}
use mathlib.Core.List.{List, [], ◌∷◌}
use Rattle.std.specs.List.{list_any}
use Rattle.std.proofs.lemmas.List.{get_or-take, length-take-le}
use Rattle.std.proofs.lemmas.List.Folds.{list_any_at}
use native.Mathlib.Nat.{zero-mul, zero-mod, pos_of_ne-zero}
use native.Mathlib.Omega.{arith}
use lib.Dec.{eqb}
use lib.ListN.{length, get_or, take}
use borrow.Author.Tests.{eq-eqb, ne_eqb, eqb-true, eqb-false, not-true}
use borrow.Author.Count.{below_more}
use Rattle.field.specs.Residue.{Congruent}
use Rattle.field.specs.Prime.{Prime}
use Rattle.field.specs.Inverse.{inverse}
use Rattle.field.proofs.Residue.{congruent_refl, congruent_sym, congruent_plus, congruent_times, congruent_shift, congruent_below}
use Rattle.field.proofs.Inverse.{inverse_is}
use Rattle.laws.specs.Rules.{occurs, live}
use Rattle.laws.proofs.Sum.{and_left, and_right, and_both, true_or_false, by_order, false_by}
use Rattle.rules.specs.View.{mark_in}
use Rattle.rules.specs.Rows.{entries, entry_at, nothing, coef_on}
use Rattle.rules.specs.Live.{is_live, live_on, has_coefficient, Unlike, Differ, Between}
use Rattle.rules.specs.declared.rows.Entry.{Entry}

-- Unmarked signals and entries

pub live_absent : (R : ℕ → ℕ) (m : ℕ → Bool) (s : ℕ) → R s ≡ 0 → live R m s ≡ false
unfolding live occurs
live_absent R m zero e = refl
live_absent R m (suc s) e = rw (eq-eqb (R (suc s)) 0 e)

pub live_least : (R : ℕ → ℕ) (m : ℕ → Bool) (s : ℕ) → live R m s ≡ true → 1 ≤ s
unfolding live
live_least R m zero e = true_or_false _ e refl
live_least R m (suc s) e = omega arith

-- a signal's entry is unmarked exactly if the signal is
pub live_entry : (R : ℕ → ℕ) (marks : List Bool) (s : ℕ) (x : Entry) → x.signal ≡ s → x.coefficient ≡ R s → live R (mark_in marks) s ≡ is_live marks x
unfolding live occurs is_live
live_entry R marks zero x signal coef = sym (rw (eq-eqb x.signal 0 signal))
live_entry R marks (suc s) x signal coef = sym (rw (ne_eqb x.signal 0 (omega (arith, signal)), signal, coef) refl)

pub live_some : (marks : List Bool) (row : List Entry) (i : ℕ) → live_on marks row i ≡ true → coef_on row i ≡ 0 → ⊥
unfolding live_on is_live coef_on
live_some marks row i e z =
    let x = entry_at row i in
    eqb-false x.coefficient 0 (not-true _ (and_left _ _ (and_right (not (eqb x.signal 0)) _ e))) z

-- Modulo a prime

-- from a·k ≈ b·k and c·k ≈ 1 follows a ≈ b
cancel : {p : ℕ} (a b c k : ℕ) → Congruent p (a * k) (b * k) → Congruent p (c * k) 1 → Congruent p a b
cancel {p} a b c k h g =
    congruent_shift _ _
    (congruent_plus (congruent_times h (congruent_refl p c))
    (congruent_plus (congruent_times (congruent_refl p b) g) (congruent_sym (congruent_times (congruent_refl p a) g))))
    (omega arith)

-- equal weights have equal coefficients
pub weight_back : (p c a b : ℕ) → Prime p → (c % p ≡ 0 → ⊥) → a < p → b < p → a * inverse p c % p ≡ b * inverse p c % p → a ≡ b
weight_back p c a b P d h g e = congruent_below h g (cancel a b c (inverse p c) (record { is = e }) (inverse_is c P d).one)

pub weight_some : (p c a : ℕ) → Prime p → (c % p ≡ 0 → ⊥) → a < p → (a ≡ 0 → ⊥) → 1 ≤ a * inverse p c % p
weight_some p c a P d h some =
    pos_of_ne-zero (λ e. some (weight_back p c a 0 P d h (omega (arith, P.above)) (e ∙ sym (rw (zero-mul) (zero-mod p)))))

-- One coefficient against those before it that pass

module _ (R : ℕ → ℕ) (q : ℕ → Bool) where
  pub unlike_above : (k x least most : ℕ) → Between R q k least most → most < x → Unlike R q k x
  unlike_above k x least most B h = record { apart = λ u l e g. omega (arith, B.high u l e) }

  pub unlike_below : (k x least most : ℕ) → Between R q k least most → x < least → Unlike R q k x
  unlike_below k x least most B h = record { apart = λ u l e g. omega (arith, B.low u l e) }

  pub between_start : (least most : ℕ) → Between R q 0 least most
  between_start least most = record { low = λ u l e. absurd (omega arith); high = λ u l e. absurd (omega arith) }

  module _ (k least most : ℕ) (B : Between R q k least most) where
    pub between_skip : q k ≡ false → Between R q (k + 1) least most
    between_skip e =
        record { low = below_more _ k B.low (λ i. true_or_false _ i e); high = below_more _ k B.high (λ i. true_or_false _ i e) }

    pub between_on : (c x y : ℕ) → c ≡ R k → x ≡ min least c → y ≡ max most c → Between R q (k + 1) x y
    between_on c x y c-is x-is y-is =
        record {
          low = below_more _ k (λ u l e. omega (arith, B.low u l e)) (λ e. omega arith);
          high = below_more _ k (λ u l e. omega (arith, B.high u l e)) (λ e. omega arith);
        }

  -- all entries
  pub differ_start : Differ R q 0
  differ_start = record { alone = λ s l. absurd (omega arith) }

  module _ (k : ℕ) (D : Differ R q k) where
    pub differ_skip : q k ≡ false → Differ R q (k + 1)
    differ_skip e = record { alone = below_more _ k D.alone (λ i. true_or_false _ i e) }

    pub differ_on : (c : ℕ) → c ≡ R k → Unlike R q k c → Differ R q (k + 1)
    differ_on c c-is U = record { alone = below_more _ k D.alone (λ i. rw (sym c-is) U) }

  pub differ_clash : (k n c : ℕ) → k < n → c ≡ R k → q k ≡ true → (Unlike R q k c → ⊥) → Differ R q n → ⊥
  differ_clash k n c h c-is e d D = d (rw c-is (D.alone k h e))

  -- either of two comes before the other
  pub differ_two : (n s u : ℕ) → Differ R q n → s < n → u < n → q s ≡ true → q u ≡ true → (s ≡ u → ⊥) → R s ≡ R u → ⊥
  differ_two n s u D l h e g d same =
      by_order s u (λ a. (D.alone u h g).apart s a e same)
      (λ a. by_order u s (λ b. (D.alone s l e).apart u b g (sym same)) (λ b. d (omega arith)))

-- The entries before one in a row

any_none : {A : Type 0} (p : A → Bool) (xs : List A) (d : A) → ((i : ℕ) → i < length xs → p (get_or xs i d) ≡ false) → list_any p xs ≡ false
any_none p [] d h = refl
any_none p (x ∷ xs) d h = rw (h 0 (omega arith)) (any_none p xs d (λ i l. h (suc i) (omega arith)))

-- no unmarked entry has coefficient c
pub taken_none : (marks : List Bool) (row : List Entry) (c : ℕ) → Unlike (coef_on row) (live_on marks row) (entries row) c
    → list_any (has_coefficient marks c) row ≡ false
unfolding coef_on live_on entry_at
taken_none marks row c U =
    any_none (has_coefficient marks c) row _
    (λ u l.
    false_by _
    (λ e. absurd (U.apart u l (and_right (eqb (coef_on row u) c) _ e) (eqb-true (coef_on row u) c (and_left (eqb (coef_on row u) c) _ e)))))

-- one has it
taken_some : (marks : List Bool) (row : List Entry) (c u : ℕ) → u < entries row → live_on marks row u ≡ true → coef_on row u ≡ c
    → list_any (has_coefficient marks c) row ≡ true
unfolding coef_on live_on entry_at
taken_some marks row c u l e g = list_any_at (has_coefficient marks c) row u nothing l (and_both _ _ (eq-eqb (coef_on row u) c g) e)

module _ (marks : List Bool) (row : List Entry) where
  take_coef : (i u : ℕ) → u < i → coef_on (take i row) u ≡ coef_on row u
  unfolding coef_on entry_at
  take_coef i u l = ap (λ (x : Entry). x.coefficient) (get_or-take i row u _ l)

  take_live : (i u : ℕ) → u < i → live_on marks (take i row) u ≡ live_on marks row u
  unfolding live_on entry_at
  take_live i u l = ap (is_live marks) (get_or-take i row u _ l)

  module _ (i : ℕ) (within : i ≤ entries row) where
    before_is : (u : ℕ) → u < entries (take i row) → u < i
    before_is u l = omega (arith, length-take-le i row within)

    pub before_between : (least most : ℕ) → Between (coef_on row) (live_on marks row) i least most
        → Between (coef_on (take i row)) (live_on marks (take i row)) (entries (take i row)) least most
    before_between least most B =
        record {
          low = λ u l e.
              let h = before_is u l in
              rw (take_coef i u h) (B.low u h (sym (take_live i u h) ∙ e));
          high = λ u l e.
              let h = before_is u l in
              rw (take_coef i u h) (B.high u h (sym (take_live i u h) ∙ e));
        }

    pub before_unlike : (c : ℕ) → list_any (has_coefficient marks c) (take i row) ≡ false → Unlike (coef_on row) (live_on marks row) i c
    before_unlike c none =
        record { apart = λ u l e g. true_or_false _ (some u l (take_live i u l ∙ e) (take_coef i u l ∙ g)) none }
      where
        some : (u : ℕ) → u < i → live_on marks (take i row) u ≡ true → coef_on (take i row) u ≡ c → list_any (has_coefficient marks c) (take i row) ≡ true
        some u l e g = taken_some marks (take i row) c u (omega (arith, length-take-le i row within)) e g

    pub before_like : (c : ℕ) → list_any (has_coefficient marks c) (take i row) ≡ true → Unlike (coef_on row) (live_on marks row) i c → ⊥
    before_like c some U = true_or_false _ some (taken_none marks (take i row) c other)
      where
        other : Unlike (coef_on (take i row)) (live_on marks (take i row)) (entries (take i row)) c
        other =
            record {
              apart = λ u l e g.
                  let h = before_is u l in
                  U.apart u h (sym (take_live i u h) ∙ e) (sym (take_coef i u h) ∙ g);
            }
