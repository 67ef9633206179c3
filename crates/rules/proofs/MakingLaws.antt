-- How a row is made: what stands in it, its entries put one after the other, and what is kept of the rows made before.
use Prim.Native.Nat.{ℕ, zero, suc, ◌+◌, ◌-◌, ◌≤◌, ◌<◌, min}
use mathlib.Core.Path.{◌≡◌, refl, sym, ap, ◌∙◌}
use mathlib.Core.Bool.{Bool, true, false, cond, ◌||◌}
use mathlib.Core.List.{List}
use mathlib.Core.Logic.{◌⊎◌, inl, inr, ⊎_elim}
use native.Mathlib.Numerals.{add-one}
use native.Mathlib.Omega.{arith}
use borrow.Author.Count.{below_more}
use lib.Dec.{ltb, eqb}
use lib.ListN.{length, set, take, drop, length-set, length-take, length-drop}
use lib.Seq.{get_or-take, get_or-drop, get_or-set_same, get_or-set_other, ext_get_or}
use borrow.Author.Tests.{ne_eqb, lt-ltb, ltb-true, ltb-false}
use Rattle.circuit.specs.Circuit.{Circuit, Constraint, constraint_at, names}
use Rattle.circuit.specs.Reader.{signals_most, constraint_in}
use Rattle.circuit.specs.Offsets.{Offsets, part_of}
use Rattle.circuit.specs.Call.{circuit_of, Sized}
use Rattle.circuit.specs.declared.reader.Sizes.{Sizes}
use Rattle.circuit.proofs.OffsetLaws.{sized_part}
use Rattle.laws.specs.Sum.{keep}
use Rattle.laws.proofs.Sum.{true_or_false, by_test, by_equal, by_order}
use Rattle.rules.specs.declared.rows.Entry.{Entry}
use Rattle.rules.specs.Rows.{at, rank, involves, stands, forms_of, nothing, entry_of, entry_at, signal_on, forms_on, coef_on, Row}
use Rattle.rules.specs.Rows.{start_of, row_size, row_of, Rows, Roomy}
use Rattle.rules.specs.Rows.{Reduces, Put, RowMade}
use Rattle.rules.proofs.Ranks.{rank_zero, rank_passed, rank_failed, rank_below}
use Rattle.rules.proofs.RowLaws.{constant_stands}
use Rattle.rules.proofs.RoomLaws.{rows_apart, row_inside}

-- Which forms name a signal

-- what has an entry is the constant, or named by some form
entry_stands : (K : Constraint) (s : ℕ) → stands K s ≡ (eqb s 0 || ltb 0 (forms_of K s))
unfolding stands involves forms_of keep
entry_stands K zero = refl
entry_stands K (suc s) =
    rw (ne_eqb (suc s) 0 (λ (e : suc s ≡ 0). omega arith)) (go (names K.a (suc s)) (names K.b (suc s)) (names K.c (suc s)))
  where
    go : (a b c : Bool) → (a || b || c) ≡ ltb 0 (keep a 1 + keep b 2 + keep c 4)
    go true b c = sym (lt-ltb 0 (1 + keep b 2 + keep c 4) (omega arith))
    go false true c = sym (lt-ltb 0 (0 + 2 + keep c 4) (omega arith))
    go false false true = refl
    go false false false = refl

-- Entries put

put_start : (p : ℕ) (K : Constraint) (start : ℕ) (rows : List Entry) → Put p 0 K start start rows rows
put_start p K start rows =
    record {
      ends = omega (arith, rank_zero (stands K));
      entry = λ s h e. absurd (omega arith);
      others = λ i h. refl;
    }

-- a store
module _ (rows : List Entry) (end : ℕ) (e : Entry) where
  here : end < length rows → entry_at (set rows end e) end ≡ e
  unfolding entry_at
  here h = get_or-set_same rows end e nothing h

  apart : (i : ℕ) → (i ≡ end → ⊥) → entry_at (set rows end e) i ≡ entry_at rows i
  unfolding entry_at
  apart i d = get_or-set_other rows end i e nothing d

-- the signal s after those below it
module _ {p s : ℕ} {K : Constraint} {start end : ℕ} {rows₀ rows : List Entry} (P : Put p s K start end rows₀ rows) where
  pub put_on : stands K s ≡ false → Put p (s + 1) K start end rows₀ rows
  put_on f =
      record {
        ends = rw (add-one s) (omega (arith, P.ends, rank_failed (stands K) s f));
        entry = below_more _ s P.entry (λ e. true_or_false (stands K s) e f);
        others = P.others;
      }

  module _ (e : stands K s ≡ true) where
    -- one more has room where all have
    pub put_room : (n : ℕ) → s ≤ n → start + rank (stands K) (suc n) ≤ length rows → end < length rows
    put_room n l h = omega (arith, P.ends, rank_below (stands K) s (suc n) (omega arith) e)

    pub put_one : (x : Entry) → x ≡ entry_of p K s → end < length rows → Put p (s + 1) K start (end + 1) rows₀ (set rows end x)
    put_one x is h =
        record {
          ends = rw (add-one s) (omega (arith, P.ends, rank_passed (stands K) s e));
          entry =
              below_more _ s (λ u l f. apart rows end x _ (off u l f) ∙ P.entry u l f)
              (λ f. rw (sym P.ends) (here rows end x h ∙ is));
          others = λ i o. apart rows end x i (outside i o) ∙ P.others i (⊎_elim inl (λ (l : end + 1 ≤ i). inr (omega arith)) o);
        }
      where
        off : (u : ℕ) → u < s → stands K u ≡ true → start + rank (stands K) u ≡ end → ⊥
        off u l f g = omega (arith, P.ends, rank_below (stands K) u s l f)

        outside : (i : ℕ) → (i < start) ⊎ (end + 1 ≤ i) → i ≡ end → ⊥
        outside i (inl l) g = omega (arith, P.ends)
        outside i (inr l) g = omega arith

-- the entries of the signals below s are put, if there is room for all
pub record Putting (p n : ℕ) (K : Constraint) (start : ℕ) (rows₀ : List Entry) (s end : ℕ) (rows : List Entry) : Type 0 where
  pub near : end ≤ start + s
  pub sized : length rows ≡ length rows₀
  pub put : 1 < p → start + rank (stands K) (suc n) ≤ length rows₀ → Put p s K start end rows₀ rows

pub putting_start : (p n : ℕ) (K : Constraint) (start : ℕ) (rows : List Entry) → Putting p n K start rows 0 start rows
putting_start p n K start rows =
    record { near = omega arith; sized = refl; put = λ above room. put_start p K start rows }

-- the turns of the code, which puts nothing where there is no room
module _ {p n : ℕ} {K : Constraint} {start : ℕ} {rows₀ reduced : List Entry} (small : n ≤ signals_most) (made : 1 < p → Reduces p K reduced)
    {s end : ℕ} {rows : List Entry} (P : Putting p n K start rows₀ s end rows) (l : s ≤ n) where
  tested : 1 < p → stands K s ≡ (eqb s 0 || ltb 0 (forms_on reduced s))
  tested h = entry_stands K s ∙ ap (λ (x : ℕ). eqb s 0 || ltb 0 x) (sym ((made h).named s (omega arith)))

  pub puts_one : (eqb s 0 || ltb 0 (forms_on reduced s)) ≡ true → end < length rows
      → (x : Entry) → x ≡ record { coefficient = coef_on reduced s; signal = s; forms = forms_on reduced s }
      → Putting p n K start rows₀ (s + 1) (end + 1) (set rows end x)
  unfolding entry_of
  puts_one e h x is =
      record {
        near = omega (arith, P.near);
        sized = simp length-set P.sized;
        put = λ above room.
            put_one (P.put above room) (tested above ∙ e) x
            (is ∙ rw ((made above).coefficient s (omega arith), (made above).named s (omega arith))) h;
      }

  pub puts_full : (eqb s 0 || ltb 0 (forms_on reduced s)) ≡ true → length rows ≤ end → Putting p n K start rows₀ (s + 1) end rows
  puts_full e h =
      record {
        near = omega (arith, P.near);
        sized = P.sized;
        put = λ above room. absurd (omega (arith, P.sized, put_room (P.put above room) (tested above ∙ e) n l (omega (arith, P.sized))));
      }

  pub puts_on : (eqb s 0 || ltb 0 (forms_on reduced s)) ≡ false → Putting p n K start rows₀ (s + 1) end rows
  puts_on e =
      record {
        near = omega (arith, P.near);
        sized = P.sized;
        put = λ above room. put_on (P.put above room) (tested above ∙ e);
      }

  -- with an entry, where there is room
  pub puts_entry : (eqb s 0 || ltb 0 (forms_on reduced s)) ≡ true
      → (x : Entry) → x ≡ record { coefficient = coef_on reduced s; signal = s; forms = forms_on reduced s }
      → Putting p n K start rows₀ (s + 1) (cond (ltb end (length rows)) (end + 1) end) (cond (ltb end (length rows)) (set rows end x) rows)
  puts_entry e x is =
      by_test (ltb end (length rows))
      (λ f. rw f (puts_one e (ltb-true _ _ f) x is))
      (λ f. rw f (puts_full e (ltb-false _ _ f)))

-- after the last turn
pub puts_all : {p n s end start : ℕ} {K : Constraint} {rows₀ rows : List Entry} → s ≡ n → Putting p n K start rows₀ (s + 1) end rows
    → (end ≤ start + (n + 1))
    × (1 < p → start + rank (stands K) (suc n) ≤ length rows₀ → Put p (suc n) K start end rows₀ rows)
puts_all {n = n} e P = (omega (arith, P.near), rw (e, add-one n) at P.put)

-- Cuts

cut_at : (n start : ℕ) (rows : List Entry) (i : ℕ) → i < n → entry_at (take n (drop start rows)) i ≡ entry_at rows (start + i)
unfolding entry_at
cut_at n start rows i h = get_or-take n (drop start rows) i nothing h ∙ get_or-drop start rows i nothing

-- two cuts that agree
cut_same : (n start m first : ℕ) (rows rows' : List Entry) → min n (length rows - start) ≡ min m (length rows' - first)
    → ((i : ℕ) → i < min n (length rows - start) → entry_at rows (start + i) ≡ entry_at rows' (first + i)) → take n (drop start rows) ≡ take m (drop first rows')
unfolding entry_at
cut_same n start m first rows rows' e f =
    let size : length (take n (drop start rows)) ≡ min n (length rows - start) = simp (length-take, length-drop) in
    ext_get_or nothing (take n (drop start rows)) (take m (drop first rows'))
    (simp (length-take, length-drop) e)
    (λ i h. cut_at n start rows i (omega arith) ∙ f i (omega arith) ∙ sym (cut_at m first rows' i (omega arith)))

-- a cut whose start and end were clipped
clip : (a e size : ℕ) → min (e - a) (size - a) ≡ min e size - a
clip a e size = omega arith

pub row_cut : (table ends : List ℕ) (rows : List Entry) (k a e start end : ℕ) → a ≡ start_of table k → e ≡ at ends k → end ≡ min e (length rows) → start ≡ min a end
    → take (end - start) (drop start rows) ≡ row_of table ends rows k
unfolding row_of
row_cut table ends rows k a e start end is-a is-e is-end is-start =
    let size : min (end - start) (length rows - start) ≡ end - a = omega arith in
    rw (← is-a, ← is-e)
    (cut_same (end - start) start (e - a) a rows rows
    (size ∙ ap (λ (x : ℕ). x - a) is-end ∙ sym (clip a e (length rows)))
    (λ i h. ap (entry_at rows) (omega (arith, rw size at h))))

-- Rows

row_put : {p n : ℕ} {K : Constraint} {start end : ℕ} {rows₀ rows : List Entry} → Put p (suc n) K start end rows₀ rows → end ≤ length rows
    → Row p n K (take (end - start) (drop start rows))
unfolding signal_on forms_on coef_on entry_of
row_put {p} {n} {K} {start} {end} {rows₀} {rows} P h =
    record {
      counted = simp (length-take, length-drop) (omega (arith, P.ends));
      signal = λ s l e. ap (λ (x : Entry). x.signal) (put s l e);
      forms = λ s l e. ap (λ (x : Entry). x.forms) (put s l e);
      coef = λ s l e. ap (λ (x : Entry). x.coefficient) (put s l e);
    }
  where
    put : (s : ℕ) → s ≤ n → stands K s ≡ true → entry_at (take (end - start) (drop start rows)) (rank (stands K) s) ≡ entry_of p K s
    put s l e = cut_at (end - start) start rows _ (omega (arith, P.ends, rank_below (stands K) s (suc n) (omega arith) e)) ∙ P.entry s (omega arith) e

module _ {c : List ℕ} {z : Sizes} {table ends : List ℕ} {rows : List Entry} (k : ℕ) (Z : Sized c z) (O : Offsets c z.m table) (R : Roomy (length c) z.m ends rows)
    (l : 1 ≤ k) (h : k ≤ z.m) (A : Rows (circuit_of c) table ends rows) where
  abbrev C : Circuit
  C = circuit_of c

  pub made_before : (at ends k ≡ 0 → ⊥) → RowMade C table k ends rows ends rows
  made_before d =
      record {
        all = A;
        made = d;
        kept = λ j a b e. refl;
        ends_kept = λ j e. refl;
        end = λ e. absurd (d e);
        others = λ i o. refl;
      }

  module _ (fresh : at ends k ≡ 0) (end : ℕ) (rows' : List Entry) (size : length rows' ≡ length rows)
      (P : Put C.p (suc C.n) (constraint_at C k) (start_of table k) end rows rows') where
    abbrev ends' : List ℕ
    ends' = set ends k end

    end_is : at ends' k ≡ end
    unfolding at
    end_is = get_or-set_same ends k end 0 (omega (arith, R.ends_room))

    end_other : (j : ℕ) → (j ≡ k → ⊥) → at ends' j ≡ at ends j
    unfolding at
    end_other j d = get_or-set_other ends k j end 0 d

    end_place : end ≡ start_of table k + row_size C k
    unfolding row_size
    end_place = P.ends

    some : 0 < row_size C k
    unfolding row_size
    some = omega (arith, rank_below (stands (constraint_at C k)) 0 (suc C.n) (omega arith) (constant_stands (constraint_at C k)))

    row_new : Row C.p C.n (constraint_at C k) (row_of table ends' rows' k)
    unfolding row_of
    row_new = rw end_is (row_put P (omega (arith, row_inside Z O R k l h, end_place)))

    -- a row that is there lies outside
    row_old : (j : ℕ) → 1 ≤ j → j ≤ C.m → (j ≡ k → ⊥) → Row C.p C.n (constraint_at C j) (row_of table ends rows j)
        → row_of table ends' rows' j ≡ row_of table ends rows j
    unfolding row_of row_size
    row_old j a b d W =
        rw (end_other j d)
        (cut_same (at ends j - start_of table j) (start_of table j) (at ends j - start_of table j) (start_of table j) rows' rows (rw size)
        (λ i g. P.others (start_of table j + i) (outside i (rw size at g))))
      where
        counted : min (at ends j - start_of table j) (length rows - start_of table j) ≡ row_size C j
        counted = simp (length-take, length-drop) at W.counted

        outside : (i : ℕ) → i < min (at ends j - start_of table j) (length rows - start_of table j)
            → (start_of table j + i < start_of table k) ⊎ (end ≤ start_of table j + i)
        outside i g =
            by_order j k (λ s. inl (omega (arith, rw counted at g, rows_apart Z O j k a s h)))
            (λ s. inr (omega (arith, end_place, rows_apart Z O k j l (omega arith) (omega (arith, Z.is_m)))))

    pub made_now : RowMade C table k ends rows ends' rows'
    made_now =
        record {
          all =
              record {
                each = λ j a b.
                    by_equal j k (λ e. inr (rw e row_new))
                    (λ d. ⊎_elim (λ e. inl (end_other j d ∙ e)) (λ W. inr (rw (row_old j a b d W) W)) (A.each j a b));
              };
          made = λ e. absurd (omega (arith, end_is, end_place, some));
          kept = λ j a b n. ⊎_elim (λ e. absurd (n e)) (row_old j a b (λ e. n (ap (at ends) e ∙ fresh))) (A.each j a b);
          ends_kept = end_other;
          end = λ e. end_is ∙ end_place;
          others = λ i o. P.others i (rw end_is at o);
        }

  -- what the code puts
  pub row_made : at ends k ≡ 0 → (part : List ℕ) → part ≡ part_of c table k → (start : ℕ) → start ≡ start_of table k → (end : ℕ) (rows' : List Entry)
      → length rows' ≡ length rows
      → (1 < z.p → start + rank (stands (constraint_in part)) (suc z.n) ≤ length rows → Put z.p (suc z.n) (constraint_in part) start end rows rows')
      → RowMade C table k ends rows (set ends k end) rows'
  unfolding row_size
  row_made fresh part is-part start is-start end rows' size put =
      let K : constraint_in part ≡ constraint_at C k = ap constraint_in is-part ∙ sized_part Z O k l h in
      made_now fresh end rows' size ((rw (Z.is_p, Z.is_n, K, is-start) at put) (omega (arith, Z.formed.p_least)) (row_inside Z O R k l h))
