-- Numbers taken until their sum reaches a limit; a row's unmarked entries and its digits as lists: what each turn of the loops that gather and add does to
-- them, and their sums by place.
use Prim.Native.Nat.{ℕ, zero, suc, ◌+◌, ◌-◌, ◌*◌, ◌%◌, ◌≤◌, ◌<◌, min}
use mathlib.Core.Path.{◌≡◌, refl, sym, ap, ◌∙◌}
use mathlib.Core.Bool.{Bool, true, false}
use mathlib.Core.List.{List, [], ◌∷◌, ◌++◌, map, append-nil}
use native.Mathlib.Omega.{arith}
use native.Mathlib.Nat.{mul-zero, zero-add, add-zero, pos_of_ne-zero, min-eq_left}
use native.Mathlib.Numerals.{add-one}
use lib.ListN.{length, get_or, set, take, drop, length-set}
use Rattle.std.specs.List.{filter}
use Rattle.std.specs.List as list
use Rattle.std.proofs.Math.Seq.{take-suc, take-append_seam}
use Rattle.std.proofs.lemmas.List.{map-append, take-append-le, take-append-drop, length-append, length-take-le, take_more_set, take_all, drop_all}
use Rattle.std.proofs.lemmas.List.Elements.{filter-append}
use Rattle.std.proofs.lemmas.List.Sums.{sum_by-cons, sum_by_push, sum_by-take-le}
use borrow.Author.Tests.{lt-ltb, ltb-true, ltb-false}
use Rattle.laws.specs.Sum.{sum, keep}
use Rattle.laws.proofs.Sum.{by_test, by_order, true_or_false, true_by, keep_true, keep_false}
use Rattle.rules.specs.View.{coef_in, bound_in}
use Rattle.rules.specs.Rows.{entries, entry_at, nothing, rank, one}
use Rattle.rules.specs.Live.{is_live, live_bound}
use Rattle.rules.specs.Added.{taken, Adds, weight_by, share, terms, is_digit, digits_of, Holds}
use Rattle.rules.specs.declared.rows.Entry.{Entry}
use Rattle.rules.specs.Weights.{Gathered}
use Rattle.rules.specs.declared.added.Added.{Added}
use Rattle.rules.specs.declared.added.DigitTerms.{DigitTerms}
use Rattle.rules.specs.declared.gathered.Few.{Few}

-- Numbers

sum_cons : (x : ℕ) (xs : List ℕ) → list.sum (x ∷ xs) ≡ x + list.sum xs
sum_cons = sum_by-cons (λ y. y)

-- the fewest that reach the limit, or all, are so many
is_taken : (p k : ℕ) (xs : List ℕ) → k ≤ length xs → ((j : ℕ) → j < k → list.sum (take j xs) < p) → (list.sum (take k xs) < p → k ≡ length xs)
    → k ≡ taken p xs
unfolding taken
is_taken zero zero xs h fewest all = refl
is_taken zero (suc k) xs h fewest all = absurd (omega (arith, fewest 0 (omega arith)))
is_taken (suc p) zero [] h fewest all = refl
is_taken (suc p) (suc k) [] h fewest all = absurd (omega arith)
is_taken (suc p) zero (x ∷ xs) h fewest all = absurd (omega (arith, all (omega arith)))
is_taken (suc p) (suc k) (x ∷ xs) h fewest all =
    ap suc
    (is_taken (suc p - x) k xs (omega arith)
    (λ j l. omega (arith, fewest (suc j) (omega arith), sum_cons x (take j xs)))
    (λ l. omega (arith, all (omega (arith, l, sum_cons x (take k xs))))))

-- the numbers xs have been added up, and none was needless
pub record Summed (p : ℕ) (xs : List ℕ) (total count : ℕ) : Type 0 where
  pub totalled : total ≡ list.sum xs
  pub counted : count ≡ length xs
  pub short : (j : ℕ) → j < length xs → list.sum (take j xs) < p

summed_start : (p : ℕ) → Summed p [] 0 0
summed_start p = record { totalled = refl; counted = refl; short = λ j l. absurd (omega arith) }

module _ (p : ℕ) (xs : List ℕ) (total count : ℕ) (A : Summed p xs total count) where
  summed_on : (x : ℕ) → total < p → Summed p (xs ++ x ∷ []) (total + x) (count + 1)
  summed_on x h =
      let wide : length (xs ++ x ∷ []) ≡ length xs + 1 = length-append xs (x ∷ []) in
      record {
        totalled = omega (arith, A.totalled, sum_by_push (λ y. y) xs x);
        counted = omega (arith, A.counted, wide);
        short = λ j l.
            by_order j (length xs)
            (λ b. rw (take-append-le j xs (x ∷ []) (omega arith)) (A.short j b))
            (λ b.
            let end : j ≡ length xs = omega (arith, wide) in
            rw (end, take-append_seam xs (x ∷ [])) (omega (arith, A.totalled)));
      }

  -- the others are left because p is reached, or there are none
  adds_made : (ys : List ℕ) (a : Added) → a.total ≡ total → a.taken ≡ count → (total < p → ys ≡ []) → Adds p (xs ++ ys) a
  adds_made ys a total-is count-is end =
      record {
        count = is_taken p a.taken (xs ++ ys) (omega (arith, whole, count-is, A.counted)) fewest all;
        total = total-is ∙ A.totalled ∙ ap list.sum (sym here);
        fewest = fewest;
        all = λ l. all (rw here (omega (arith, l, total-is, A.totalled)));
      }
    where
      whole : length (xs ++ ys) ≡ length xs + length ys
      whole = length-append xs ys

      here : take a.taken (xs ++ ys) ≡ xs
      here = rw (count-is, A.counted) (take-append_seam xs ys)

      fewest : (j : ℕ) → j < a.taken → list.sum (take j (xs ++ ys)) < p
      fewest j l =
          let b : j < length xs = omega (arith, l, count-is, A.counted) in
          rw (take-append-le j xs ys (omega arith)) (A.short j b)

      all : list.sum (take a.taken (xs ++ ys)) < p → a.taken ≡ length (xs ++ ys)
      all l =
          let none : length ys ≡ 0 = ap length (end (omega (arith, A.totalled, rw here at l))) in
          omega (arith, whole, none, count-is, A.counted)

-- p is reached exactly if all of them reach it
module _ (p : ℕ) (xs : List ℕ) (a : Added) (A : Adds p xs a) where
  pub adds_below : a.total < p → list.sum xs ≡ a.total
  adds_below l = sym (A.total ∙ ap list.sum (take_all a.taken xs (omega (arith, A.all l))))

  pub adds_over : p ≤ a.total → p ≤ list.sum xs
  adds_over l = omega (arith, A.total, sum_by-take-le (λ y. y) xs a.taken)

-- a list's sum, by place
pub sum_listed : (xs : List ℕ) → sum (length xs) (coef_in xs) ≡ list.sum xs
unfolding sum coef_in
sum_listed [] = refl
sum_listed (x ∷ xs) = ap (λ (y : ℕ). x + y) (sum_listed xs) ∙ sym (sum_cons x xs)

-- Filtered lists

module _ {A : Type 0} (q : A → Bool) where
  filter_yes : (xs : List A) (x : A) → q x ≡ true → filter q (xs ++ x ∷ []) ≡ filter q xs ++ x ∷ []
  filter_yes xs x e = filter-append q xs (x ∷ []) ∙ rw e refl

  filter_no : (xs : List A) (x : A) → q x ≡ false → filter q (xs ++ x ∷ []) ≡ filter q xs
  filter_no xs x e = filter-append q xs (x ∷ []) ∙ rw e (append-nil (filter q xs))

  pub mapped_yes : {B : Type 0} (f : A → B) (xs : List A) (x : A) → q x ≡ true → map f (filter q (xs ++ x ∷ [])) ≡ map f (filter q xs) ++ f x ∷ []
  mapped_yes f xs x e = ap (map f) (filter_yes xs x e) ∙ map-append f (filter q xs) (x ∷ [])

  pub mapped_no : {B : Type 0} (f : A → B) (xs : List A) (x : A) → q x ≡ false → map f (filter q (xs ++ x ∷ [])) ≡ map f (filter q xs)
  mapped_no f xs x e = ap (map f) (filter_no xs x e)

  filter_twice : (xs : List A) → filter q (filter q xs) ≡ filter q xs
  filter_twice [] = refl
  filter_twice (x ∷ xs) = by_test (q x) (λ e. rw (e, e) (ap (λ ys. x ∷ ys) (filter_twice xs))) (λ e. rw e (filter_twice xs))

  module _ (d : A) where
    -- the numbers of those that pass, added up by place
    pub sum_filtered : (f : A → ℕ) (xs : List A) → list.sum (map f (filter q xs)) ≡ sum (length xs) (λ i. keep (q (get_or xs i d)) (f (get_or xs i d)))
    unfolding sum keep
    sum_filtered f [] = refl
    sum_filtered f (x ∷ xs) =
        by_test (q x)
        (λ e. rw e (sum_cons (f x) (map f (filter q xs)) ∙ ap (λ (y : ℕ). f x + y) (sum_filtered f xs)))
        (λ e. rw e (sum_filtered f xs ∙ sym (zero-add _)))

    -- how many pass
    pub length_filtered : (xs : List A) → length (filter q xs) ≡ rank (λ i. q (get_or xs i d)) (length xs)
    unfolding rank one sum keep
    length_filtered [] = refl
    length_filtered (x ∷ xs) =
        let more : suc (length (filter q xs)) ≡ 1 + length (filter q xs) = omega arith in
        by_test (q x)
        (λ e. rw e (more ∙ ap (λ (y : ℕ). 1 + y) (length_filtered xs)))
        (λ e. rw e (length_filtered xs ∙ sym (zero-add _)))

  -- two numbers of each that passes, side by side in two lists
  pub pair_filtered : (f g : A → ℕ) (h : ℕ → ℕ → ℕ) (xs : List A)
      → sum (length (map f (filter q xs))) (λ j. h (get_or (map f (filter q xs)) j 0) (get_or (map g (filter q xs)) j 0))
      ≡ list.sum (map (λ x. h (f x) (g x)) (filter q xs))
  unfolding sum
  pair_filtered f g h xs = pairs (filter q xs)
    where
      pairs : (ys : List A) → sum (length (map f ys)) (λ j. h (get_or (map f ys) j 0) (get_or (map g ys) j 0)) ≡ list.sum (map (λ x. h (f x) (g x)) ys)
      pairs [] = refl
      pairs (y ∷ ys) = ap (λ (z : ℕ). h (f y) (g y) + z) (pairs ys) ∙ sym (sum_cons (h (f y) (g y)) (map (λ x. h (f x) (g x)) ys))

-- The digits of a row

next : (row : List Entry) (i : ℕ) → i < length row → take (i + 1) row ≡ take i row ++ entry_at row i ∷ []
unfolding entry_at
next row i h = rw (add-one i) (take-suc row i nothing h)

module _ (p : ℕ) (bounds : List ℕ) (marks : List Bool) where
  abbrev of : List Entry → List Entry
  of row = digits_of p bounds marks row

  digit_live : (x : Entry) → is_digit p bounds marks x ≡ true → is_live marks x ≡ true
  unfolding is_digit live_bound
  digit_live x e =
      true_by _
      (λ g. absurd (omega (arith, ltb-true 0 (live_bound p bounds marks x) e, keep_false (is_live marks x) (bound_in p bounds x.signal) g)))

  -- of the digits all are unmarked, and all are digits
  live_again : (row : List Entry) → filter (is_live marks) (of row) ≡ of row
  unfolding digits_of
  live_again [] = refl
  live_again (x ∷ row) =
      by_test (is_digit p bounds marks x) (λ e. rw (e, digit_live x e) (ap (λ ys. x ∷ ys) (live_again row))) (λ e. rw e (live_again row))

  pub digits_again : (row : List Entry) → of (of row) ≡ of row
  unfolding digits_of
  digits_again row = filter_twice (is_digit p bounds marks) row

  module _ (row : List Entry) (i : ℕ) (h : i < length row) where
    abbrev y : Entry
    y = entry_at row i

    digits_yes : is_digit p bounds marks y ≡ true → of (take (i + 1) row) ≡ of (take i row) ++ y ∷ []
    unfolding digits_of
    digits_yes e = ap (filter (is_digit p bounds marks)) (next row i h) ∙ filter_yes (is_digit p bounds marks) (take i row) y e

    digits_no : is_digit p bounds marks y ≡ false → of (take (i + 1) row) ≡ of (take i row)
    unfolding digits_of
    digits_no e = ap (filter (is_digit p bounds marks)) (next row i h) ∙ filter_no (is_digit p bounds marks) (take i row) y e

    dead : is_live marks y ≡ false → is_digit p bounds marks y ≡ false
    dead e = by_test (is_digit p bounds marks y) (λ g. true_or_false _ (digit_live y g) e) (λ g. g)

  -- Turns of the loop that gathers

  module _ (row : List Entry) where
    pub gathered_start : (entries : List Entry) → Gathered (of (take 0 row)) (record { entries = entries; count = 0 })
    unfolding digits_of
    gathered_start entries = record { held = refl; room = omega arith }

    pub gathered_whole : (i : ℕ) (few : Few) → length row ≤ i → Gathered (of (take i row)) few → Gathered (of row) few
    gathered_whole i few end G = rw (take_all i row end) at G

    module _ (i : ℕ) (h : i < length row) (few : Few) (G : Gathered (of (take i row)) few)
        (bound : ℕ) (is : bound ≡ live_bound p bounds marks (entry_at row i)) where
      pub gathered_skip : bound ≡ 0 → Gathered (of (take (i + 1) row)) few
      unfolding is_digit
      gathered_skip z = rw (digits_no row i h (rw (sym is, z) refl)) G

      module _ (some : bound ≡ 0 → ⊥) (wide : length few.entries ≡ 31) where
        on : of (take (i + 1) row) ≡ of (take i row) ++ entry_at row i ∷ []
        unfolding is_digit
        on = digits_yes row i h (rw (sym is) (lt-ltb 0 bound (pos_of_ne-zero some)))

        pub gathered_on : few.count < 31
            → Gathered (of (take (i + 1) row)) (record { entries = set few.entries few.count (entry_at row i); count = few.count + 1 })
        gathered_on room =
            record {
              held = take_more_set few.entries few.count (entry_at row i) (omega (arith, wide)) ∙ rw G.held refl ∙ sym on;
              room = omega arith;
            }

        -- one more makes 32
        pub gathered_many : few.count ≡ 31 → 32 ≤ length (of row)
        unfolding digits_of
        gathered_many full =
            omega (
              arith,
              full,
              ap length G.held,
              length-take-le few.count few.entries (omega (arith, full, wide)),
              ap length on,
              length-append (of (take i row)) (entry_at row i ∷ []),
              ap (λ xs. length (of xs)) (sym (take-append-drop (i + 1) row)),
              ap length (filter-append (is_digit p bounds marks) (take (i + 1) row) (drop (i + 1) row)),
              length-append (of (take (i + 1) row)) (of (drop (i + 1) row)),
            )

-- what an entry adds
pub share_made : (p : ℕ) (bounds : List ℕ) (scale : ℕ) (x : Entry) (w b y : ℕ) → w ≡ x.coefficient * scale % p → b ≡ bound_in p bounds x.signal → y ≡ w * b
    → y ≡ share p bounds scale x
unfolding share weight_by
share_made p bounds scale x w b y w-is b-is y-is = y-is ∙ rw (w-is, b-is) refl

-- The entries of a row

module _ (p : ℕ) (bounds : List ℕ) (marks : List Bool) (scale : ℕ) where
  abbrev digits_in : List Entry → List Entry
  digits_in row = digits_of p bounds marks row

  abbrev listed : List Entry → List ℕ
  listed row = terms p bounds marks scale row

  terms_none : listed [] ≡ []
  unfolding terms
  terms_none = refl

  -- the terms of what is passed and of what is left
  terms_split : (row : List Entry) (i : ℕ) → listed row ≡ listed (take i row) ++ listed (drop i row)
  unfolding terms
  terms_split row i =
      ap listed (sym (take-append-drop i row))
      ∙ ap (map (share p bounds scale)) (filter-append (is_live marks) (take i row) (drop i row))
      ∙ map-append (share p bounds scale) _ (filter (is_live marks) (drop i row))

  -- an unmarked entry with bound 0 adds nothing
  share_none : (x : Entry) → is_live marks x ≡ true → is_digit p bounds marks x ≡ false → share p bounds scale x ≡ 0
  unfolding is_digit live_bound share
  share_none x e g =
      let z : bound_in p bounds x.signal ≡ 0 = omega (
        arith,
        ltb-false 0 (live_bound p bounds marks x) g,
        keep_true (is_live marks x) (bound_in p bounds x.signal) e,
      ) in
      rw (z, mul-zero)

  -- so digits alone add up to as much
  shares_sum : (row : List Entry) → list.sum (map (share p bounds scale) (digits_in row)) ≡ list.sum (listed row)
  unfolding terms digits_of
  shares_sum [] = refl
  shares_sum (x ∷ row) =
      by_test (is_digit p bounds marks x)
      (λ e.
      rw (e, digit_live p bounds marks x e)
      (sum_cons (share p bounds scale x) (map (share p bounds scale) (digits_in row))
      ∙ ap (λ (y : ℕ). share p bounds scale x + y) (shares_sum row)
      ∙ sym (sum_cons (share p bounds scale x) (listed row))))
      (λ e.
      by_test (is_live marks x)
      (λ g.
      rw (e, g)
      (shares_sum row ∙ sym (sum_cons (share p bounds scale x) (listed row) ∙ rw (share_none x g e) (zero-add (list.sum (listed row))))))
      (λ g. rw (e, g) (shares_sum row)))

  digits_sum : (row : List Entry) → list.sum (listed (digits_in row)) ≡ list.sum (listed row)
  unfolding terms
  digits_sum row = ap (λ ys. list.sum (map (share p bounds scale) ys)) (live_again p bounds marks row) ∙ shares_sum row

  -- a slice that is the row's digits adds up to as much
  pub gathered_sum : (row xs : List Entry) → xs ≡ digits_in row → list.sum (listed xs) ≡ list.sum (listed row)
  gathered_sum row xs is = ap (λ ys. list.sum (listed ys)) is ∙ digits_sum row

  -- the products that are kept add up to the total
  pub kept_total : (row : List Entry) (a : Added) → Adds p (listed row) a → (room : DigitTerms)
      → (a.total < p → Holds p bounds scale (digits_in row) a.digit_count room) → a.total < p → a.digit_count ≤ 31
      → list.sum (take a.digit_count room.products) < p
  kept_total row a A room keeps l few =
      omega (arith, ap list.sum ((keeps l).multiplied few), shares_sum row, adds_below p (listed row) a A l)

  -- Turns of the loop that adds up

  -- the entries below i have been passed
  pub record Passed (row : List Entry) (i total count digits : ℕ) (room : DigitTerms) : Type 0 where
    pub summed : Summed p (listed (take i row)) total count
    pub holds : total < p → Holds p bounds scale (digits_in (take i row)) digits room
    pub weights_wide : length room.weights ≡ 31
    pub products_wide : length room.products ≡ 31

  pub passed_start : (row : List Entry) (room : DigitTerms) → length room.weights ≡ 31 → length room.products ≡ 31 → Passed row 0 0 0 0 room
  unfolding terms digits_of
  passed_start row room wide-w wide-x =
      record {
        summed = summed_start p;
        holds = λ l. record { counted = refl; weighed = λ e. refl; multiplied = λ e. refl };
        weights_wide = wide-w;
        products_wide = wide-x;
      }

  module _ (row : List Entry) (i : ℕ) (h : i < length row) where
    abbrev x : Entry
    x = entry_at row i

    pub terms_yes : is_live marks x ≡ true → listed (take (i + 1) row) ≡ listed (take i row) ++ share p bounds scale x ∷ []
    unfolding terms
    terms_yes e = ap listed (next row i h) ∙ mapped_yes (is_live marks) (share p bounds scale) (take i row) x e

    pub terms_no : is_live marks x ≡ false → listed (take (i + 1) row) ≡ listed (take i row)
    unfolding terms
    terms_no e = ap listed (next row i h) ∙ mapped_no (is_live marks) (share p bounds scale) (take i row) x e

    module _ (total count digits : ℕ) (room : DigitTerms) (P : Passed row i total count digits room) where
      pub passed_dead : is_live marks x ≡ false → Passed row (i + 1) total count digits room
      passed_dead e =
          record {
            summed = rw (terms_no e) P.summed;
            holds = rw (digits_no p bounds marks row i h (dead p bounds marks row i h e)) P.holds;
            weights_wide = P.weights_wide;
            products_wide = P.products_wide;
          }

      live_added : is_live marks x ≡ true → total < p → (y : ℕ) → y ≡ share p bounds scale x → Summed p (listed (take (i + 1) row)) (total + y) (count + 1)
      live_added e short y y-is =
          rw (terms_yes e, sym y-is) (summed_on p (listed (take i row)) total count P.summed y short)

      -- bound 0
      pub passed_zero : is_live marks x ≡ true → total < p → bound_in p bounds x.signal ≡ 0 → Passed row (i + 1) total (count + 1) digits room
      unfolding is_digit live_bound share
      passed_zero e short z =
          let none : is_digit p bounds marks x ≡ false = rw (e, keep_true true (bound_in p bounds x.signal) refl, z) refl in
          let added = live_added e short 0 (sym (share_none x e none)) in
          record {
            summed = rw (add-zero total) at added;
            holds = rw (digits_no p bounds marks row i h none) P.holds;
            weights_wide = P.weights_wide;
            products_wide = P.products_wide;
          }

      -- a digit, whose weight and product are put into the room while it is free
      module _ (e : is_live marks x ≡ true) (short : total < p) (some : bound_in p bounds x.signal ≡ 0 → ⊥)
          (w y : ℕ) (w-is : w ≡ weight_by p scale x) (y-is : y ≡ share p bounds scale x) where
        is_one : is_digit p bounds marks x ≡ true
        unfolding is_digit live_bound
        is_one = rw (e, keep_true true (bound_in p bounds x.signal) refl) (lt-ltb 0 _ (pos_of_ne-zero some))

        more : length (digits_in (take (i + 1) row)) ≡ length (digits_in (take i row)) + 1
        more = ap length (digits_yes p bounds marks row i h is_one) ∙ length-append (digits_in (take i row)) (x ∷ [])

        kept_on : (f : Entry → ℕ) (ns : List ℕ) (z : ℕ) → digits < length ns → take digits ns ≡ map f (digits_in (take i row)) → z ≡ f x
            → take (digits + 1) (set ns digits z) ≡ map f (digits_in (take (i + 1) row))
        kept_on f ns z free held z-is =
            take_more_set ns digits z free
            ∙ rw (held, z-is) (sym (map-append f (digits_in (take i row)) (x ∷ [])))
            ∙ ap (map f) (sym (digits_yes p bounds marks row i h is_one))

        pub passed_digit : digits < 31 → Passed row (i + 1) (total + y) (count + 1) (digits + 1)
            (record { weights = set room.weights digits w; products = set room.products digits y })
        passed_digit free =
            record {
              summed = live_added e short y y-is;
              holds = λ l.
                  let K = P.holds short in
                  record {
                    counted = omega (arith, K.counted, more);
                    weighed = λ s. kept_on (weight_by p scale) room.weights w (omega (arith, P.weights_wide)) (K.weighed (omega arith)) w-is;
                    multiplied = λ s. kept_on (share p bounds scale) room.products y (omega (arith, P.products_wide)) (K.multiplied (omega arith)) y-is;
                  };
              weights_wide = simp length-set P.weights_wide;
              products_wide = simp length-set P.products_wide;
            }

        pub passed_full : 31 ≤ digits → Passed row (i + 1) (total + y) (count + 1) (digits + 1) room
        passed_full full =
            record {
              summed = live_added e short y y-is;
              holds = λ l.
                  record {
                    counted = omega (arith, (P.holds short).counted, more);
                    weighed = λ s. absurd (omega arith);
                    multiplied = λ s. absurd (omega arith);
                  };
              weights_wide = P.weights_wide;
              products_wide = P.products_wide;
            }

        -- p is reached
        pub reached_adds : (a : Added) → a.total ≡ total + y → a.taken ≡ count + 1 → p ≤ total + y → Adds p (listed row) a
        reached_adds a total-is count-is over =
            rw (terms_split row (i + 1))
            (adds_made p (listed (take (i + 1) row)) (total + y) (count + 1) (live_added e short y y-is) (listed (drop (i + 1) row)) a total-is count-is
            (λ l. absurd (omega arith)))

  -- nothing is to be reached
  pub none_adds : (row : List Entry) (a : Added) → a.total ≡ 0 → a.taken ≡ 0 → p ≡ 0 → Adds p (listed row) a
  none_adds row a total-is count-is z = adds_made p [] 0 0 (summed_start p) (listed row) a total-is count-is (λ l. absurd (omega arith))

  -- all are passed
  module _ (row : List Entry) (i : ℕ) (a : Added) (room : DigitTerms) (P : Passed row i a.total a.taken a.digit_count room) (end : length row ≤ i) where
    pub passed_adds : Adds p (listed row) a
    passed_adds =
        rw (terms_split row i)
        (adds_made p (listed (take i row)) a.total a.taken P.summed (listed (drop i row)) a refl refl
        (λ l. ap listed (drop_all i row end) ∙ terms_none))

    pub passed_kept : a.total < p → Holds p bounds scale (digits_in row) a.digit_count room
    passed_kept l = rw (take_all i row end) at (P.holds l)

-- the slice that `Few::gathered` answers is the row's digits
pub gathered_is : {digits : List Entry} {few : Few} → Gathered digits few → {xs : List Entry} → xs ≡ take (min few.count 31) few.entries → xs ≡ digits
gathered_is G is = is ∙ rw (min-eq_left G.room) G.held
