-- Laws of levels: a constraint holds or not by the signals up to its level, and how the constraints stand in order of their levels.
use Prim.Native.Nat.{ℕ, zero, suc, ◌+◌, ◌*◌, ◌-◌, ◌≤◌, ◌<◌, max}
use mathlib.Core.Path.{◌≡◌, refl, sym, ap, ap₂, ◌∙◌}
use mathlib.Core.Bool.{Bool, true, false}
use mathlib.Core.List.{List}
use native.Mathlib.Decide.{ℕ_discrete}
use native.Mathlib.Omega.{arith}
use borrow.Author.Tests.{ne_eqb, leb-true, leb-false, ltb-true, ltb-false, eqb-false}
use lib.Dec.{leb, ltb, eqb}
use lib.ListN.{length, drop, get_or, set, length-set}
use lib.Seq.{get_or-set_same, get_or-set_other}
use Rattle.circuit.specs.Bytes.{byte_at, u16_at}
use Rattle.circuit.specs.Circuit.{Term, Form, eval, Rises, more, WellFormedConstraint}
use Rattle.circuit.specs.Reader.{term_at, term_kept, terms_in, form_in, after_form, constraint_in}
use Rattle.circuit.specs.Run.{holds}
use Rattle.circuit.specs.Answer.{given}
use Rattle.circuit.specs.Call.{circuit_call, circuit_of, Sized}
use Rattle.circuit.proofs.Sized.{call_sized}
use Rattle.circuit.specs.Offsets.{Offsets, part_of}
use Rattle.circuit.specs.declared.reader.Sizes.{Sizes}
use Rattle.circuit.proofs.ByteLaws.{u16_drop}
use Rattle.circuit.proofs.OffsetLaws.{sized_part}
use Rattle.std.specs.Prelude.{All, ◌≢◌}
use Rattle.std.specs.Cmp.{nat_eq_equiv}
use Rattle.std.specs.List.{IsDistinct}
use Rattle.std.specs.List.Sorted.{IsPermutation, IsNonDecreasingBy, IsPartitionPoint}
use Rattle.std.proofs.lemmas.List.Sorted.{All-permutation, IsPermutation-sym, length_permutation}
use Rattle.std.proofs.lemmas.Map.Keys.{apart_from_distinct, IsDistinct-from_apart, IsDistinct-IsPermutation}
use Rattle.runs.specs.declared.levels.Leveled.{Leveled}
use Rattle.runs.specs.Inner.{last_signal, level_in, level_at, IsLeveled, rank, Ordered, held_at}

-- ---- what a form's value depends on

-- the signal of the last of `suc left` terms
abbrev last_of : ℕ → List ℕ → ℕ
last_of left s = u16_at s (6 * left)

last_next : (left : ℕ) (s : List ℕ) → last_of left (drop 6 s) ≡ last_of (suc left) s
last_next left s = u16_drop 6 s (6 * left) ∙ ap (u16_at s) (omega arith)

-- a term that is kept or passed over, and the rest
kept_first : {n p least x last : ℕ} (t : Term) (rest : Form) (b : Bool) → t.signal ≡ x → Rises n p least (term_kept b t rest)
    → (b ≡ true → Rises n p (suc x) rest → x ≤ last) → (b ≡ false → Rises n p least rest → least ≤ last) → least ≤ last
kept_first t rest true e (more l m c d r) kept passed = omega (arith, kept refl (rw (← e) r))
kept_first t rest false e R kept passed = passed refl R

-- the first signal is at most the last one, also where terms on signals that no circuit has are passed over
first_last : {n p : ℕ} (left : ℕ) (s : List ℕ) {least : ℕ} → Rises n p least (terms_in (suc left) s) → least ≤ 257 → least ≤ last_of left s
unfolding terms_in
first_last zero s R small =
    kept_first (term_at s) _ (leb (u16_at s 0) 256) refl R (λ e r. omega arith) (λ e r. omega (arith, leb-false (u16_at s 0) 256 e))
first_last (suc left) s R small =
    rw (← (last_next left s))
    (kept_first (term_at s) _ (leb (u16_at s 0) 256) refl R
    (λ e r. let z : suc (u16_at s 0) ≤ last_of left (drop 6 s) = first_last left (drop 6 s) r (omega (arith, leb-true (u16_at s 0) 256 e)) in omega arith)
    (λ e r. first_last left (drop 6 s) r small))

signal_last : {n p : ℕ} (left : ℕ) (s : List ℕ) → u16_at s 0 ≤ 256 → Rises n p (suc (u16_at s 0)) (terms_in left (drop 6 s)) → u16_at s 0 ≤ last_of left s
signal_last zero s few R = omega arith
signal_last (suc left) s few R = rw (← (last_next left s)) (let z = first_last left (drop 6 s) R (omega arith) in omega arith)

-- two runs that agree on the signals up to n, up to a level
abbrev pub AgreeTo : ℕ → ℕ → (ℕ → ℕ) → (ℕ → ℕ) → Type 0
AgreeTo n level v w = (s : ℕ) → s ≤ n → s ≤ level → v s ≡ w s

module _ {n p : ℕ} (level : ℕ) (v w : ℕ → ℕ) (same : AgreeTo n level v w) where
  kept_agree : {least x : ℕ} (t : Term) (rest : Form) (b : Bool) → t.signal ≡ x → Rises n p least (term_kept b t rest)
      → (b ≡ true → Rises n p (suc x) rest → x ≤ level) → ((low : ℕ) → Rises n p low rest → eval rest v ≡ eval rest w)
      → eval (term_kept b t rest) v ≡ eval (term_kept b t rest) w
  unfolding eval
  kept_agree t rest true e (more l m c d r) low agree =
      ap₂ (λ (x y : ℕ). t.coefficient * x + y) (same t.signal m (rw e (low refl (rw (← e) r)))) (agree _ r)
  kept_agree t rest false e R low agree = agree _ R

  terms_agree : {least : ℕ} (left : ℕ) (s : List ℕ) → Rises n p least (terms_in left s) → ((k : ℕ) → left ≡ suc k → last_of k s ≤ level)
      → eval (terms_in left s) v ≡ eval (terms_in left s) w
  unfolding terms_in eval
  terms_agree zero s R low = refl
  terms_agree (suc left) s R low =
      kept_agree (term_at s) (terms_in left (drop 6 s)) (leb (u16_at s 0) 256) refl R
      (λ e r. let z = signal_last left s (leb-true (u16_at s 0) 256 e) r in omega (arith, low left refl))
      (λ least r. terms_agree left (drop 6 s) r (λ k e. rw (last_next k s, ← e) (low left refl)))

  form_agree : (s : List ℕ) → Rises n p 0 (form_in s) → last_signal s ≤ level → eval (form_in s) v ≡ eval (form_in s) w
  unfolding form_in last_signal
  form_agree s R low = terms_agree (byte_at s 0) (drop 1 s) R (λ k e. rw (u16_drop 1 s (6 * k)) (below k e))
    where
      below : (k : ℕ) → byte_at s 0 ≡ suc k → u16_at s (1 + 6 * k) ≤ level
      below k e =
          let at : 1 + 6 * byte_at s 0 - 6 ≡ 1 + 6 * k = omega (arith, e) in
          let some : eqb (byte_at s 0) 0 ≡ false = ne_eqb _ _ (λ (z : byte_at s 0 ≡ 0). omega (arith, e)) in
          rw (some, at) at low

-- a constraint holds or not by the signals up to its level
part_agree : {n p : ℕ} (s : List ℕ) → WellFormedConstraint n p (constraint_in s) → (v w : ℕ → ℕ) → AgreeTo n (level_in n s) v w
    → holds p (constraint_in s) v ≡ holds p (constraint_in s) w
unfolding holds constraint_in level_in
part_agree {n} {p} s W v w same =
    let b = after_form s in
    let c = after_form b in
    let level = max (last_signal s) (max (last_signal b) (last_signal c)) in
    let all : AgreeTo n level v w = λ t l h. same t l (omega arith) in
    rw (
      form_agree level v w all s W.rises_a (omega arith),
      form_agree level v w all b W.rises_b (omega arith),
      form_agree level v w all c W.rises_c (omega arith),
    )

pub held_agree : {s table : List ℕ} {z : Sizes} → Sized s z → Offsets s z.m table → (k : ℕ) → 1 ≤ k → k ≤ z.m → (v w : ℕ → ℕ)
    → AgreeTo z.n (level_at s table z.n k) v w → held_at (circuit_of s) v k ≡ held_at (circuit_of s) w k
unfolding held_at level_at
held_agree {s} {table} {z} Z O k l h v w same =
    let is = sized_part Z O k l h in
    rw (← is, ← Z.is_p) (part_agree (part_of s table k) (rw (is, Z.is_n, Z.is_p) (Z.formed.each k)) v w same)

pub level_most : (s table : List ℕ) (n k : ℕ) → level_at s table n k ≤ n
unfolding level_at level_in
level_most s table n k = omega arith

pub level_is : (s table : List ℕ) (n k : ℕ) {part : List ℕ} {x : ℕ} → part ≡ part_of s table k → x ≡ level_in n part → x ≡ level_at s table n k
unfolding level_at
level_is s table n k e f = rw e at f

-- ---- constraints by their level

pub constraints_few : (s : List ℕ) (z : Sizes) → circuit_call s ≡ given z → z.m ≤ 512
constraints_few s z read = let Z : Sized s z = call_sized read in omega (arith, Z.is_m, Z.formed.m_most)

-- the first places have the last constraints of m
pub record Filled (level : ℕ → ℕ) (m i : ℕ) (order : List Leveled) : Type 0 where
  pub sized : length order ≡ m
  pub each : (j : ℕ) (d : Leveled) → j < i → (get_or order j d).level ≡ level (m - j) × ((get_or order j d).constraint ≡ m - j)

pub fill_start : (level : ℕ → ℕ) (m : ℕ) (order : List Leveled) → length order ≡ m → Filled level m 0 order
fill_start level m order e = record { sized = e; each = λ (j : ℕ) (d : Leveled) (l : j < 0). absurd (omega arith) }

pub fill_more : {level : ℕ → ℕ} {m i : ℕ} {order : List Leveled} → Filled level m i order → i < m → {x : ℕ} → x ≡ level (m - i)
    → Filled level m (i + 1) (set order i (record { level = x; constraint = m - i }))
fill_more {level} {m} {i} {order} F low {x} e =
    record { sized = length-set order i _ ∙ F.sized; each = λ j d l. each j d l (ℕ_discrete j i) }
  where
    new : Leveled
    new = record { level = x; constraint = m - i }

    each : (j : ℕ) (d : Leveled) → j < i + 1 → Dec (j ≡ i)
        → (get_or (set order i new) j d).level ≡ level (m - j) × ((get_or (set order i new) j d).constraint ≡ m - j)
    each j d l (yes q) = rw (q, get_or-set_same order i new d (omega (arith, F.sized))) (e, refl)
    each j d l (no q) = rw (get_or-set_other order i j new d q) (F.each j d (omega arith))

-- whether two entries are of one constraint
abbrev alike : Leveled → Leveled → Bool
alike x y = eqb x.constraint y.constraint

-- sorted by their rank they are in order
pub order_sorted : {level : ℕ → ℕ} {m i : ℕ} {order : List Leveled} → Filled level m i order → m ≤ i → m ≤ 512 → (sorted : List Leveled)
    → IsPermutation order sorted → IsNonDecreasingBy rank sorted → Ordered level m sorted
order_sorted {level} {m} {i} {order} F all few sorted moved ranked =
    record {
      sized = length_permutation order sorted moved ∙ F.sized;
      each = leveled;
      rising = λ i j d l h. omega (arith, ranked i j d l h);
      falling = λ i j d l h same.
          let apart = eqb-false _ _ (apart_from_distinct alike sorted i j d distinct l h) in
          omega (arith, ranked i j d (omega arith) h, (leveled j d h).1, apart);
      whole = whole;
    }
  where
    each : All (IsLeveled level m) order
    each j d l =
        let E = F.each j d (omega (arith, F.sized)) in
        (omega (arith, E.1, F.sized), omega (arith, E.1), E.0 ∙ ap level (sym E.1))

    leveled : All (IsLeveled level m) sorted
    leveled = All-permutation (IsLeveled level m) order sorted moved each

    -- no constraint stands twice
    distinct : IsDistinct alike sorted
    distinct =
        IsDistinct-IsPermutation alike (λ x y. nat_eq_equiv.symm x.constraint y.constraint) order sorted moved
        (IsDistinct-from_apart alike order (λ i j d l h.
        ne_eqb _ _ (λ q. omega (arith, q, F.sized, (F.each i d (omega (arith, F.sized))).1, (F.each j d (omega (arith, F.sized))).1))))

    whole : (k : ℕ) → 1 ≤ k → k ≤ m → All (λ x. x.constraint ≢ k) sorted → ⊥
    whole k l h missing =
        let x : Leveled = record { level = 0; constraint = 0 } in
        let none = All-permutation (λ (x : Leveled). x.constraint ≢ k) sorted order (IsPermutation-sym order sorted moved) missing in
        none (m - k) x (omega (arith, F.sized)) ((F.each (m - k) x (omega arith)).1 ∙ omega arith)

-- ---- where the levels begin

-- the test that `partition_point` is lent
pub parted_by : (order : List Leveled) (h i : ℕ) → IsPartitionPoint (λ x. ltb x.level h ≡ true) (λ x. ltb x.level h ≡ false) order i
    → IsPartitionPoint (λ x. x.level < h) (λ x. h ≤ x.level) order i
parted_by order h i parted =
    (λ k d l m. ltb-true (get_or order k d).level h (parted.0 k d l m), λ k d l m. ltb-false (get_or order k d).level h (parted.1 k d l m))
