-- Laws of the search: a step to the next candidate passes over no solution, each step rises, and what a search has found when it ends.
use Prim.Native.Nat.{ℕ, zero, suc, ◌+◌, ◌*◌, ◌-◌, ◌^◌, ◌≤◌, ◌<◌}
use mathlib.Core.Path.{◌≡◌, refl, sym, ap, subst, ◌∙◌}
use mathlib.Core.Logic.{◌⊎◌, inl, inr, ⊎_elim}
use mathlib.Core.Bool.{Bool, true, false}
use mathlib.Core.List.{List}
use native.Mathlib.Decide.{dec_le, dec_lt, ℕ_discrete}
use native.Mathlib.Nat.{mul-le-mul_right, pow-zero, pow-suc}
use native.Mathlib.Omega.{arith}
use lib.ListN.{length, get_or, take, drop, length-drop}
use lib.Seq.{get_or-drop, take_all}
use Rattle.circuit.specs.Circuit.{Circuit, constraint_at}
use Rattle.circuit.specs.Reader.{constraint_in}
use Rattle.circuit.specs.Run.{holds}
use Rattle.circuit.specs.Call.{circuit_of, Sized}
use Rattle.circuit.specs.Offsets.{Offsets, part_of}
use Rattle.circuit.specs.declared.reader.Sizes.{Sizes}
use Rattle.circuit.proofs.OffsetLaws.{sized_part}
use Rattle.std.proofs.lemmas.List.{get_or_default}
use Rattle.laws.proofs.Sum.{true_or_false, true_by}
use Rattle.runs.specs.Order.{Before}
use Rattle.std.specs.Prelude.{Option, None, Some}
use Rattle.std.specs.List.{AllWithin}
use Rattle.runs.specs.declared.levels.Leveled.{Leveled}
use Rattle.runs.specs.Inner.{level_at, Ordered, Starts, Candidate, Rose, Ended, held_at, Checked, Solution, Sought}
use Rattle.runs.proofs.Orders.{before_trans}
use Rattle.runs.proofs.LevelLaws.{held_agree, level_most}

-- ---- one step

-- u is nowhere above v from signal s to h and agrees below s: it comes before v, or agrees up to h
climb : {u v : ℕ → ℕ} (left s h : ℕ) → s + left ≡ suc h → ((t : ℕ) → t < s → u t ≡ v t) → ((t : ℕ) → s ≤ t → t ≤ h → u t ≤ v t)
    → Before u v ⊎ ((t : ℕ) → t ≤ h → u t ≡ v t)
climb zero s h e same most = inr (λ t l. same t (omega arith))
climb {u} {v} (suc left) s h e same most =
    go (dec_lt (u s) (v s)) (λ further. climb left (suc s) h (omega arith) further (λ t m g. most t (omega arith) g))
  where
    further : (u s < v s → ⊥) → (t : ℕ) → t < suc s → Dec (t ≡ s) → u t ≡ v t
    further l t m (yes q) = rw q (let z = most s (omega arith) (omega arith) in omega arith)
    further l t m (no q) = same t (omega arith)

    go : Dec (u s < v s) → (((t : ℕ) → t < suc s → u t ≡ v t) → Before u v ⊎ ((t : ℕ) → t ≤ h → u t ≡ v t))
        → Before u v ⊎ ((t : ℕ) → t ≤ h → u t ≡ v t)
    go (yes l) on = inl (record { at = s; same = same; less = l })
    go (no l) on = on (λ t m. further l t m (ℕ_discrete t s))

-- the same of a candidate u where the signals of v after j have their last value
capped : {p n h : ℕ} {u v : ℕ → ℕ} (j : ℕ) → j ≤ h → ((t : ℕ) → j < t → t ≤ h → p ≤ v t + 1) → Candidate p n u
    → (((t : ℕ) → t ≤ h → u t ≡ v t) → ⊥) → ((t : ℕ) → t < j → u t ≡ v t) → u j ≤ v j → h ≤ n → Before u v
capped {p} {h = h} {u = u} {v = v} j most top is-u differ same below low =
    ⊎_elim (λ b. b) (λ all. absurd (differ all)) (climb (suc h - j) j h (omega arith) same (λ t l m. go t m (ℕ_discrete t j) l))
  where
    go : (t : ℕ) → t ≤ h → Dec (t ≡ j) → j ≤ t → u t ≤ v t
    go t m (yes e) l = rw e below
    go t m (no d) l = let y = is-u.below t (omega arith) (omega arith) in omega (arith, top t (omega arith) m)

module _ {p n h : ℕ} {v w : ℕ → ℕ} {j : ℕ} (R : Rose p n h v w j) (is_v : Candidate p n v) (low : h ≤ n) where
  pub rose_before : Before v w
  rose_before = record { at = j; same = λ s l. sym (R.same s l); less = omega (arith, R.risen) }

  pub rose_candidate : Candidate p n w
  rose_candidate =
      record {
        constant = R.constant ∙ is_v.constant;
        below = λ s l m. below s l m (dec_lt s j) (ℕ_discrete s j);
        past = λ s l. R.past s l ∙ is_v.past s l;
      }
    where
      below : (s : ℕ) → 1 ≤ s → s ≤ n → Dec (s < j) → Dec (s ≡ j) → w s < p
      below s l m (yes q) d = omega (arith, R.same s q, is_v.below s l m)
      below s l m (no q) (yes d) = rw d R.room
      below s l m (no q) (no d) = omega (arith, R.zeros s (omega arith) m, is_v.below s l m)

  -- nothing that differs from v up to h is passed over
  pub skipped : {u : ℕ → ℕ} → Candidate p n u → (((t : ℕ) → t ≤ h → u t ≡ v t) → ⊥) → Before u w → Before u v
  skipped {u} is-u differ B = go (dec_lt B.at j) (ℕ_discrete B.at j) (dec_le B.at n)
    where
      go : Dec (B.at < j) → Dec (B.at ≡ j) → Dec (B.at ≤ n) → Before u v
      go (yes l) d m =
          record { at = B.at; same = λ s g. B.same s g ∙ R.same s (omega arith); less = omega (arith, B.less, R.same B.at l) }
      go (no l) (yes e) m =
          capped j R.most (λ t l g. R.top t l g (omega arith)) is-u differ (λ t g. B.same t (omega arith) ∙ R.same t g)
          (let z : u j < w j = rw e at B.less in omega (arith, R.risen)) low
      go (no l) (no e) (yes m) = absurd (omega (arith, B.less, R.zeros B.at (omega arith) m))
      go (no l) (no e) (no m) = absurd (omega (arith, B.less, R.past B.at (omega arith), is_v.past B.at (omega arith)))

-- where none of the first h signals can rise, what differs from v up to h comes before it
pub exhausted : {p n h : ℕ} {v w : ℕ → ℕ} → Ended p n h v w → Candidate p n v → h ≤ n
    → {u : ℕ → ℕ} → Candidate p n u → (((t : ℕ) → t ≤ h → u t ≡ v t) → ⊥) → Before u v
exhausted E is_v low is-u differ =
    capped 0 (omega arith) (λ t l g. E.top t (omega arith) g (omega arith)) is-u differ (λ (t : ℕ) (l : t < 0). absurd (omega arith))
    (omega (arith, is-u.constant, is_v.constant)) low

-- ---- candidates are counted up

-- the number whose digits in base p are the first n values
unfoldable pub number_of : ℕ → (ℕ → ℕ) → ℕ → ℕ
number_of p v zero = 0
number_of p v (suc n) = number_of p v n * p + v (suc n)

module _ (p : ℕ) (v : ℕ → ℕ) where
  number_below : (n : ℕ) → ((s : ℕ) → 1 ≤ s → s ≤ n → v s < p) → number_of p v n < p ^ n
  unfolding number_of
  number_below zero h = omega (arith, pow-zero p)
  number_below (suc n) h =
      let less : suc (number_of p v n) * p ≤ p ^ n * p = mul-le-mul_right p (number_below n (λ s l m. h s l (omega arith))) in
      omega (arith, less, h (suc n) (omega arith) (omega arith), pow-suc p n)

  module _ (w : ℕ → ℕ) (j : ℕ) (same : (s : ℕ) → s < j → v s ≡ w s) where
    number_same : (k : ℕ) → k < j → number_of p v k ≡ number_of p w k
    unfolding number_of
    number_same zero l = refl
    number_same (suc k) l = rw (number_same k (omega arith), same (suc k) l)

    number_rises : v j < w j → (k : ℕ) → 1 ≤ j → j ≤ k → ((s : ℕ) → 1 ≤ s → s ≤ k → v s < p) → number_of p v k < number_of p w k
    unfolding number_of
    number_rises less zero some l h = absurd (omega arith)
    number_rises less (suc k) some l h = go (ℕ_discrete j (suc k)) (λ m. number_rises less k some m (λ s a b. h s a (omega arith)))
      where
        go : Dec (j ≡ suc k) → (j ≤ k → number_of p v k < number_of p w k) → number_of p v (suc k) < number_of p w (suc k)
        go (yes e) before =
            let digit : v (suc k) < w (suc k) = rw e at less in omega (arith, ap (λ (x : ℕ). x * p) (number_same k (omega arith)))
        go (no d) before =
            let more : suc (number_of p v k) * p ≤ number_of p w k * p = mul-le-mul_right p (before (omega arith)) in
            omega (arith, more, h (suc k) (omega arith) (omega arith))

-- how many candidates are left, that with the values v among them
unfoldable pub left_from : ℕ → ℕ → (ℕ → ℕ) → ℕ
left_from p n v = p ^ n - number_of p v n

pub rose_fewer : {p n h : ℕ} {v w : ℕ → ℕ} {j : ℕ} → Rose p n h v w j → Candidate p n v → h ≤ n → left_from p n w < left_from p n v
unfolding left_from
rose_fewer {p} {n} {v = v} {w = w} {j = j} R is_v low =
    let rises = number_rises p v w j (λ s l. sym (R.same s l)) (omega (arith, R.risen)) n R.least R.within is_v.below in
    omega (arith, rises, number_below p w n (rose_candidate R is_v low).below)

-- ---- the search, on a circuit that isn't refused

-- no solution from the candidate `from` on was passed over, and h is the lowest level that v breaks, if it breaks one
pub record Searching (C : Circuit) (level : ℕ → ℕ) (from v : ℕ → ℕ) (h : Option ℕ) : Type 0 where
  pub candidate : Candidate C.p C.n v
  pub onward : (u : ℕ → ℕ) → Before u from → Before u v
  pub passed : (u : ℕ → ℕ) → Solution C u → Before u v → Before u from
  pub checked : Checked C level v 0 h

-- whether constraint k holds, by the code
pub held_by : {s table : List ℕ} {z : Sizes} → Sized s z → Offsets s z.m table → (v : ℕ → ℕ) (k : ℕ) → 1 ≤ k → k ≤ z.m → {part : List ℕ} {b : Bool}
    → part ≡ part_of s table k → b ≡ holds z.p (constraint_in part) v → held_at (circuit_of s) v k ≡ b
unfolding held_at
held_by {s} {table} Z O v k l h e f =
    let is : constraint_in (part_of s table k) ≡ constraint_at (circuit_of s) k = sized_part Z O k l h in
    sym (f ∙ rw (e, is, Z.is_p))

-- the constraints from one place on, below another, hold
abbrev pub HeldWithin : Circuit → (ℕ → ℕ) → List Leveled → ℕ → ℕ → Type 0
HeldWithin C v order start end = AllWithin (λ x. held_at C v x.constraint ≡ true) order start end

-- the constraints from a level on, by rising level
module _ (C : Circuit) {level : ℕ → ℕ} {order : List Leveled} (A : Ordered level C.m order) {starts : List ℕ} (B : Starts order starts)
    (v : ℕ → ℕ) (from : ℕ) (low : from ≤ 10) where
  abbrev start : ℕ
  start = get_or starts from 0

  -- those up to place i hold
  abbrev HeldTo : ℕ → Type 0
  HeldTo i = HeldWithin C v order start i

  -- so does one of a level that no later one has
  held_before : (i : ℕ) → HeldTo i → (k : ℕ) → 1 ≤ k → k ≤ C.m → from ≤ level k
      → ((j : ℕ) (d : Leveled) → i ≤ j → j < length order → (get_or order j d).level ≡ level k → ⊥) → held_at C v k ≡ true
  held_before i H k l m a later = true_by (held_at C v k) (λ broken. A.whole k l m (λ j d inside q. at broken j d inside q (dec_lt j start) (dec_lt j i)))
    where
      at : held_at C v k ≡ false → (j : ℕ) (d : Leveled) → j < length order → (get_or order j d).constraint ≡ k → Dec (j < start) → Dec (j < i) → ⊥
      at broken j d inside q (yes b) c =
          let is : (get_or order j d).level ≡ level k = (A.each j d inside).2 ∙ ap level q in
          omega (arith, (B.each from low).parted.0 j d (omega arith) b)
      at broken j d inside q (no b) (yes c) =
          true_or_false (held_at C v k) (ap (held_at C v) (sym q) ∙ H j d (omega arith) c) broken
      at broken j d inside q (no b) (no c) = later j d (omega arith) inside ((A.each j d inside).2 ∙ ap level q)

  pub checked_none : HeldTo (length order) → Checked C level v from None
  checked_none H k l m a =
      held_before (length order) H k l m a
      (λ (j : ℕ) (d : Leveled) (x : length order ≤ j) (y : j < length order) (q : (get_or order j d).level ≡ level k). absurd (omega arith))

  pub checked_some : (i : ℕ) (d : Leveled) → start ≤ i → i < length order → HeldTo i → held_at C v (get_or order i d).constraint ≡ false
      → Checked C level v from (Some (get_or order i d).level)
  checked_some i d l inside H broken =
      record {
        least = (B.each from low).parted.1 i d l inside;
        all = λ k x m a b. held_before i H k x m a
            (λ j e g y q. let same = ap (λ (x : Leveled). x.level) (get_or_default order i d e inside) in omega (arith, A.rising i j e g y));
        some = record {
          at = (get_or order i d).constraint;
          least = (A.each i d inside).0;
          most = (A.each i d inside).1;
          is_level = sym (A.each i d inside).2;
          broken = broken;
        };
      }

-- the same as the code goes through them
module _ {s table : List ℕ} {z : Sizes} (Z : Sized s z) (O : Offsets s z.m table) (order : List Leveled) (starts : List ℕ)
    (A : Ordered (level_at s table z.n) z.m order) (B : Starts order starts) (v : ℕ → ℕ) (from : ℕ) (low : from ≤ z.n) (few : z.n ≤ 10) where
  abbrev begin : ℕ
  begin = get_or starts from 0

  abbrev items : List Leveled
  items = take (length order - begin) (drop begin order)

  items_are : items ≡ drop begin order
  items_are = take_all (length order - begin) (drop begin order) (omega (arith, length-drop begin order))

  items_long : length items ≡ z.m - begin
  items_long = ap length items_are ∙ length-drop begin order ∙ ap (λ (k : ℕ). k - begin) A.sized

  item_at : (i : ℕ) (d : Leveled) → get_or items i d ≡ get_or order (begin + i) d
  item_at i d = ap (λ (xs : List Leveled). get_or xs i d) items_are ∙ get_or-drop begin order i d

  ordered : Ordered (level_at s table z.n) (circuit_of s).m order
  ordered = subst (λ (m : ℕ). Ordered (level_at s table z.n) m order) Z.is_m A

  -- whether a constraint holds, by the code
  abbrev holding : Leveled → Bool
  holding x = holds z.p (constraint_in (part_of s table x.constraint)) v

  held_here : (i : ℕ) (d : Leveled) → i < length items → {b : Bool} → holding (get_or items i d) ≡ b
      → held_at (circuit_of s) v (get_or order (begin + i) d).constraint ≡ b
  held_here i d inside e =
      let within : begin + i < length order = omega (arith, items_long, A.sized) in
      let x = A.each (begin + i) d within in
      held_by Z O v (get_or order (begin + i) d).constraint x.0 x.1 refl (sym (rw (item_at i d) at e))

  held_to : (i : ℕ) (d : Leveled) → i ≤ length items → ((k : ℕ) → k < i → holding (get_or items k d) ≡ true)
      → HeldWithin (circuit_of s) v order begin (begin + i)
  held_to i d inside h k g l m =
      let is : begin + (k - begin) ≡ k = omega arith in
      let held = held_here (k - begin) d (omega arith) (h (k - begin) (omega arith)) in
      rw (get_or_default order k g d (omega (arith, items_long, A.sized))) (rw is at held)

  pub broken_here : (i : ℕ) (d x : Leveled) → i < length items → get_or items i d ≡ x → holding x ≡ false
      → ((k : ℕ) → k < i → holding (get_or items k d) ≡ true) → Checked (circuit_of s) (level_at s table z.n) v from (Some x.level)
  broken_here i d x inside is e h =
      rw (sym is, item_at i d)
      (checked_some (circuit_of s) ordered B v from (omega arith) (begin + i) d (omega arith) (omega (arith, items_long, A.sized))
      (held_to i d (omega arith) h) (held_here i d inside (rw is e)))

  pub broken_nowhere : (d : Leveled) → ((k : ℕ) → k < length items → holding (get_or items k d) ≡ true)
      → Checked (circuit_of s) (level_at s table z.n) v from None
  broken_nowhere d h =
      checked_none (circuit_of s) ordered B v from (omega arith)
      (λ k g l m. held_to (length items) d (omega arith) h k g l (omega (arith, items_long, A.sized, (B.each from (omega arith)).inside)))

-- the candidates
module _ {s table : List ℕ} {z : Sizes} (Z : Sized s z) (O : Offsets s z.m table) (from : ℕ → ℕ) where
  abbrev C : Circuit
  C = circuit_of s

  abbrev level : ℕ → ℕ
  level = level_at s table z.n

  pub search_start : {h : Option ℕ} → Candidate z.p z.n from → Checked C level from 0 h → Searching C level from from h
  search_start is K = record { candidate = rw (← Z.is_p, ← Z.is_n) is; onward = λ u b. b; passed = λ u S b. b; checked = K }

  pub search_candidate : {v : ℕ → ℕ} {h : Option ℕ} → Searching C level from v h → Candidate z.p z.n v
  search_candidate S = rw (Z.is_p, Z.is_n) S.candidate

  module _ {v : ℕ → ℕ} {h : ℕ} (S : Searching C level from v (Some h)) where
    is_v : Candidate z.p z.n v
    is_v = search_candidate S

    pub search_low : h ≤ z.n
    search_low = omega (arith, S.checked.some.is_level, level_most s table z.n S.checked.some.at)

    -- a solution differs from v up to the level of a constraint that v breaks
    differs : (u : ℕ → ℕ) → Solution C u → ((t : ℕ) → t ≤ h → u t ≡ v t) → ⊥
    differs u X same =
        let B = S.checked.some in
        let agree = held_agree Z O B.at B.least (omega (arith, B.most, Z.is_m)) u v (λ t l m. same t (omega (arith, B.is_level))) in
        true_or_false (held_at C v B.at) (sym agree ∙ X.holds B.at B.least B.most) B.broken

    solution_candidate : (u : ℕ → ℕ) → Solution C u → Candidate z.p z.n u
    solution_candidate u X = rw (Z.is_p, Z.is_n) X.candidate

    pub search_ended : {w : ℕ → ℕ} → Ended z.p z.n h v w → Sought C from w false
    search_ended {w = w} E =
        record {
          reached = λ e. true_or_false false e refl;
          no_more = λ e u X. S.passed u X (exhausted E is_v search_low (solution_candidate u X) (differs u X));
          zeros = λ e. (E.constant ∙ is_v.constant, λ s l. at s l (dec_le s z.n));
        }
      where
        at : (s : ℕ) → 1 ≤ s → Dec (s ≤ z.n) → w s ≡ 0
        at s l (yes m) = E.zeros s l m
        at s l (no m) = E.past s (omega arith) ∙ is_v.past s (omega arith)

    module _ {w : ℕ → ℕ} {j : ℕ} (R : Rose z.p z.n h v w j) where
      pub search_fewer : left_from z.p z.n w < left_from z.p z.n v
      search_fewer = rose_fewer R is_v search_low

      pub search_next : Candidate z.p z.n w
      search_next = rose_candidate R is_v search_low

      pub search_again : {i : Option ℕ} → Checked C level w j i → Searching C level from w i
      search_again {i} K =
          record {
            candidate = rw (← Z.is_p, ← Z.is_n) (rose_candidate R is_v search_low);
            onward = λ u b. before_trans (S.onward u b) (rose_before R is_v search_low);
            passed = λ u X b. S.passed u X (skipped R is_v search_low (solution_candidate u X) (differs u X) b);
            checked = from_start i K;
          }
        where
          -- what lies below the signal that rose holds as before
          below : (k : ℕ) → 1 ≤ k → k ≤ C.m → level k < j → held_at C w k ≡ true
          below k l m a =
              held_agree Z O k l (omega (arith, Z.is_m)) w v (λ t c d. R.same t (omega arith))
              ∙ S.checked.all k l m (omega arith) (omega (arith, R.most))

          from_start : (i : Option ℕ) → Checked C level w j i → Checked C level w 0 i
          from_start None K = λ k l m a. elim (dec_le j (level k)) [ yes b ↦ K k l m b | no b ↦ below k l m (omega arith) ]
          from_start (Some i) K =
              record {
                least = omega arith;
                all = λ k l m a b. elim (dec_le j (level k)) [ yes c ↦ K.all k l m c b | no c ↦ below k l m (omega arith) ];
                some = K.some;
              }

  pub search_found : {v : ℕ → ℕ} → Searching C level from v None → Sought C from v true
  search_found S =
      record {
        reached = λ e.
            record {
              solution = record { candidate = S.candidate; holds = λ k l m. S.checked k l m (omega arith) };
              onward = S.onward;
              passed = S.passed;
            };
        no_more = λ e. true_or_false true refl e;
        zeros = λ e. true_or_false true refl e;
      }
