-- Links between entries: how they are made, and that a walk along them forgets what is kept of each constraint that names a signal.
use Prim.Native.Nat.{ℕ, suc, ◌+◌, ◌-◌, ◌≤◌, ◌<◌}
use mathlib.Core.Path.{◌≡◌, refl, sym, ap, ◌∙◌}
use mathlib.Core.Bool.{true, false}
use mathlib.Core.List.{List}
use mathlib.Core.Logic.{◌⊎◌, inl, inr, ⊎_elim}
use native.Mathlib.Omega.{arith}
use Rattle.std.proofs.Common.{rules}
use Rattle.std.proofs.lemmas.List.{places}
use borrow.Rule.Slice.PartMut.{put_mid}
use lib.ListN.{length, get_or, set, take, drop, length-take, length-set, get_or-eq_default}
use lib.Seq.{get_or-take, get_or-drop, get_or-set_same, get_or-set_other}
use Rattle.std.specs.Prelude.{Option, None}
use Rattle.circuit.specs.Circuit.{constraint_at}
use Rattle.laws.proofs.Sum.{false_by, by_equal, by_order}
use Rattle.rules.specs.Rows as rows
use Rattle.rules.specs.Rows.{at, nothing, rank, signal_on, involves, stands, start_of, row_of}
use Rattle.rules.proofs.Ranks.{rank_below}
use Rattle.rules.proofs.RowLaws.{stands_is}
use Rattle.solver.specs.Links.{Last, Linked, SameOwners, Linkable, Owned, Forgotten, unlinked, before_on, owner_on}
use Rattle.solver.specs.Table.{places_in, circuit_in, row_in}
use Rattle.solver.specs.declared.table.Table.{Table}
use Rattle.rules.specs.declared.rows.Entry.{Entry}
use Rattle.solver.specs.declared.links.Link.{Link}

pub at_past : (list : List ℕ) (i : ℕ) → length list ≤ i → at list i ≡ 0
unfolding at
at_past list i h = get_or-eq_default list 0 h

-- A link written

module _ (links : List Link) (i : ℕ) (x : Link) where
  pub owner_same : i < length links → owner_on (set links i x) i ≡ x.owner
  unfolding owner_on unlinked
  owner_same h = ap (λ (y : Link). y.owner) (get_or-set_same links i x unlinked h)

  pub owner_other : (j : ℕ) → (j ≡ i → ⊥) → owner_on (set links i x) j ≡ owner_on links j
  unfolding owner_on unlinked
  owner_other j d = ap (λ (y : Link). y.owner) (get_or-set_other links i j x unlinked d)

  pub before_same : i < length links → before_on (set links i x) i ≡ x.before
  unfolding before_on unlinked
  before_same h = ap (λ (y : Link). y.before) (get_or-set_same links i x unlinked h)

  pub before_other : (j : ℕ) → (j ≡ i → ⊥) → before_on (set links i x) j ≡ before_on links j
  unfolding before_on unlinked
  before_other j d = ap (λ (y : Link). y.before) (get_or-set_other links i j x unlinked d)

-- Noting rows

-- a part that has been written
module _ {A : Type 0} (start n : ℕ) (all part : List A) (fits : start + n ≤ length all) (sized : length part ≡ n) (i : ℕ) (d : A) where
  part_in : start ≤ i → i < start + n → get_or (put_mid start n all part) i d ≡ get_or part (i - start) d
  part_in l h = search (rules, places)

  part_below : i < start → get_or (put_mid start n all part) i d ≡ get_or all i d
  part_below h = search (rules, places)

  part_above : start + n ≤ i → get_or (put_mid start n all part) i d ≡ get_or all i d
  part_above h = search (rules, places)

pub owned_part : {k start end : ℕ} {links : List Link} (part : List Link) → start ≤ end → end ≤ length links → length part ≡ end - start
    → ((i : ℕ) → i < end - start → owner_on part i ≡ k) → Owned k start end links (put_mid start (end - start) links part)
unfolding owner_on
owned_part {k} {start} {end} {links} part l h sized noted =
    let fits : start + (end - start) ≤ length links = omega arith in
    let owner : Link → ℕ = λ (x : Link). x.owner in
    record {
      each = λ i a b. ap owner (part_in start (end - start) links part fits sized i unlinked a (omega arith)) ∙ noted (i - start) (omega arith);
      kept = λ i g.
          ap owner
          (⊎_elim (part_below start (end - start) links part fits sized i unlinked)
          (λ b. part_above start (end - start) links part fits sized i unlinked (omega arith)) g);
    }

-- Linking

module _ {end : ℕ} {rows : List Entry} {lasts₀ : List ℕ} {links₀ : List Link} (A : Linkable end rows lasts₀ links₀) where
  pub linking_start : Linked rows 0 lasts₀ links₀ × SameOwners links₀ links₀
  linking_start = (
    record {
      last = λ s h. record { before = omega (arith, A.fresh s); holds = λ l. absurd (omega (arith, A.fresh s)); later = λ j a b e. absurd (omega arith) };
      before = λ i h. absurd (omega arith);
      falls = λ i h. absurd (omega arith);
    },
    record { sized = refl; owner = λ i. refl },
  )

  module _ {e : ℕ} {lasts : List ℕ} {links : List Link} (P : Linked rows e lasts links) (O : SameOwners links₀ links) (more : e < end) (s : ℕ)
      (is : s ≡ signal_on rows e) where
    -- the last entry with the signal of entry e
    nearest : at lasts s ≤ e
    nearest = by_order s (length lasts) (λ h. (P.last s h).before) (λ h. omega (arith, at_past lasts s h))

    -- entry e as it is linked
    abbrev linked_entry : Link
    linked_entry = record { before = at lasts s; owner = owner_on links e }

    room : e < length links
    room = omega (arith, A.room, O.sized)

    pub linked_on : {lasts' : List ℕ} → lasts' ≡ set lasts s (e + 1) → Linked rows (e + 1) lasts' (set links e linked_entry)
    unfolding at
    linked_on is_lasts =
        rw is_lasts
        record {
          last = λ u l.
              let l' : u < length lasts = omega (arith, length-set lasts s (e + 1)) in
              by_equal u s (last_here u l') (last_other u l');
          before = λ i l k.
              let k' : signal_on rows i < length lasts = omega (arith, length-set lasts s (e + 1)) in
              by_equal i e
              (λ z.
              let is-s : signal_on rows i ≡ s = ap (signal_on rows) z ∙ sym is in
              rw (is-s, z, before_same links e linked_entry room) (P.last s (rw is-s at k')))
              (λ d. rw (before_other links e linked_entry i d) (P.before i (omega arith) k'));
          falls = λ i l.
              by_equal i e (λ z. rw (z, before_same links e linked_entry room) nearest)
              (λ d. rw (before_other links e linked_entry i d) (P.falls i (omega arith)));
        }
      where
        last_here : (u : ℕ) → u < length lasts → u ≡ s → Last rows u (e + 1) (get_or (set lasts s (e + 1)) u 0)
        last_here u l z =
            rw (ap (λ (v : ℕ). get_or (set lasts s (e + 1)) v 0) z ∙ get_or-set_same lasts s (e + 1) 0 (rw z at l))
            record {
              before = omega arith;
              holds = λ h. let y : e + 1 - 1 ≡ e = omega arith in rw y (sym is ∙ sym z);
              later = λ j a b g. absurd (omega arith);
            }

        last_other : (u : ℕ) → u < length lasts → (u ≡ s → ⊥) → Last rows u (e + 1) (get_or (set lasts s (e + 1)) u 0)
        last_other u l d =
            let X = P.last u l in
            rw (get_or-set_other lasts s u (e + 1) 0 d)
            record {
              before = omega (arith, X.before);
              holds = X.holds;
              later = λ j a b g.
                  by_equal j e (λ y. d (sym g ∙ ap (signal_on rows) y ∙ sym is)) (λ y. X.later j a (omega arith) g);
            }

    pub owners_on : SameOwners links₀ (set links e linked_entry)
    owners_on =
        record {
          sized = length-set links e linked_entry ∙ O.sized;
          owner = λ i.
              by_equal i e (λ z. rw z (owner_same links e linked_entry room) ∙ ap (owner_on links) (sym z) ∙ O.owner i)
              (λ d. owner_other links e linked_entry i d ∙ O.owner i);
        }

-- Forgetting

-- entry i of row k is one of all entries
entry_at : (table ends : List ℕ) (rows : List Entry) (k i : ℕ) → i < length (row_of table ends rows k)
    → (signal_on (row_of table ends rows k) i ≡ signal_on rows (start_of table k + i)) × (start_of table k + i < at ends k)
unfolding row_of signal_on rows.entry_at
entry_at table ends rows k i h =
    let start = start_of table k in
    let size : length (take (at ends k - start) (drop start rows)) ≤ at ends k - start
    = rw (length-take (at ends k - start) (drop start rows)) (omega arith) in (
      ap (λ (x : Entry). x.signal)
          (get_or-take (at ends k - start) (drop start rows) i nothing (omega (arith, size)) ∙ get_or-drop start rows i nothing),
      omega (arith, size),
    )

-- a place that is out of range holds nothing
forgotten_at : {A : Type 0} (kept : List (Option A)) (k : ℕ) → get_or (set kept k None) k None ≡ None
forgotten_at kept k =
    by_order k (length kept) (get_or-set_same kept k None None)
    (λ h. get_or-eq_default (set kept k None) None (omega (arith, length-set kept k None)))

-- the entries from x on that hold s have been walked over
pub record Walked {A : Type 0} (T : Table) (s : ℕ) (before : List (Option A)) (x : ℕ) (after : List (Option A)) : Type 0 where
  pub near : x ≤ places_in T
  pub here : 1 ≤ x → signal_on T.rows.now (x - 1) ≡ s
  pub sized : length after ≡ length before
  pub each : (k : ℕ) → 1 ≤ k → k ≤ (circuit_in T).m → (get_or after k None ≡ None)
      ⊎ ((get_or after k None ≡ get_or before k None)
      × ((e : ℕ) → x ≤ e → e < places_in T → signal_on T.rows.now e ≡ s → owner_on T.links.now e ≡ k → ⊥))

module _ (T : Table) {s : ℕ} (named : (1 ≤ s) × (s ≤ (circuit_in T).n)) where
  -- a constraint none of whose entries holds s doesn't name it
  unnamed : (k : ℕ) → 1 ≤ k → k ≤ (circuit_in T).m → ((e : ℕ) → e < places_in T → signal_on T.rows.now e ≡ s → owner_on T.links.now e ≡ k → ⊥) → involves (constraint_at (circuit_in T) k) s ≡ false
  unnamed k a b none =
      false_by _
      (λ i.
      let K = constraint_at (circuit_in T) k in
      let here : stands K s ≡ true = stands_is K s named.0 ∙ i in
      let W = T.made.row k a b in
      let inside : rank (stands K) s < length (row_in T k)
      = omega (arith, W.counted, rank_below (stands K) s (suc (circuit_in T).n) (omega arith) here) in
      let E = entry_at T.constraints.now.offsets T.ends.now T.rows.now k (rank (stands K) s) inside in
      none (start_of T.constraints.now.offsets k + rank (stands K) s) (omega (arith, E.1, T.linked.within k a b)) (sym E.0 ∙ W.signal s named.1 here)
      (T.linked.owner k _ a b (omega arith) (omega (arith, E.1))))

  module _ {A : Type 0} {before : List (Option A)} where
    pub walked_start : {x : ℕ} → x ≡ at T.lasts.now s → Walked T s before x before
    walked_start is =
        let X = T.linked.linked.last s (omega (arith, T.linked.lasts_room)) in
        rw is record { near = X.before; here = X.holds; sized = refl; each = λ k l m. inr (refl, λ e a b g h. X.later e a b g) }

    pub walked_end : {x : ℕ} {after : List (Option A)} → Walked T s before x after → x ≤ 0 → Forgotten (circuit_in T) s before after
    walked_end W h =
        record {
          sized = W.sized;
          each = λ k a b. ⊎_elim inl (λ w. inr (w.0, unnamed k a b (λ e i q o. w.1 e (omega arith) i q o))) (W.each k a b);
        }

    -- one entry back
    pub walked_on : {x : ℕ} {after : List (Option A)} → Walked T s before x after → 0 < x → (k : ℕ) → k ≡ owner_on T.links.now (x - 1)
        → (y : ℕ) → y ≡ before_on T.links.now (x - 1) → {after' : List (Option A)} → after' ≡ set after k None → Walked T s before y after'
    walked_on {x} {after} W some k is-k y is_y is_after =
        rw (is_y, is_after)
        record {
          near = omega (arith, B.before, W.near);
          here = B.holds;
          sized = length-set after k None ∙ W.sized;
          each = λ j l m. by_equal j k (λ z. inl (rw (sym z) (forgotten_at after j))) (each j l m);
        }
      where
        B : Last T.rows.now s (x - 1) (before_on T.links.now (x - 1))
        B =
            let holds = W.here (omega arith) in
            rw (← holds) (T.linked.linked.before (x - 1) (omega (arith, W.near)) (rw holds (omega (arith, T.linked.lasts_room))))

        each : (j : ℕ) → 1 ≤ j → j ≤ (circuit_in T).m → (j ≡ k → ⊥) → (get_or (set after k None) j None ≡ None)
            ⊎ ((get_or (set after k None) j None ≡ get_or before j None)
            × ((i : ℕ) → before_on T.links.now (x - 1) ≤ i → i < places_in T → signal_on T.rows.now i ≡ s → owner_on T.links.now i ≡ j → ⊥))
        each j l m d =
            ⊎_elim (λ z. inl (get_or-set_other after k j None None d ∙ z))
            (λ w.
            inr (
              get_or-set_other after k j None None d ∙ w.0,
              λ i a b g h.
                  by_equal i (x - 1) (λ z. d (sym h ∙ ap (owner_on T.links.now) z ∙ sym is-k))
                  (λ z. by_order i x (λ p. B.later i a (omega arith) g) (λ p. w.1 i p b g h)),
            ))
            (W.each j l m)

    pub walked_falls : {x : ℕ} {after : List (Option A)} → Walked T s before x after → 0 < x → (y : ℕ) → y ≡ before_on T.links.now (x - 1) → y < x
    walked_falls {x} W some y is_y = omega (arith, T.linked.linked.falls (x - 1) (omega (arith, W.near)), is_y)

    pub walked_inside : {x : ℕ} {after : List (Option A)} → Walked T s before x after → 0 < x → x - 1 < length T.links.now
    walked_inside W some = omega (arith, W.near, T.linked.links_room)
