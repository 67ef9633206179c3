-- From one constraint to the circuit: its part, its row and its key; keys refreshed one after the other, and kept where a signal is marked.
use Prim.Native.Nat.{ℕ, ◌+◌, ◌≤◌, ◌<◌}
use mathlib.Core.Path.{◌≡◌, refl, sym, ap, ◌∙◌}
use mathlib.Core.Bool.{Bool, true, false}
use mathlib.Core.List.{List}
use mathlib.Core.Logic.{◌⊎◌, inl, inr, ⊎_elim}
use native.Mathlib.Omega.{arith}
use lib.ListN.{length, get_or, set, length-set, replicate, get_or-eq_default}
use lib.Seq.{get_or-set_same, get_or-set_other}
use Rattle.std.specs.Prelude.{Option, None, Some}
use Rattle.field.specs.Prime.{Prime}
use Rattle.circuit.specs.Circuit.{Circuit, Constraint, WellFormedConstraint, constraint_at}
use Rattle.circuit.specs.Reader.{constraint_in}
use Rattle.laws.specs.Standing.{add}
use Rattle.laws.specs.Rules.{reduced}
use Rattle.laws.specs.Step.{Digits}
use Rattle.laws.proofs.Sum.{true_or_false, by_equal, by_order}
use Rattle.laws.proofs.Order.{add_other}
use Rattle.rules.proofs.ViewLaws.{get_d_repeated}
use Rattle.circuit.specs.Offsets.{part_of}
use Rattle.circuit.specs.Call.{circuit_of}
use Rattle.circuit.specs.declared.reader.Sizes.{Sizes}
use Rattle.rules.specs.Rows.{entries, involves, signal_on, Row, row_of}
use Rattle.rules.proofs.RowLaws.{row_rising}
use Rattle.rules.specs.Weights.{Ready, Hopeless, Tells, FirstReference}
use Rattle.rules.specs.declared.gathered.Few.{Few}
use Rattle.rules.specs.declared.rows.Entry.{Entry}
use Rattle.rules.proofs.RowDigits.{Tried, tried_start, tried_on, tried_found, tried_none, hopeless_none}
use Rattle.rules.specs.View.{bound_in, mark_in}
use Rattle.rules.specs.Promise.{kind_of}
use Rattle.solver.specs.Kept as was
use Rattle.solver.specs.Kept.{LookedUp}
use Rattle.solver.specs.Links.{Prepared, Forgotten}
use Rattle.solver.specs.Bounds.{no_key, key_in, least_of, place_of, reference_of, Narrow, AllNarrow, with_zeroth}
use Rattle.solver.specs.Marks.{MarksBy, FirstKey, ZeroStep, Loose, Known, MarkKeys, Looked, Swept, Passed, exact}
use Rattle.solver.specs.Marks.{reference_in, found_key, found_reference, known_key, mark_keys, mark_references}
use Rattle.solver.specs.declared.keys.Key.{Key}
use Rattle.solver.specs.declared.keys.Choice.{Choice}
use Rattle.solver.specs.declared.marking.Candidate.{Candidate}
use Rattle.solver.proofs.Choice.{key_small}
use Rattle.solver.proofs.MarkKeyLaws.{known_loose, loose_none, loose_exact, known_kept}
use Rattle.solver.proofs.KeySearch.{constraint_here, row_here, zeroth, nonzeroth, zeroth_kept, least_start, least_new, least_on}

-- What is kept in a list

module _ {C : Circuit} {b : ℕ → ℕ} {q nz : ℕ → Bool} where
  pub no_keys : (size : ℕ) → MarkKeys C b q nz (replicate size None)
  no_keys size = record { each = λ k l o. inl (get_d_repeated size k None) }

  module _ {kept : List (Option (Option Candidate))} (M : MarkKeys C b q nz kept) where
    -- where a signal is marked, keys are forgotten, but for constraints that don't name it, whose keys and references stay
    pub keys_kept : (u : ℕ) → 0 < C.p → {after : List (Option (Option Candidate))} → Forgotten C u kept after → MarkKeys C b (add q u) nz after
    keys_kept u pos {after} G = record { each = each }
      where
        each : (k : ℕ) → 1 ≤ k → k ≤ C.m
            → (get_or after k None ≡ None) ⊎ Known C.p C.n (constraint_at C k) b (add q u) nz (mark_keys after k) (mark_references after k)
        each k l h =
            ⊎_elim inl
            (λ w.
            ⊎_elim (λ e. inl (w.0 ∙ e))
            (λ N.
            inr (rw w.0
            (known_kept C.p C.n (constraint_at C k) b pos
            (λ s a i. sym (add_other q u s (λ z. true_or_false _ i (ap (involves (constraint_at C k)) z ∙ w.1)))) N)))
            (M.each k l h))
            (G.each k l h)

    -- something was known already
    pub looked_kept : (k : ℕ) → 1 ≤ k → k ≤ C.m → (found : Option Candidate) → get_or kept k None ≡ Some found → Looked C b q nz k found kept kept
    looked_kept k l h found e =
        record {
          known = ⊎_elim (λ z. cc) (λ N. rw e at N) (M.each k l h);
          here = e;
          others = λ j d. refl;
          sized = refl;
        }

    -- or is found and stored
    pub looked_by : {Q : Option Candidate → Type 0} (k : ℕ) → 1 ≤ k → k ≤ C.m → k < length kept → (found : Option Candidate)
        → {after : List (Option (Option Candidate))} → LookedUp Q k found kept after
        → (Q found → Known C.p C.n (constraint_at C k) b q nz (found_key found) (found_reference found)) → Looked C b q nz k found kept after
    looked_by k l h room found (was.kept e) new = looked_kept k l h found e
    looked_by k l h room found (was.sought e s) new =
        record {
          known = new s;
          here = get_or-set_same kept k (Some found) None room;
          others = λ j d. get_or-set_other kept k j (Some found) None d;
          sized = length-set kept k (Some found);
        }

    pub looked_keys : {k : ℕ} {found : Option Candidate} {after : List (Option (Option Candidate))} → Looked C b q nz k found kept after → MarkKeys C b q nz after
    looked_keys {k} L =
        record { each = λ j l h. by_equal j k (λ e. inr (rw (e, L.here) L.known)) (λ d. rw (L.others j d) (M.each j l h)) }

  -- once more, since what is known is in range
  pub looked_then : {k : ℕ} {found found' : Option Candidate} {kept after : List (Option (Option Candidate))} → Looked C b q nz k found kept after
      → Known C.p C.n (constraint_at C k) b q nz (found_key found') (found_reference found') → Looked C b q nz k found' kept (set after k (Some found'))
  looked_then {k} {found} {found'} {kept} {after} L N =
      record {
        known = N;
        here = get_or-set_same after k (Some found') None (by_order k (length after) (λ h. h) (λ h. absurd (some_is_none (sym L.here ∙ get_or-eq_default after None h))));
        others = λ j d. get_or-set_other after k j (Some found') None d ∙ L.others j d;
        sized = length-set after k (Some found') ∙ L.sized;
      }
    where
      some_is_none : {A : Type 0} {x : A} → Some x ≡ None → ⊥
      some_is_none e = cc

-- From the part of constraint k to the constraint
module _ {c table ends : List ℕ} {rows : List Entry} {z : Sizes} (D : Prepared c table ends rows z) {k : ℕ} (first : 1 ≤ k) (last : k ≤ z.m)
    {row : List Entry} (is_row : row ≡ row_of table ends rows k) where
  pub known_here : {part : List ℕ} → part ≡ part_of c table k → {b : ℕ → ℕ} {q nz : ℕ → Bool} {key : ℕ} {reference : Option ℕ}
      → ((p n : ℕ) (b : ℕ → ℕ) → 0 < p → WellFormedConstraint n p (constraint_in part) → Row p n (constraint_in part) row
      → Known p n (constraint_in part) b q nz key reference)
      → Known (circuit_of c).p (circuit_of c).n (constraint_at (circuit_of c) k) b q nz key reference
  known_here is-part {b} f =
      let Z = D.sized in
      let same = constraint_here D first last is-part in
      rw (Z.is_p, Z.is_n, same) at
      (f z.p z.n b (omega (arith, Z.is_p, Z.formed.p_least)) (rw (Z.is_p, Z.is_n, same) (Z.formed.each k))
      (row_here D first last is-part is_row))

  -- the entries after the constant's hold signals
  pub entry_some : {i : ℕ} → 1 ≤ i → i < entries row → signal_on row i ≡ 0 → ⊥
  entry_some {i} l h z =
      let L : Row (circuit_of c).p (circuit_of c).n (constraint_at (circuit_of c) k) row
      = rw is_row (D.made.row k first (omega (arith, D.sized.is_m))) in
      omega (arith, row_rising L 0 i l (omega (arith, L.counted)))

  pub first_here : {b : ℕ → ℕ} {q : ℕ → Bool} {r : ℕ}
      → ((n : ℕ) (K : Constraint) → Prime z.p → Row z.p n K row → FirstReference z.p n (reduced z.p K) b q r)
      → FirstReference (circuit_of c).p (circuit_of c).n (reduced (circuit_of c).p (constraint_at (circuit_of c) k)) b q r
  first_here f =
      let Z = D.sized in
      rw (Z.is_p, Z.is_n) at
      (f z.n (constraint_at (circuit_of c) k) (rw Z.is_p Z.formed.prime)
      (rw (Z.is_p, Z.is_n, is_row) (D.made.row k first (omega (arith, Z.is_m)))))

-- The search over the references of a row

-- x tells of entry i whether its signal separates
abbrev pub Told : ℕ → List Entry → List ℕ → List Bool → Few → ℕ → Bool → Type 0
Told p row bounds marks few i x = Ready p row bounds marks few → i < entries row → Tells p row bounds marks i x

-- the references before entry i give no step
pub record Searching (p : ℕ) (row : List Entry) (bounds : List ℕ) (marks : List Bool) (few : Few) (i : ℕ) : Type 0 where
  pub ready : Ready p row bounds marks few
  pub some : 1 ≤ i
  pub tried : Tried p row bounds marks i

pub searching_start : {p : ℕ} {row : List Entry} {bounds : List ℕ} {marks : List Bool} {few : Few} → Ready p row bounds marks few
    → Searching p row bounds marks few 1
searching_start R = record { ready = R; some = omega arith; tried = tried_start _ _ _ _ }

module _ {p : ℕ} {row : List Entry} {bounds : List ℕ} {marks : List Bool} {few : Few} {i : ℕ} (T : Searching p row bounds marks few i) where
  pub searched : entries row ≤ i → (n : ℕ) (K : Constraint) → Prime p → Row p n K row → FirstReference p n (reduced p K) (bound_in p bounds) (mark_in marks) 0
  searched h = tried_none _ _ _ _ _ T.tried h

  -- what is told of entry i
  module _ (more : i < entries row) {x : Bool} (tells : Told p row bounds marks few i x) where
    pub searching_on : x ≡ false → Searching p row bounds marks few (i + 1)
    searching_on e =
        record { ready = T.ready; some = omega arith; tried = tried_on _ _ _ _ _ T.tried more _ (tells T.ready more) e }

    pub found : x ≡ true → (n : ℕ) (K : Constraint) → Prime p → Row p n K row
        → FirstReference p n (reduced p K) (bound_in p bounds) (mark_in marks) (signal_on row i)
    found e = tried_found _ _ _ _ _ T.tried more _ (tells T.ready more) e T.some _ refl

-- The walk over the constraints

-- the lowest step so far, of the zero steps and of the constraints up to k; x is the key of the zero steps
pub record Sweeping (C : Circuit) (b : ℕ → ℕ) (q nz : ℕ → Bool) (x k : ℕ) (lowest : Option Choice) (kept : List (Option (Option Candidate))) : Type 0 where
  pub swept : Swept C b q nz x k (place_of lowest) kept
  pub is_lowest : least_of lowest ≡ with_zeroth x (mark_keys kept) (place_of lowest)
  pub by_one : 1 ≤ place_of lowest → reference_of lowest ≡ reference_in (mark_references kept (place_of lowest))
  pub by_none : place_of lowest ≡ 0 → reference_of lowest ≡ 0
  pub narrow : AllNarrow lowest

all_small : (lowest : Option Choice) → AllNarrow lowest → least_of lowest ≤ no_key
all_small None N = omega arith
all_small (Some choice) N = omega (arith, key_small N)

pub sweeping_start : {C : Circuit} {b : ℕ → ℕ} {q nz : ℕ → Bool} {kept : List (Option (Option Candidate))} {lowest : Option Choice} → MarkKeys C b q nz kept
    → ZeroStep C.n b q lowest → Sweeping C b q nz (least_of lowest) 0 lowest kept
sweeping_start {lowest = lowest} M Z =
    record {
      swept = record { known = M; zeros = Z.first; least = rw Z.place (least_start _); exact = λ l. absurd (omega (arith, Z.place)) };
      is_lowest = rw Z.place (sym (zeroth _ _));
      by_one = λ l. absurd (omega (arith, Z.place));
      by_none = λ z. Z.alone;
      narrow = Z.narrow;
    }

-- constraint i, the next, is looked at
module _ {C : Circuit} {b : ℕ → ℕ} {q nz : ℕ → Bool} {x k : ℕ} {lowest : Option Choice} {kept : List (Option (Option Candidate))}
    (W : Sweeping C b q nz x k lowest kept) {i : ℕ} (is_i : i ≡ k + 1) where
  module _ {found : Option Candidate} {after : List (Option (Option Candidate))} (looks : MarkKeys C b q nz kept → Looked C b q nz i found kept after) where
    R : Looked C b q nz i found kept after
    R = looks W.swept.known

    earlier : (j : ℕ) → j ≤ k → get_or after j None ≡ get_or kept j None
    earlier j h = R.others j (λ (z : j ≡ i). omega arith)

    same : (j : ℕ) → j ≤ k → with_zeroth x (mark_keys after) j ≡ with_zeroth x (mark_keys kept) j
    same = zeroth_kept x (λ j h. ap known_key (earlier j h))

    here : with_zeroth x (mark_keys after) i ≡ found_key found
    here = nonzeroth x (mark_keys after) i (omega arith) ∙ ap known_key R.here

    -- it has no step that is lower
    pub sweeping_on : least_of lowest ≤ found_key found → Sweeping C b q nz x i lowest after
    sweeping_on l =
        let r = place_of lowest in
        let stays = earlier r W.swept.least.within in
        record {
          swept =
              record {
                known = looked_keys W.swept.known R;
                zeros = W.swept.zeros;
                least = least_on is_i W.swept.least W.is_lowest here same l;
                exact = λ h. rw stays (W.swept.exact h);
              };
          is_lowest = W.is_lowest ∙ sym (same r W.swept.least.within);
          by_one = λ h. rw stays (W.by_one h);
          by_none = W.by_none;
          narrow = W.narrow;
        }

    pub sweeping_none : found ≡ None → Sweeping C b q nz x i lowest after
    sweeping_none e = sweeping_on (rw e (all_small lowest W.narrow))

  -- what is kept of it gives none that is lower
  pub sweeping_passed : i ≤ C.m → Passed lowest (get_or kept i None) → Sweeping C b q nz x i lowest kept
  sweeping_passed last p = go (get_or kept i None) refl p
    where
      go : (what : Option (Option Candidate)) → get_or kept i None ≡ what → Passed lowest what → Sweeping C b q nz x i lowest kept
      go None e p = absurd p
      go (Some None) e p = sweeping_none (λ M. looked_kept M i (omega arith) last None e) refl
      go (Some (Some y)) e p = sweeping_on (λ M. looked_kept M i (omega arith) last (Some y) e) p

  module _ {candidate : Candidate} {after : List (Option (Option Candidate))} (looks : MarkKeys C b q nz kept → Looked C b q nz i (Some candidate) kept after) where
    -- it has an exact step, which is lower
    pub sweeping_new : FirstKey (MarksBy C.p C.n (constraint_at C i) b q nz) (found_key (Some candidate)) (reference_in candidate.reference) → {key : Key}
        → key_in key ≡ found_key (Some candidate) → key_in key < least_of lowest → Narrow key → {r : ℕ} → r ≡ reference_in candidate.reference
        → Sweeping C b q nz x i (Some (record { key = key; constraint = i; reference = r })) after
    sweeping_new F e l narrow is_r =
        let here_is = here looks in
        record {
          swept =
              record {
                known = looked_keys W.swept.known (R looks);
                zeros = W.swept.zeros;
                least = least_new is_i W.swept.least W.is_lowest here_is (same looks) (omega (arith, e, l));
                exact = λ h. rw (R looks).here F;
              };
          is_lowest = e ∙ sym here_is;
          by_one = λ h. rw (R looks).here is_r;
          by_none = λ z. absurd (omega arith);
          narrow = narrow;
        }

-- constraint k + 1 has a loose step, which its row makes exact
module _ {c table ends : List ℕ} {rows : List Entry} {z : Sizes} (D : Prepared c table ends rows z) (bounds : List ℕ) (marks : List Bool) {nz : ℕ → Bool} {x k : ℕ}
    {lowest : Option Choice} {kept : List (Option (Option Candidate))} (W : Sweeping (circuit_of c) (bound_in z.p bounds) (mark_in marks) nz x k lowest kept)
    (more : k < z.m) {row : List Entry} (is_row : row ≡ row_of table ends rows (k + 1)) {candidate : Candidate} {after : List (Option (Option Candidate))}
    (looks : MarkKeys (circuit_of c) (bound_in z.p bounds) (mark_in marks) nz kept
    → Looked (circuit_of c) (bound_in z.p bounds) (mark_in marks) nz (k + 1) (Some candidate) kept after)
    (is_loose : (kind_of candidate.kind ≡ Digits) × (candidate.reference ≡ None)) where
  L : Loose (circuit_of c).p (circuit_of c).n (constraint_at (circuit_of c) (k + 1)) (mark_in marks) (found_key (Some candidate))
  L = known_loose _ _ refl is_loose (looks W.swept.known).known

  none_left : ((n : ℕ) (K : Constraint) → Prime z.p → Row z.p n K row → FirstReference z.p n (reduced z.p K) (bound_in z.p bounds) (mark_in marks) 0)
      → Sweeping (circuit_of c) (bound_in z.p bounds) (mark_in marks) nz x (k + 1) lowest (set after (k + 1) (Some None))
  none_left f =
      sweeping_none W refl {found = None}
      (λ M. looked_then (looks M) (exact (loose_none L (first_here D (omega arith) (omega arith) is_row f) refl))) refl

  -- nothing separates its unmarked signals
  pub loose_hopeless : Hopeless z.p row bounds marks
      → Sweeping (circuit_of c) (bound_in z.p bounds) (mark_in marks) nz x (k + 1) lowest (set after (k + 1) (Some None))
  loose_hopeless H = none_left (hopeless_none _ _ _ _ H)

  module _ {few : Few} {i : ℕ} (T : Searching z.p row bounds marks few i) where
    -- none of its references does
    pub loose_tried : entries row ≤ i → Sweeping (circuit_of c) (bound_in z.p bounds) (mark_in marks) nz x (k + 1) lowest (set after (k + 1) (Some None))
    loose_tried h = none_left (searched T h)

    -- the signal of entry i does
    pub loose_found : i < entries row → {t : Bool} → Told z.p row bounds marks few i t → t ≡ true → {key : Key} → key_in key ≡ found_key (Some candidate)
        → key_in key < least_of lowest → Narrow key → {r : ℕ} → r ≡ signal_on row i
        → Sweeping (circuit_of c) (bound_in z.p bounds) (mark_in marks) nz x (k + 1) (Some (record { key = key; constraint = k + 1; reference = r }))
        (set after (k + 1) (Some (Some (record { target = candidate.target; kind = candidate.kind; reference = Some r }))))
    loose_found left tells t {key} e l narrow {r} is_r =
        let F = loose_exact L (first_here D (omega arith) (omega arith) is_row (found T left tells t)) (entry_some D (omega arith) (omega arith) is_row T.some left) in
        sweeping_new W refl (λ M. looked_then (looks M) (exact (rw is_r F))) (rw is_r F) e l narrow refl
