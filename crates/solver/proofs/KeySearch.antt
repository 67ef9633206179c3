-- The keys of all constraints under way: found one after the other, the least kept; and what stays of them where a bound is lowered.
use Prim.Native.Nat.{ℕ, ◌+◌, ◌≤◌, ◌<◌}
use mathlib.Core.Path.{◌≡◌, refl, sym, ap, ◌∙◌}
use mathlib.Core.List.{List}
use mathlib.Core.Logic.{◌⊎◌, inl, inr, ⊎_elim}
use native.Mathlib.Omega.{arith}
use lib.ListN.{length, get_or, length-set, replicate}
use lib.Seq.{get_or-set_same, get_or-set_other}
use borrow.Author.Tests.{ne_eqb}
use Rattle.std.specs.Prelude.{Option, None, Some}
use Rattle.field.specs.Prime.{Prime}
use Rattle.circuit.specs.Circuit.{Circuit, WellFormed, WellFormedConstraint, constraint_at}
use Rattle.circuit.specs.Reader.{constraint_in}
use Rattle.laws.specs.Problem.{given}
use Rattle.laws.specs.Standing.{Standing}
use Rattle.laws.specs.Solver.{best_bound}
use Rattle.solver.specs.Choice.{choice_of}
use Rattle.laws.proofs.Sum.{true_or_false, by_equal, by_order}
use Rattle.rules.proofs.ViewLaws.{get_d_repeated}
use Rattle.rules.specs.Rows.{involves, Row, row_of}
use Rattle.rules.specs.declared.rows.Entry.{Entry}
use Rattle.circuit.specs.Call.{circuit_of}
use Rattle.circuit.specs.Offsets.{part_of}
use Rattle.circuit.specs.declared.reader.Sizes.{Sizes}
use Rattle.circuit.proofs.OffsetLaws.{sized_part}
use Rattle.solver.specs.Links.{Prepared, Forgotten}
use Rattle.solver.specs.Kept as was
use Rattle.solver.specs.Kept.{LookedUp}
use Rattle.solver.specs.Bounds.{no_key, key_in, least_in, known_in, key_at, least_of, place_of, reference_of, Narrow, AllNarrow, Lower, no_step, stays, lowers, with_zeroth, IsKey, Keys, SomeKeys, Found, Least}
use Rattle.solver.specs.declared.keys.Key.{Key}
use Rattle.solver.specs.declared.keys.Choice.{Choice}
use Rattle.solver.proofs.KeyLaws.{key_kept}
use Rattle.solver.proofs.Choice.{least_choice}

-- One constraint

module _ {c table ends : List ℕ} {rows : List Entry} {z : Sizes} (D : Prepared c table ends rows z) {k : ℕ} (first : 1 ≤ k) (last : k ≤ z.m)
    {part : List ℕ} (is-part : part ≡ part_of c table k) where
  pub constraint_here : constraint_in part ≡ constraint_at (circuit_of c) k
  constraint_here = ap constraint_in is-part ∙ sized_part D.sized D.offsets k first last

  pub row_here : {row : List Entry} → row ≡ row_of table ends rows k → Row z.p z.n (constraint_in part) row
  row_here e = rw (constraint_here, D.sized.is_p, D.sized.is_n, e) (D.made.row k first (omega (arith, D.sized.is_m)))

  pub key_here : {row : List Entry} → row ≡ row_of table ends rows k → {b : ℕ → ℕ} {key : ℕ}
      → ((n : ℕ) → Prime z.p → WellFormedConstraint n z.p (constraint_in part) → Row z.p n (constraint_in part) row
      → ((s : ℕ) → b s < z.p) → IsKey z.p n (constraint_in part) b key)
      → ((s : ℕ) → b s < (circuit_of c).p) → IsKey (circuit_of c).p (circuit_of c).n (constraint_at (circuit_of c) k) b key
  key_here e h low =
      let Z = D.sized in
      rw (Z.is_p, Z.is_n, constraint_here) at
      (h z.n (rw Z.is_p Z.formed.prime) (rw (constraint_here, Z.is_p, Z.is_n) (Z.formed.each k)) (row_here e) (rw Z.is_p low))

-- the key was kept, or what is found is that key
pub found_by : {Q : Option Key → Type 0} (C : Circuit) (b : ℕ → ℕ) (k : ℕ) (key : Option Key) {before later : List (Option (Option Key))}
    → LookedUp Q k key before later → k < length before
    → (get_or before k None ≡ None) ⊎ IsKey C.p C.n (constraint_at C k) b (key_at before k)
    → (Q key → IsKey C.p C.n (constraint_at C k) b (least_in key)) → Found C b k key before later
found_by C b k key (was.kept e) h K new =
    record { is_key = ⊎_elim (λ z. cc) (λ I. rw e at I) K; here = e; kept = λ j d. refl; sized = refl }
found_by C b k key {before} (was.sought e q) h K new =
    record {
      is_key = new q;
      here = get_or-set_same before k (Some key) None h;
      kept = λ j d. get_or-set_other before k j (Some key) None d;
      sized = length-set before k (Some key);
    }

-- The least of the keys, one more at a time

pub zeroth : (x : ℕ) (keys : ℕ → ℕ) → with_zeroth x keys 0 ≡ x
unfolding with_zeroth
zeroth x keys = refl

pub nonzeroth : (x : ℕ) (keys : ℕ → ℕ) (k : ℕ) → 1 ≤ k → with_zeroth x keys k ≡ keys k
unfolding with_zeroth
nonzeroth x keys k l = rw (ne_eqb k 0 (λ z. omega arith)) refl

-- where what is kept of the places up to k is the same, so are their keys
pub zeroth_kept : (x : ℕ) {keys later : ℕ → ℕ} {k : ℕ} → ((j : ℕ) → j ≤ k → later j ≡ keys j) → (j : ℕ) → j ≤ k
    → with_zeroth x later j ≡ with_zeroth x keys j
zeroth_kept x {keys} {later} same j h =
    by_equal j 0 (λ z. rw z (zeroth x later ∙ sym (zeroth x keys)))
    (λ d. nonzeroth x later j (omega arith) ∙ same j h ∙ sym (nonzeroth x keys j (omega arith)))

module _ {keys later : ℕ → ℕ} {k i r lowest key : ℕ} (is_i : i ≡ k + 1) (L : Least keys k r) (is_lowest : lowest ≡ keys r) (here : later i ≡ key)
    (kept : (j : ℕ) → j ≤ k → later j ≡ keys j) where
  pub least_new : key < lowest → Least later i i
  least_new l =
      record {
        within = omega arith;
        least = λ j h. by_equal j i (λ q. rw q (omega arith)) (λ d. omega (arith, kept j (omega arith), L.least j (omega arith)));
        first = λ j h. omega (arith, kept j (omega arith), L.least j (omega arith));
      }

  pub least_on : lowest ≤ key → Least later i r
  least_on l =
      record {
        within = omega (arith, L.within);
        least = λ j h.
            by_equal j i (λ q. rw (q, here) (omega (arith, kept r L.within)))
            (λ d. omega (arith, kept r L.within, kept j (omega arith), L.least j (omega arith)));
        first = λ j h. omega (arith, kept r L.within, kept j (omega (arith, L.within)), L.first j h);
      }

pub least_start : (keys : ℕ → ℕ) → Least keys 0 0
least_start keys =
    record {
      within = omega arith;
      least = λ k h. let z : k ≡ 0 = omega arith in rw z (omega arith);
      first = λ k h. absurd (omega arith);
    }

-- The walk

-- the keys of constraints with none at place 0
abbrev pub placed : List (Option (Option Key)) → ℕ → ℕ
placed keys = with_zeroth no_key (key_at keys)

-- the keys of the constraints up to k are known, and that of `lowest` is the least of them
pub record Finding (C : Circuit) (b : ℕ → ℕ) (k : ℕ) (lowest : Option Choice) (keys : List (Option (Option Key)))
    : Type 0 where
  pub few : k ≤ C.m
  pub low : (s : ℕ) → b s < C.p
  pub done : (j : ℕ) → 1 ≤ j → j ≤ k → IsKey C.p C.n (constraint_at C j) b (key_at keys j)
  pub rest : (j : ℕ) → k < j → j ≤ C.m → (get_or keys j None ≡ None) ⊎ IsKey C.p C.n (constraint_at C j) b (key_at keys j)
  pub least : Least (placed keys) k (place_of lowest)
  pub is_lowest : least_of lowest ≡ placed keys (place_of lowest)
  pub small : least_of lowest ≤ no_key
  pub alone : reference_of lowest ≡ 0
  pub narrow : AllNarrow lowest

pub finding_start : {C : Circuit} {b : ℕ → ℕ} {keys : List (Option (Option Key))} {k : ℕ} → k ≡ 0 → SomeKeys C b keys → Finding C b k None keys
finding_start {keys = keys} z K =
    rw z
    record {
      few = omega arith;
      low = K.low;
      done = λ j l h. absurd (omega arith);
      rest = λ j l h. K.each j (omega arith) h;
      least = least_start _;
      is_lowest = sym (zeroth _ _);
      small = omega arith;
      alone = refl;
      narrow = tt;
    }

module _ {C : Circuit} {b : ℕ → ℕ} {k : ℕ} {lowest : Option Choice} {keys : List (Option (Option Key))}
    (F : Finding C b k lowest keys) where
  pub finding_known : SomeKeys C b keys
  finding_known = record { low = F.low; each = λ j l h. by_order k j (λ d. F.rest j d h) (λ d. inr (F.done j l d)) }

  pub finding_end : C.m ≤ k → Keys C b keys × Least (placed keys) C.m (place_of lowest)
  finding_end h =
      let end : k ≡ C.m = omega (arith, F.few) in
      (record { each = λ j l m. F.done j l (omega arith) }, rw end at F.least)

  -- what is lowest at the end is the choice
  pub finding_choice : WellFormed C → C.m ≤ k → (first : ℕ → ℕ) (S : Standing) → S.bound ≡ b
      → choice_of lowest ≡ best_bound (given C first) S
  finding_choice W h first S e =
      let found = finding_end h in
      least_choice W S (placed keys) (zeroth _ _)
      (λ j l m. rw (e, nonzeroth no_key (key_at keys) j l) (found.0.each j l m)) lowest F.narrow found.1 F.is_lowest F.alone first

  module _ {i : ℕ} {key : Option Key} {after : List (Option (Option Key))} (is_i : i ≡ k + 1) (more : i ≤ C.m) (N : Found C b i key keys after) where
    kept : (j : ℕ) → j ≤ k → placed after j ≡ placed keys j
    kept = zeroth_kept no_key (λ j h. ap known_in (N.kept j (λ (z : j ≡ i). omega arith)))

    here : placed after i ≡ least_in key
    here = nonzeroth no_key (key_at after) i (omega arith) ∙ ap known_in N.here

    next : (lowest' : Option Choice) → Least (placed after) i (place_of lowest') → least_of lowest' ≡ placed after (place_of lowest')
        → least_of lowest' ≤ no_key → reference_of lowest' ≡ 0 → AllNarrow lowest' → Finding C b i lowest' after
    next lowest' L e small alone narrow =
        record {
          few = more;
          low = F.low;
          done = λ j l h.
              by_equal j i (λ q. rw (q, N.here) N.is_key) (λ d. rw (N.kept j d) (F.done j l (omega arith)));
          rest = λ j l h. rw (N.kept j (λ (z : j ≡ i). omega arith)) (F.rest j (omega arith) h);
          least = L;
          is_lowest = e;
          small = small;
          alone = alone;
          narrow = narrow;
        }

    finding_new : {x : Key} → key ≡ Some x → Narrow x → key_in x < least_of lowest
        → Finding C b i (Some (record { key = x; constraint = i; reference = 0 })) after
    finding_new {x} e N l =
        let is-here : placed after i ≡ key_in x = here ∙ ap least_in e in
        next (Some (record { key = x; constraint = i; reference = 0 })) (least_new is_i F.least F.is_lowest is-here kept l) (sym is-here)
        (omega (arith, F.small)) refl N

    finding_on : least_of lowest ≤ least_in key → Finding C b i lowest after
    finding_on l =
        next lowest (least_on is_i F.least F.is_lowest here kept l) (F.is_lowest ∙ sym (kept _ F.least.within)) F.small F.alone F.narrow

    pub finding_next : {lowest' : Option Choice} → Lower lowest i key lowest' → Finding C b i lowest' after
    finding_next L = go refl L
      where
        go : {key' : Option Key} {lowest' : Option Choice} → key' ≡ key → Lower lowest i key' lowest' → Finding C b i lowest' after
        go e no_step = finding_on (rw (← e) F.small)
        go e (stays l) = finding_on (rw (← e) l)
        go e (lowers N l) = finding_new (sym e) N l

-- Between turns

-- at the start no key is known
pub no_keys : (C : Circuit) (b : ℕ → ℕ) (n : ℕ) → ((s : ℕ) → b s < C.p) → SomeKeys C b (replicate n None)
no_keys C b n low = record { low = low; each = λ k l h. inl (get_d_repeated n k None) }

-- where the bound of a signal changes, keys are forgotten, but for constraints that don't name the signal, whose keys stay
pub keys_kept : (C : Circuit) → 0 < C.p → (b b' : ℕ → ℕ) (u : ℕ) → ((s : ℕ) → (s ≡ u → ⊥) → b s ≡ b' s) → (before later : List (Option (Option Key)))
    → Keys C b before → Forgotten C u before later → ((s : ℕ) → b' s < C.p) → SomeKeys C b' later
keys_kept C positive b b' u same before later K F low = record { low = low; each = each }
  where
    each : (k : ℕ) → 1 ≤ k → k ≤ C.m → (get_or later k None ≡ None) ⊎ IsKey C.p C.n (constraint_at C k) b' (key_at later k)
    each k l m =
        ⊎_elim inl
        (λ w. inr (rw w.0
        (key_kept C.p C.n (constraint_at C k) b b' positive (λ s h e. same s (λ q. true_or_false _ e (ap (involves (constraint_at C k)) q ∙ w.1)))
        (key_at before k) (K.each k l m))))
        (F.each k l m)
