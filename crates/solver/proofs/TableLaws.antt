-- The rows of all constraints under way, and what they are in the end.
use Prim.Native.Nat.{ℕ, ◌+◌, ◌≤◌}
use mathlib.Core.Path.{◌≡◌, sym, ◌∙◌}
use mathlib.Core.List.{List}
use mathlib.Core.Logic.{inl, ⊎_elim}
use native.Mathlib.Omega.{arith}
use lib.ListN.{length}
use Rattle.circuit.specs.Call.{circuit_of, Sized}
use Rattle.circuit.specs.Offsets.{Offsets}
use Rattle.circuit.specs.declared.reader.Sizes.{Sizes}
use Rattle.laws.proofs.Sum.{by_equal}
use Rattle.rules.specs.Rows.{at, start_of, row_size, Roomy, RowMade}
use Rattle.rules.proofs.RoomLaws.{rows_apart, row_within, row_inside}
use Rattle.rules.specs.Rows.{places}
use Rattle.solver.specs.Links.{AllRows, Owned, Linked, SameOwners, Linkable, Links, Blank, Made, Unlinked}
use Rattle.rules.specs.declared.rows.Entry.{Entry}
use Rattle.solver.specs.declared.links.Link.{Link}

module _ {c table : List ℕ} {z : Sizes} (Z : Sized c z) (O : Offsets c z.m table) {ends₀ : List ℕ} {rows₀ : List Entry} {links₀ : List Link}
    (B : Blank (length c) z.m ends₀ rows₀ links₀) where
  pub making_start : {k : ℕ} → k ≡ 0 → Made (circuit_of c) table k ends₀ rows₀ links₀
  making_start e =
      rw e
      record {
        all = record { each = λ k l m. inl (B.none k) };
        end = λ j l m. absurd (omega arith);
        rest = λ j l. B.none j;
        owner = λ j e l m. absurd (omega arith);
      }

  pub roomy : {ends : List ℕ} {rows : List Entry} → length ends ≡ length ends₀ → length rows ≡ length rows₀ → Roomy (length c) z.m ends rows
  roomy e r = record { ends_room = omega (arith, B.roomy.ends_room); rows_room = omega (arith, B.roomy.rows_room) }

  module _ {k i : ℕ} {ends ends' : List ℕ} {rows rows' : List Entry} {links : List Link} (is_i : i ≡ k + 1) (more : i ≤ z.m) (M : Made (circuit_of c) table k ends rows links)
      (N : RowMade (circuit_of c) table i ends rows ends' rows') where
    pub end_is : at ends' i ≡ start_of table i + row_size (circuit_of c) i
    end_is = N.end (M.rest i (omega arith))

    -- the entries of the row are within the array
    pub row_entries : (start_of table i ≤ at ends' i) × (at ends' i ≤ length links₀)
    row_entries =
        let end = row_inside Z O B.roomy i (omega arith) more in
        (omega (arith, end_is), omega (arith, end_is, end, B.links_room))

    pub made_on : {links' : List Link} → Owned i (start_of table i) (at ends' i) links links'
        → Made (circuit_of c) table i ends' rows' links'
    unfolding row_size
    made_on {links'} P =
        record {
          all = N.all;
          end = λ j l m. by_equal j i (λ e. rw e end_is) (λ d. N.ends_kept j d ∙ M.end j l (omega arith));
          rest = λ j l. N.ends_kept j (λ (e : j ≡ i). omega arith) ∙ M.rest j (omega arith);
          owner = λ j e l m a b.
              by_equal j i (λ q. P.each e (omega (arith, rw q at a)) (omega (arith, rw q at b, end_is)) ∙ sym q)
              (λ d.
              let apart = rows_apart Z O j i l (omega arith) more in
              P.kept e (inl (omega (arith, apart, M.end j l (omega arith), N.ends_kept j d)))
              ∙ M.owner j e l (omega arith) a (omega (arith, N.ends_kept j d)));
        }

  pub linkable : {rows : List Entry} {lasts : List ℕ} {links : List Link} → Unlinked z.n lasts → length rows ≡ length rows₀ → length links ≡ length links₀
      → Linkable (places (length c) z.m) rows lasts links
  linkable U h l =
      record {
        inside = omega (arith, B.roomy.rows_room);
        room = omega (arith, B.roomy.rows_room, B.links_room);
        small = omega (arith, Z.most, Z.is_m, Z.formed.m_most);
        fresh = U.fresh;
      }

  module _ {ends : List ℕ} {rows : List Entry} {links : List Link} (M : Made (circuit_of c) table z.m ends rows links) where
    pub all_rows : AllRows (circuit_of c) table ends rows
    unfolding start_of
    all_rows =
        record {
          row = λ k l m.
              ⊎_elim (λ e. absurd (omega (arith, M.end k l (omega (arith, Z.is_m)), e))) (λ r. r) (M.all.each k l m);
        }

    pub all_links : {lasts lasts₀ : List ℕ} {links' : List Link} → Unlinked z.n lasts₀ → length lasts ≡ length lasts₀
        → length links ≡ length links₀ → Linked rows (places (length c) z.m) lasts links' → SameOwners links links'
        → Links (circuit_of c) (places (length c) z.m) table ends rows lasts links'
    all_links U hl hb L same =
        record {
          linked = L;
          owner = λ k e l m a b. same.owner e ∙ M.owner k e l (omega (arith, Z.is_m)) a b;
          within = λ k l m.
              let h : k ≤ z.m = omega (arith, Z.is_m) in
              omega (arith, M.end k l h, row_within Z O k l h);
          lasts_room = omega (arith, U.lasts_room, Z.is_n);
          links_room = omega (arith, same.sized, B.links_room, B.roomy.rows_room);
        }
