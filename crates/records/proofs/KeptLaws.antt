-- Laws of what is kept of the records before record k: at the start, after one that breaks a constraint, after one that satisfies the circuit.
use Prim.Native.Nat.{ℕ, suc, ◌+◌, ◌%◌, ◌≤◌, ◌<◌}
use mathlib.Core.Path.{◌≡◌, refl, sym, ap, ◌∙◌}
use mathlib.Core.Bool.{Bool, true, false, cond}
use mathlib.Core.List.{List}
use native.Mathlib.Omega.{arith}
use native.Mathlib.Decide.{ℕ_discrete}
use native.Mathlib.Numerals.{add-one}
use native.Mathlib.Nat.{div-add-mod'}
use Rattle.std.proofs.lemmas.Bool.{and_from, and_left, and_right, and_parts, both_ways}
use Rattle.std.proofs.lemmas.List.{get_or-replicate}
use borrow.Author.Tests.{eq-eqb, ne_eqb, eqb-true}
use lib.ListN.{length, get_or, set, replicate, length-set}
use lib.Seq.{get_or-set_same, get_or-set_other}
use Rattle.records.specs.Recorded.{Recorded}
use Rattle.records.specs.declared.recent.Recent.{Recent}
use Rattle.records.specs.Inner.{hash_of, bucket_of, bucket, in_bucket, last_before, with_record, Kept}
use Rattle.records.proofs.LastLaws.{last_here, last_earlier}

-- records fewer than 256 places apart have places of their own
places_apart : (j k : ℕ) → j < k → k < j + 256 → j % 256 ≡ k % 256 → ⊥
places_apart j k l m e = omega (arith, div-add-mod' j 256, div-add-mod' k 256, e)

module _ (R : Recorded) where
  pub in_yes : (x j : ℕ) → R.satisfies j ≡ true → bucket R j ≡ x → in_bucket R x j ≡ true
  unfolding in_bucket
  in_yes x j s e = and_from _ _ s (eq-eqb _ _ e)

  in_broken : (x j : ℕ) → R.satisfies j ≡ false → in_bucket R x j ≡ false
  unfolding in_bucket
  in_broken x j s = and_left _ _ s

  in_other : (x j : ℕ) → (bucket R j ≡ x → ⊥) → in_bucket R x j ≡ false
  unfolding in_bucket
  in_other x j e = and_right _ _ (ne_eqb _ _ e)

  pub in_satisfies : (x j : ℕ) → in_bucket R x j ≡ true → (R.satisfies j ≡ true) × (bucket R j ≡ x)
  unfolding in_bucket
  in_satisfies x j e = let p = and_parts _ _ e in (p.0, eqb-true _ _ p.1)

  pub kept_start : Kept R 1 (record { heads = replicate 256 0; links = replicate 256 0; hashes = replicate 256 0 })
  unfolding in_bucket last_before
  kept_start =
      record {
        wide = refl;
        deep = refl;
        full = refl;
        head = λ x l. get_or-replicate 256 x 0 0 l ∙ sym (none (in_bucket R x 0));
        link = λ j l m. absurd (omega arith);
        hashed = λ j l m. absurd (omega arith);
      }
    where
      none : (b : Bool) → ◌≡◌ {A = ℕ} (cond b 0 0) 0
      none true = refl
      none false = refl

  module _ {k : ℕ} {x : Recent} (K : Kept R k x) where
    -- what holds of a record before k + 1 that satisfies the circuit, if it holds before k, and of k
    before : (P : ℕ → Type 0) → ((j : ℕ) → 1 ≤ j → j < k → k < j + 256 → R.satisfies j ≡ true → P j) → (R.satisfies k ≡ true → P k) → (j : ℕ)
        → 1 ≤ j → j < k + 1 → k + 1 ≤ j + 256 → R.satisfies j ≡ true → P j
    before P h here j l m n t = go (ℕ_discrete j k)
      where
        go : Dec (j ≡ k) → P j
        go (yes same) = rw same (here (rw same at t))
        go (no other) = h j l (omega arith) (omega arith) t

    -- after a record that breaks a constraint
    pub kept_broken : R.satisfies k ≡ false → Kept R (k + 1) x
    kept_broken s =
        record {
          wide = K.wide;
          deep = K.deep;
          full = K.full;
          head = λ y l. K.head y l ∙ sym (last_earlier (in_bucket R y) k (in_broken y k s)) ∙ ap (last_before (in_bucket R y)) (sym (add-one k));
          link = before (λ j. get_or x.links (j % 256) 0 ≡ last_before (in_bucket R (bucket R j)) j)
              (λ j l m n. K.link j l m (omega arith)) (λ t. absurd (both_ways _ s t));
          hashed = before (λ j. get_or x.hashes (j % 256) 0 ≡ hash_of (R.value j) R.i) (λ j l m n. K.hashed j l m (omega arith))
              (λ t. absurd (both_ways _ s t));
        }

    -- after one that satisfies the circuit, with hash h
    module _ (h : ℕ) (satisfied : R.satisfies k ≡ true) (is : h ≡ hash_of (R.value k) R.i) (small : bucket_of h < 256) where
      own : bucket_of h ≡ bucket R k
      own = ap bucket_of is

      head_next : (y : ℕ) → y < 256 → Dec (y ≡ bucket_of h) → get_or (set x.heads (bucket_of h) k) y 0 ≡ last_before (in_bucket R y) (suc k)
      head_next y l (yes same) =
          rw same
          (get_or-set_same x.heads (bucket_of h) k 0 (omega (arith, K.wide))
          ∙ sym (last_here (in_bucket R (bucket_of h)) k (in_yes (bucket_of h) k satisfied (sym own))))
      head_next y l (no other) =
          get_or-set_other x.heads (bucket_of h) y k 0 other
          ∙ K.head y l
          ∙ sym (last_earlier (in_bucket R y) k (in_other y k (λ (e : bucket R k ≡ y). other (sym (own ∙ e)))))

      -- a ring takes the place of record k and keeps those of the records before it
      ring_here : (xs : List ℕ) (y : ℕ) → length xs ≡ 256 → get_or (set xs (k % 256) y) (k % 256) 0 ≡ y
      ring_here xs y e = get_or-set_same xs (k % 256) y 0 (omega (arith, e))

      ring_other : (xs : List ℕ) (y j : ℕ) → j < k → k < j + 256 → get_or (set xs (k % 256) y) (j % 256) 0 ≡ get_or xs (j % 256) 0
      ring_other xs y j l m = get_or-set_other xs (k % 256) (j % 256) y 0 (places_apart j k l m)

      pub kept_next : Kept R (k + 1) (with_record x k h)
      kept_next =
          record {
            wide = length-set x.heads (bucket_of h) k ∙ K.wide;
            deep = length-set x.links (k % 256) _ ∙ K.deep;
            full = length-set x.hashes (k % 256) h ∙ K.full;
            head = λ y l. head_next y l (ℕ_discrete y (bucket_of h)) ∙ ap (last_before (in_bucket R y)) (sym (add-one k));
            link = before (λ j. get_or (set x.links (k % 256) (get_or x.heads (bucket_of h) 0)) (j % 256) 0 ≡ last_before (in_bucket R (bucket R j)) j)
                (λ j l m n t. ring_other x.links _ j m n ∙ K.link j l m (omega arith) t)
                (λ t. ring_here x.links _ K.deep ∙ K.head (bucket_of h) small ∙ ap (λ (y : ℕ). last_before (in_bucket R y) k) own);
            hashed = before (λ j. get_or (set x.hashes (k % 256) h) (j % 256) 0 ≡ hash_of (R.value j) R.i)
                (λ j l m n t. ring_other x.hashes h j m n ∙ K.hashed j l m (omega arith) t)
                (λ t. ring_here x.hashes h K.full ∙ is);
          }
