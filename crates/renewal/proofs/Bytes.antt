-- A derivation's bytes are those of its steps: each step stands in the file as it would be written, and so does the whole.
use Prim.Native.Nat.{ℕ, zero, suc, ◌+◌, ◌*◌, ◌/◌, ◌%◌, ◌≤◌, ◌<◌}
use mathlib.Core.Path.{◌≡◌, refl, sym, ap, ◌∙◌}
use mathlib.Core.Bool.{Bool, true, false, cond, ◌&&◌}
use mathlib.Core.List.{List, [], ◌∷◌, ◌++◌}
use mathlib.Core.Option.{Option, none, some}
use native.Mathlib.Nat.{div-add-mod', mod-lt}
use native.Mathlib.Omega.{arith}
use borrow.Author.Tests.{eqb-true}
use lib.Dec.{eqb}
use lib.ListN.{length, take, drop, drop_of_length-le}
use lib.Seq.{drop-cons, take-append_seam}
use Rattle.circuit.specs.Bytes.{byte_at, u16_at, low, high}
use Rattle.circuit.specs.Reader.{has_mark}
use Rattle.laws.specs.Step.{Kind, kinds, kind_number, Step}
use Rattle.laws.proofs.Sum.{and_left, and_right}
use Rattle.derivation.specs.Steps.{numbered, kind_of, of_kind, step_start, step_at, read_step, steps_from, steps_of}
use Rattle.derivation.specs.Encoded.{step_bytes, steps_bytes, header_bytes, encoded}
use Rattle.derivation.specs.Exact.{Framed}
use Rattle.derivation.proofs.Walks.{step_known, steps_known}
use Rattle.renewal.specs.Inner.{Bytes}

-- One number

low_is : (a b : ℕ) → a < 256 → (a + 256 * b) % 256 ≡ a
low_is a b h = omega (arith, div-add-mod' (a + 256 * b) 256, mod-lt (a + 256 * b) {m = 256} (omega arith))

high_is : (a b : ℕ) → a < 256 → (a + 256 * b) / 256 ≡ b
high_is a b h = omega (arith, div-add-mod' (a + 256 * b) 256, mod-lt (a + 256 * b) {m = 256} (omega arith))

-- a kind that is found has the number that was looked for
numbered_is : (qs : List Kind) (x : ℕ) (q : Kind) → numbered qs x ≡ some q → x ≡ kind_number q
unfolding numbered
numbered_is [] x q e = let z : ◌≡◌ {A = ℕ} 0 1 = cc in absurd (omega arith)
numbered_is (r ∷ qs) x q e = go (eqb x (kind_number r)) refl e (numbered_is qs x q)
  where
    go : (b : Bool) → eqb x (kind_number r) ≡ b → cond b (some r) (numbered qs x) ≡ some q → (numbered qs x ≡ some q → x ≡ kind_number q) → x ≡ kind_number q
    go true i e rest = let same : r ≡ q = cc in eqb-true _ _ i ∙ ap kind_number same
    go false i e rest = rest e

kind_is : (x : ℕ) (q : Kind) → kind_of x ≡ some q → kind_number q ≡ x
unfolding kind_of
kind_is x q e = sym (numbered_is kinds x q e)

module _ {d : List ℕ} (B : Bytes d) where
  low_at : (k : ℕ) → k < length d → low (u16_at d k) ≡ byte_at d k
  unfolding u16_at
  low_at k h = low_is (byte_at d k) (byte_at d (k + 1)) (B.below k h)

  high_at : (k : ℕ) → k < length d → high (u16_at d k) ≡ byte_at d (k + 1)
  unfolding u16_at
  high_at k h = high_is (byte_at d k) (byte_at d (k + 1)) (B.below k h)

-- seven bytes from an offset on

next : (d : List ℕ) (j j' : ℕ) → j' ≡ j + 1 → j < length d → drop j d ≡ byte_at d j ∷ drop j' d
unfolding byte_at
next d j j' e h = let is : suc j ≡ j' = omega arith in drop-cons d j 0 h ∙ rw is

seven : (d : List ℕ) (at : ℕ) → at + 7 ≤ length d
    → drop at d
    ≡ byte_at d at ∷ byte_at d (at + 1) ∷ byte_at d (at + 1 + 1) ∷ byte_at d (at + 3) ∷ byte_at d (at + 3 + 1) ∷ byte_at d (at + 5) ∷ byte_at d (at + 5 + 1)
    ∷ drop (at + 7) d
seven d at h =
    rw (
      next d at (at + 1) (omega arith) (omega arith),
      next d (at + 1) (at + 1 + 1) (omega arith) (omega arith),
      next d (at + 1 + 1) (at + 3) (omega arith) (omega arith),
      next d (at + 3) (at + 3 + 1) (omega arith) (omega arith),
      next d (at + 3 + 1) (at + 5) (omega arith) (omega arith),
      next d (at + 5) (at + 5 + 1) (omega arith) (omega arith),
      next d (at + 5 + 1) (at + 7) (omega arith) (omega arith),
    )

module _ {d : List ℕ} (B : Bytes d) where
  -- One step

  module _ (k : ℕ) (h : step_start k + 7 ≤ length d) where
    fields_stand : (q : Kind) → kind_of (byte_at d (step_start k)) ≡ some q → drop (step_start k) d ≡ step_bytes (step_at q d k) ++ drop (step_start k + 7) d
    unfolding step_bytes step_at
    fields_stand q e =
        let s = step_start k in
        seven d s h
        ∙ rw (
          kind_is (byte_at d s) q e,
          low_at B (s + 1) (omega arith),
          high_at B (s + 1) (omega arith),
          low_at B (s + 3) (omega arith),
          high_at B (s + 3) (omega arith),
          low_at B (s + 5) (omega arith),
          high_at B (s + 5) (omega arith),
        )

    step_stands : (x : Step) → read_step d k ≡ some x → drop (step_start k) d ≡ step_bytes x ++ drop (step_start k + 7) d
    unfolding read_step
    step_stands x e = go (kind_of (byte_at d (step_start k))) refl e
      where
        go : (o : Option Kind) → kind_of (byte_at d (step_start k)) ≡ o → of_kind o d k ≡ some x
            → drop (step_start k) d ≡ step_bytes x ++ drop (step_start k + 7) d
        go none i e = let z : ◌≡◌ {A = ℕ} 0 1 = cc in absurd (omega arith)
        go (some q) i e = let is : step_at q d k ≡ x = cc in rw is at (fields_stand q i)

    -- its seven bytes are those that would be written
    pub step_copied : (x : Step) → read_step d k ≡ some x → take 7 (drop (step_start k) d) ≡ step_bytes x
    unfolding step_bytes
    step_copied x e = ap (take 7) (step_stands x e) ∙ take-append_seam (step_bytes x) (drop (step_start k + 7) d)

  -- The whole

  steps_stand : (k left : ℕ) → length (steps_from d k left) ≡ left → length d ≡ step_start (k + left) → steps_bytes (steps_from d k left) ≡ drop (step_start k) d
  unfolding steps_from steps_bytes step_start
  steps_stand k zero n h = sym (drop_of_length-le d {i = step_start k} (omega arith))
  steps_stand k (suc left) n h =
      let K = step_known d k (suc left) n k (omega arith) (omega arith) in
      let is = steps_known d k left K.1 in
      let after : step_start (suc k) ≡ step_start k + 7 = omega arith in
      let more : length d ≡ step_start (suc k + left) = omega arith in
      rw is
      (ap (λ (bs : List ℕ). step_bytes K.0 ++ bs)
      (steps_stand (suc k) left (omega (arith, ap length is)) more ∙ ap (λ (j : ℕ). drop j d) after)
      ∙ sym (step_stands k (omega arith) K.0 K.1))

  version_bytes : u16_at d 3 ≡ 1 → (byte_at d 3 ≡ 1) × (byte_at d 4 ≡ 0)
  unfolding u16_at
  version_bytes e = (omega arith, omega arith)

  header_stands : Framed d → header_bytes (u16_at d 5) ++ drop 7 d ≡ d
  unfolding has_mark
  header_stands F =
      let three = F.mark in
      let a : byte_at d 0 ≡ 68 = eqb-true _ _ (and_left _ _ (and_left _ _ three)) in
      let b : byte_at d 1 ≡ 81 = eqb-true _ _ (and_right (eqb (byte_at d 0) 68) _ (and_left _ _ three)) in
      let c : byte_at d 2 ≡ 84 = eqb-true _ _ (and_right (eqb (byte_at d 0) 68 && eqb (byte_at d 1) 81) _ three) in
      let one = version_bytes F.version in
      sym
      (seven d 0 (omega (arith, F.long))
      ∙ rw (a, b, c, one.0, one.1) (sym (rw (low_at B 5 (omega (arith, F.long)), high_at B 5 (omega (arith, F.long))))))

  -- a derivation is the bytes of its steps
  pub bytes_whole : Framed d → length (steps_of d) ≡ u16_at d 5 → encoded (steps_of d) ≡ d
  unfolding encoded steps_of step_start
  bytes_whole F n =
      let sized : length d ≡ step_start (0 + u16_at d 5) = omega (arith, F.sized) in
      rw n (ap (λ (bs : List ℕ). header_bytes (u16_at d 5) ++ bs) (steps_stand 0 (u16_at d 5) n sized) ∙ header_stands F)
