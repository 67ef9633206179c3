-- Laws of copying: of the first steps those that aren't noted as idle are stored.
use Prim.Native.Nat.{ℕ, ◌+◌, ◌*◌, ◌<◌}
use mathlib.Core.Path.{◌≡◌, refl, sym, ap, ◌∙◌}
use mathlib.Core.Bool.{Bool, true, false, not}
use mathlib.Core.List.{List, [], ◌∷◌, ◌++◌, append-nil}
use native.Mathlib.Numerals.{add-one}
use native.Mathlib.Omega.{arith}
use lib.ListN.{length, length-append, get_or, take, drop}
use Rattle.circuit.specs.Bytes.{u16_at}
use Rattle.derivation.specs.Steps.{head_size, step_size, step_start, steps_of}
use Rattle.derivation.specs.Encoded.{header_bytes, step_bytes, steps_bytes, stored}
use Rattle.derivation.specs.Inner.{unflagged}
use Rattle.derivation.proofs.Walks.{step_known}
use Rattle.derivation.proofs.Written.{nothing_stored, written_next}
use Rattle.renewal.specs.Inner.{Bytes, Copied}
use Rattle.renewal.proofs.Bytes.{step_copied}

-- a test that is turned round
pub told : (b : Bool) → not b ≡ false → b ≡ true
told true e = refl
told false e = sym e

-- The steps

-- before step k, where all kinds are known: those of the steps before it that aren't noted as idle are written and counted
pub record Copying (d : List ℕ) (idle : List Bool) (out₀ out : List ℕ) (index k : ℕ) : Type 0 where
  pub counted : index ≡ length (unflagged idle d k)
  pub written : out ≡ stored out₀ head_size (steps_bytes (unflagged idle d k))

pub copying_start : (d : List ℕ) (idle : List Bool) (out : List ℕ) → Copying d idle out out 0 0
unfolding unflagged steps_bytes
copying_start d idle out = record { counted = refl; written = nothing_stored out head_size }

module _ {d : List ℕ} {idle : List Bool} {out₀ out : List ℕ} {index k : ℕ} (C : Copying d idle out₀ out index k) where
  -- the next step is noted
  pub copying_noted : get_or idle k false ≡ true → Copying d idle out₀ out index (k + 1)
  unfolding unflagged
  copying_noted e =
      let same : unflagged idle d (k + 1) ≡ unflagged idle d k = rw (add-one k, e) (append-nil (unflagged idle d k)) in
      record { counted = rw same C.counted; written = rw same C.written }

  -- .. or it is copied
  pub copying_next : get_or idle k false ≡ false → Bytes d → length (steps_of d) ≡ u16_at d 5 → k < u16_at d 5 → length d ≡ head_size + step_size * u16_at d 5
      → {out' : List ℕ} → out' ≡ stored out (head_size + step_size * index) (take step_size (drop (step_start k) d))
      → Copying d idle out₀ out' (index + 1) (k + 1)
  unfolding unflagged steps_of step_start
  copying_next e B n h sized is =
      let K = step_known d 0 (u16_at d 5) n k (omega arith) (omega arith) in
      let xs = unflagged idle d k in
      let same : unflagged idle d (k + 1) ≡ xs ++ (K.0 ∷ []) = rw (add-one k, e, K.1) in
      let copied = step_copied B k (omega arith) K.0 K.1 in
      record {
        counted = rw same (omega (arith, C.counted, length-append xs (K.0 ∷ [])));
        written =
            rw same
            (is
            ∙ ap (stored out (head_size + step_size * index)) copied
            ∙ ap (λ (j : ℕ). stored out (head_size + step_size * j) (step_bytes K.0)) C.counted
            ∙ written_next out₀ out head_size xs K.0 C.written);
      }

  -- after the last step, with the header before them
  pub copying_ended : {count : ℕ} → k ≡ count → {left : List ℕ} → left ≡ stored out 0 (header_bytes index)
      → Copied (unflagged idle d count) out₀ left index
  copying_ended e is =
      record {
        counted = rw (← e) C.counted;
        written = rw (← e) (is ∙ rw (C.written, C.counted));
      }
