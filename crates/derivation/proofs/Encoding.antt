-- The bytes of steps list them again.
use Prim.Native.Nat.{ℕ, suc, ◌+◌, ◌*◌}
use mathlib.Core.Path.{◌≡◌, refl, sym, ap, ◌∙◌}
use mathlib.Core.List.{List, [], ◌∷◌, ◌++◌}
use mathlib.Core.Option.{some}
use native.Mathlib.Nat.{div-add-mod'}
use native.Mathlib.Omega.{arith}
use lib.ListN.{length, drop}
use lib.Seq.{drop-drop}
use borrow.Author.Tests.{eq-eqb, ne_eqb}
use Rattle.circuit.specs.Bytes.{byte_at, u16_at, low, high}
use Rattle.circuit.specs.Reader.{has_mark}
use Rattle.circuit.proofs.ByteLaws.{byte_drop, u16_drop}
use Rattle.laws.specs.Step.{Kind, kind_number, Step}
use Rattle.laws.proofs.KindLaws.{Listed, here, there, listed}
use Rattle.derivation.specs.Steps.{numbered, kind_of, step_start, step_at, read_step, steps_from, steps_of}
use Rattle.derivation.specs.Encoded.{step_bytes, steps_bytes, encoded}
use Rattle.derivation.proofs.Walks.{steps_known}
use Rattle.derivation.proofs.Exact.{Lists}

low_high : (x : ℕ) → low x + 256 * high x ≡ x
low_high x = omega (arith, div-add-mod' x 256)

-- each kind is found by its number: those before it in the table have smaller ones
listed_numbered : {q : Kind} {qs : List Kind} → Listed q qs → numbered qs (kind_number q) ≡ some q
unfolding numbered
listed_numbered {q} here = rw (eq-eqb (kind_number q) (kind_number q) refl) refl
listed_numbered {q} (there x l m) = rw (ne_eqb (kind_number q) (kind_number x) (λ (e : kind_number q ≡ kind_number x). omega arith)) (listed_numbered m)

kind_numbered : (q : Kind) → kind_of (kind_number q) ≡ some q
unfolding kind_of
kind_numbered q = listed_numbered (listed q)

pub kind_found_lem : (q : Kind) (x : ℕ) → x ≡ kind_number q → some q ≡ kind_of x
kind_found_lem q x e = sym (ap kind_of e ∙ kind_numbered q)

pub bytes_length : (xs : List Step) → length (steps_bytes xs) ≡ 7 * length xs
unfolding steps_bytes step_bytes
bytes_length [] = refl
bytes_length (x ∷ xs) = omega (arith, bytes_length xs)

-- the bytes from step k on are those of the steps
module _ (d : List ℕ) where
  module _ (k : ℕ) (x : Step) (rest : List ℕ) (e : drop (step_start k) d ≡ step_bytes x ++ rest) where
    kind_read : kind_of (byte_at d (step_start k)) ≡ some x.kind
    unfolding step_bytes byte_at
    kind_read =
        ap (λ (j : ℕ). kind_of (byte_at d j)) (omega arith)
        ∙ ap kind_of (sym (byte_drop (step_start k) d 0) ∙ ap (λ (l : List ℕ). byte_at l 0) e)
        ∙ kind_numbered x.kind

    field_read : (j : ℕ) → u16_at d (step_start k + j) ≡ u16_at (step_bytes x ++ rest) j
    field_read j = sym (u16_drop (step_start k) d j) ∙ ap (λ (l : List ℕ). u16_at l j) e

    step_read : step_at x.kind d k ≡ x
    unfolding step_at step_bytes u16_at byte_at
    step_read =
        let t : u16_at d (step_start k + 1) ≡ x.target = field_read 1 ∙ low_high x.target in
        let con : u16_at d (step_start k + 3) ≡ x.constraint = field_read 3 ∙ low_high x.constraint in
        let r : u16_at d (step_start k + 5) ≡ x.reference = field_read 5 ∙ low_high x.reference in
        rw (t, con, r)

    known : read_step d k ≡ some x
    unfolding read_step
    known = rw kind_read (ap some step_read)

    rest_read : drop (step_start (suc k)) d ≡ rest
    unfolding step_start step_bytes
    rest_read =
        let next : step_start (suc k) ≡ step_start k + 7 = omega arith in
        ap (λ (j : ℕ). drop j d) next ∙ sym (drop-drop 7 (step_start k) d) ∙ ap (drop 7) e

  pub steps_listed : (k : ℕ) (xs : List Step) → drop (step_start k) d ≡ steps_bytes xs → steps_from d k (length xs) ≡ xs
  unfolding steps_from steps_bytes
  steps_listed k [] e = refl
  steps_listed k (x ∷ xs) e =
      steps_known d k (length xs) (known k x (steps_bytes xs) e)
      ∙ ap (λ (ys : List Step). x ∷ ys) (steps_listed (suc k) xs (rest_read k x (steps_bytes xs) e))

pub encoded_lists : (xs : List Step) → Lists (encoded xs) xs
unfolding encoded has_mark u16_at byte_at steps_of step_start
encoded_lists xs =
    record {
      mark = refl;
      version = refl;
      count = low_high (length xs);
      sized = omega (arith, bytes_length xs);
      steps = ap (steps_from (encoded xs) 0) (low_high (length xs)) ∙ steps_listed (encoded xs) 0 xs refl;
    }
