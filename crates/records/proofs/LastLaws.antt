-- Laws of the last number before k that passes a test.
use Prim.Native.Nat.{ℕ, zero, suc, ◌<◌}
use mathlib.Core.Path.{◌≡◌, refl}
use mathlib.Core.Logic.{◌≢◌}
use mathlib.Core.Bool.{Bool, true, false}
use native.Mathlib.Omega.{arith}
use native.Mathlib.Decide.{ℕ_discrete}
use Rattle.records.specs.Inner.{last_before}

-- x is that number, or 0
pub record Last (test : ℕ → Bool) (k x : ℕ) : Type 0 where
  pub inside : x ≢ 0 → x < k
  pub passes : x ≢ 0 → test x ≡ true
  pub between : (j : ℕ) → x < j → j < k → test j ≡ false

module _ (test : ℕ → Bool) where
  pub last_here : (k : ℕ) → test k ≡ true → last_before test (suc k) ≡ k
  unfolding last_before
  last_here k e = rw e

  pub last_earlier : (k : ℕ) → test k ≡ false → last_before test (suc k) ≡ last_before test k
  unfolding last_before
  last_earlier k e = rw e

  last_zero : last_before test 0 ≡ 0
  unfolding last_before
  last_zero = refl

  -- one number more
  later : (k : ℕ) → Last test k (last_before test k) → (b : Bool) → test k ≡ b → Last test (suc k) (last_before test (suc k))
  later k L true e =
      rw (last_here k e)
      (record {
        inside = λ z. omega arith;
        passes = λ z. e;
        between = λ j l m. absurd (omega arith);
      })
  later k L false e =
      rw (last_earlier k e)
      (record {
        inside = λ z. omega (arith, L.inside z);
        passes = L.passes;
        between = λ j l m. go j (ℕ_discrete j k) l m;
      })
    where
      go : (j : ℕ) → Dec (j ≡ k) → last_before test k < j → j < suc k → test j ≡ false
      go j (yes same) l m = rw same e
      go j (no other) l m = L.between j l (omega arith)

  pub last_is : (k : ℕ) → Last test k (last_before test k)
  last_is zero = rw last_zero (record { inside = λ z. absurd (z refl); passes = λ z. absurd (z refl); between = λ j l m. absurd (omega arith) })
  last_is (suc k) = later k (last_is k) (test k) refl
