-- What holds of each kind by its place in the table.
use Prim.Native.Nat.{ℕ, ◌<◌}
use mathlib.Core.Path.{◌≡◌, refl}
use mathlib.Core.Bool.{Bool, true, ◌&&◌}
use mathlib.Core.List.{List, [], ◌∷◌}
use native.Mathlib.Omega.{arith}
use lib.Dec.{ltb}
use borrow.Author.Tests.{ltb-true}
use Rattle.laws.specs.Step.{Kind, Root, Sum, Zero, Product, Digits, Nonzero, Quotient, kinds, kind_number}
use Rattle.laws.proofs.Sum.{and_left, and_right}

-- a kind in the list, after kinds with smaller numbers
pub data Listed (q : Kind) : List Kind → Type 0 where
  here : {qs : List Kind} → Listed q (q ∷ qs)
  there : (x : Kind) {qs : List Kind} → kind_number x < kind_number q → Listed q qs → Listed q (x ∷ qs)

-- the one place here that goes kind by kind
pub listed : (q : Kind) → Listed q kinds
listed Root = here
listed Sum = there Root (omega arith) here
listed Zero = there Root (omega arith) (there Sum (omega arith) here)
listed Product = there Root (omega arith) (there Sum (omega arith) (there Zero (omega arith) here))
listed Digits = there Root (omega arith) (there Sum (omega arith) (there Zero (omega arith) (there Product (omega arith) here)))
listed Nonzero =
    there Root (omega arith)
    (there Sum (omega arith) (there Zero (omega arith) (there Product (omega arith) (there Digits (omega arith) here))))
listed Quotient =
    there Root (omega arith)
    (there Sum (omega arith)
    (there Zero (omega arith) (there Product (omega arith) (there Digits (omega arith) (there Nonzero (omega arith) here)))))

-- kinds of a list with the same number are the same
same_listed : {q q' : Kind} {qs : List Kind} → Listed q qs → Listed q' qs → kind_number q ≡ kind_number q' → q ≡ q'
same_listed here here e = refl
same_listed here (there x l m) e = absurd (omega arith)
same_listed (there x l m) here e = absurd (omega arith)
same_listed (there x l m) (there y l' m') e = same_listed m m' e

pub number_is : {q q' : Kind} → kind_number q ≡ kind_number q' → q ≡ q'
number_is {q} {q'} e = same_listed (listed q) (listed q') e

-- all these kinds have numbers below b
abbrev pub below : ℕ → List Kind → Bool
below b [] = true
below b (q ∷ qs) = ltb (kind_number q) b && below b qs

listed_below : {q : Kind} {qs : List Kind} (b : ℕ) → Listed q qs → below b qs ≡ true → kind_number q < b
listed_below {q} b (here {qs}) e = ltb-true (kind_number q) b (and_left _ (below b qs) e)
listed_below b (there x m l) e = listed_below b l (and_right (ltb (kind_number x) b) _ e)

pub number_below : (b : ℕ) → below b kinds ≡ true → (q : Kind) → kind_number q < b
number_below b e q = listed_below b (listed q) e
