-- What reading a part of the bytes finds: a value and how many bytes it took, or a fault's number and its offset in that part.
use Rattle.std.specs.Prelude.{ℕ, ◌+◌, Bool, true, false, List, drop}

pub data Reading (A : Type 0) : Type 0 where
  whole : A → ℕ → Reading A
  fault : ℕ → ℕ → Reading A

-- go on where the test holds, else refuse here with the number
abbrev pub require : {A : Type 0} → Bool → ℕ → Reading A → Reading A
require true number r = r
require false number r = fault number 0

-- the same found `at` bytes further on
abbrev pub after : {A : Type 0} → ℕ → Reading A → Reading A
after at (whole x size) = whole x (at + size)
after at (fault number offset) = fault number (at + offset)

-- what was read, made into something else
abbrev pub mapped : {A B : Type 0} → (A → B) → Reading A → Reading B
mapped f (whole x size) = whole (f x) size
mapped f (fault number offset) = fault number offset

-- read on with what was read and the rest of the bytes
abbrev pub next : {A B : Type 0} → List ℕ → Reading A → (A → List ℕ → Reading B) → Reading B
next s (whole x size) f = after size (f x (drop size s))
next s (fault number offset) f = fault number offset

-- how much was read, whatever it is
pub data Size : Type 0 where
  sized : ℕ → Size
  faulty : ℕ → ℕ → Size

abbrev pub size_of : {A : Type 0} → Reading A → Size
size_of (whole x size) = sized size
size_of (fault number offset) = faulty number offset

abbrev pub further : ℕ → Size → Size
further at (sized size) = sized (at + size)
further at (faulty number offset) = faulty number (at + offset)

-- how far the reading came
abbrev pub extent : Size → ℕ
extent (sized size) = size
extent (faulty number offset) = offset
