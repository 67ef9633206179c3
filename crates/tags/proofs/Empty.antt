-- EMPTY: the sheet that says nothing isn't refused, lowers no first bound, allows every satisfying run, breaks nothing and shows nothing.
use Prim.Native.Nat.{ℕ, ◌-◌}
use mathlib.Core.Path.{◌≡◌, refl, fun_ext}
use mathlib.Core.Bool.{Bool, true, false, cond}
use mathlib.Core.List.{List}
use native.Mathlib.Omega.{arith}
use Rattle.circuit.specs.Bytes.{byte_at, u16_at}
use Rattle.circuit.specs.Circuit.{Circuit, Satisfying}
use Rattle.circuit.specs.Reader.{has_mark}
use Rattle.circuit.specs.Runs.{first_from}
use Rattle.circuit.specs.Answer.{given}
use Rattle.circuit.specs.declared.reader.Sizes.{Sizes}
use Rattle.laws.specs.Problem.{largest, problem}
use Rattle.laws.specs.Standing.{is_input}
use Rattle.tags.specs.Tag.{Sheet, least_of, lowered, first_bound, tagged, Allowed, keeps, kept, shown_of, shown_by}
use Rattle.tags.specs.Sheet.{empty_sheet, framed, sheet_of, sheet_on}

-- the sheet in its bytes
abbrev pub no_tags : Sheet
no_tags = sheet_of empty_sheet

pub empty_given : (z : Sizes) → sheet_on z empty_sheet ≡ given no_tags
unfolding sheet_on framed has_mark byte_at u16_at first_from
empty_given z = refl

first_largest : (p i : ℕ) → first_bound p i no_tags ≡ largest p
unfolding first_bound lowered least_of sheet_of u16_at byte_at largest
first_largest p i = fun_ext (λ s. go (is_input i s))
  where
    go : (b : Bool) → cond b (p - 1) (p - 1) ≡ p - 1
    go true = refl
    go false = refl

-- it is the circuit alone that a derivation is judged against
pub empty_problem : (C : Circuit) → tagged C no_tags ≡ problem C
empty_problem C = rw (first_largest C.p C.i)

pub empty_allowed : (C : Circuit) (run : List ℕ) → Satisfying C run → Allowed C no_tags run
unfolding sheet_of u16_at byte_at
empty_allowed C run S = record { satisfies = S; obeys = λ k first last. absurd (omega arith) }

pub empty_kept : (v : ℕ → ℕ) (s : ℕ) → kept no_tags v s ≡ true
unfolding kept keeps sheet_of u16_at byte_at
empty_kept v s = refl

pub empty_shown : (i : ℕ) (bound : ℕ → ℕ) → shown_by i no_tags bound ≡ record { count = 0; missed = 0 }
unfolding shown_by shown_of first_from sheet_of u16_at byte_at
empty_shown i bound = refl
