-- The enums and structs of the code as what they stand for, and how the code lowers bounds by tags.
use Rattle.std.specs.Prelude.{ℕ, ◌<◌, min, ◌≡◌, cond, ◌&&◌, List, eqb, length}
use Rattle.std.specs.Option.{unwrap_or}
use Rattle.circuit.specs.Run.{values_in}
use Rattle.laws.specs.Standing.{is_input}
use Rattle.tags.specs.Tag as tag
use Rattle.tags.specs.Tag.{Sheet, limit}
use Rattle.tags.specs.declared.tag.TagKind.{TagKind}
use Rattle.tags.specs.declared.tag.TagKind.TheVariants.{Binary, Maxbit, Maxvalue}
use Rattle.tags.specs.declared.tag.Tag.{Tag}
use Rattle.tags.specs.declared.answer.Shown.{Shown}

abbrev pub kind_in : TagKind → tag.Kind
kind_in Binary = tag.Binary
kind_in Maxbit = tag.Maxbit
kind_in Maxvalue = tag.Maxvalue

abbrev pub tag_of : Tag → tag.Tag
tag_of x = record { signal = x.signal; kind = kind_in x.kind; number = x.number }

-- no tag is number 0
abbrev pub shown_in : Shown → tag.Shown
shown_in x = record { count = x.count; missed = unwrap_or x.missed 0 }

-- the largest number of 32 bits
abbrev pub number_most : ℕ
number_most = 0xffff_ffff

-- the bound of the tag's signal, where that is an input, lowered to the tag's limit; the others as they were
pub record LoweredBy (i : ℕ) (t : tag.Tag) (before later : List ℕ) : Type 0 where
  pub sized : length later ≡ length before
  pub each : (s : ℕ) → s < length before
      → values_in later s ≡ cond (is_input i s && eqb t.signal s) (min (values_in before s) (limit t)) (values_in before s)

-- bounds of inputs lowered to the limits of all tags on them; the others as they were
pub record Lowered (i : ℕ) (T : Sheet) (before later : List ℕ) : Type 0 where
  pub sized : length later ≡ length before
  pub each : (s : ℕ) → s < length before → values_in later s ≡ tag.lowered i T s (values_in before s)
