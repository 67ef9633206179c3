-- The tag sheet (rule 2.5): its bytes read into tags, with refusals 26 and 27 in checking order.
use Rattle.std.specs.Prelude.{ℕ, ◌+◌, ◌*◌, ◌≤◌, ◌≡◌, Bool, true, false, cond, ◌&&◌, List, [], ◌∷◌, leb, eqb, length, Option, None, Some}
use Rattle.circuit.specs.Bytes.{byte_at, u16_at, u32_at}
use Rattle.circuit.specs.Circuit.{Circuit}
use Rattle.circuit.specs.Reading.{whole}
use Rattle.circuit.specs.Reader.{letter_q, letter_t, has_mark, read_circuit}
use Rattle.circuit.specs.Runs.{first_from}
use Rattle.circuit.specs.Answer.{Answer, given, ask, ask_none}
use Rattle.circuit.specs.Call.{sizes_of}
use Rattle.circuit.specs.declared.reader.Sizes.{Sizes}
use Rattle.laws.specs.Step.{within}
use Rattle.tags.specs.Tag.{Kind, Binary, Maxbit, Maxvalue, Tag, number_fits, Sheet}

-- Rule 2.5: the letter T of the mark, and the sizes
abbrev pub sheet_letter : ℕ
sheet_letter = 84

abbrev pub sheet_header : ℕ
sheet_header = 7

abbrev pub entry_size : ℕ
entry_size = 7

abbrev pub entries_most : ℕ
entries_most = 256

-- where entry k starts, counted from 1
abbrev pub entry_start : ℕ → ℕ
entry_start k = entry_size * k

-- Rule 2.6: the kind with a number.
unfoldable pub kind_of : ℕ → Option Kind
kind_of x = cond (eqb x 1) (Some Binary) (cond (eqb x 2) (Some Maxbit) (cond (eqb x 3) (Some Maxvalue) None))

abbrev pub of_kind : Option Kind → ℕ → ℕ → Option Tag
of_kind None signal number = None
of_kind (Some kind) signal number = Some (record { signal = signal; kind = kind; number = number })

-- Rule 2.5: entry k, where its kind is known.
unfoldable pub read_tag : List ℕ → ℕ → Option Tag
read_tag h k = of_kind (kind_of (byte_at h (entry_start k + 2))) (u16_at h (entry_start k)) (u32_at h (entry_start k + 3))

-- for an entry that 27 refuses: a tag on no signal
abbrev pub no_tag : Tag
no_tag = record { signal = 0; kind = Maxvalue; number = 0 }

abbrev pub or_none : Option Tag → Tag
or_none None = no_tag
or_none (Some t) = t

unfoldable pub tag_in : List ℕ → ℕ → Tag
tag_in h k = or_none (read_tag h k)

-- the sheet in the bytes
unfoldable pub sheet_of : List ℕ → Sheet
sheet_of h = record { count = u16_at h 5; tag = tag_in h }

-- Refusal 27 isn't met: the signal is 1 to n, the kind is known, and v goes with it
abbrev pub fits_as : ℕ → ℕ → Option Tag → Bool
fits_as n p None = false
fits_as n p (Some t) = within n t.signal && number_fits p t.kind t.number

unfoldable pub entry_fits : ℕ → ℕ → List ℕ → ℕ → Bool
entry_fits n p h k = fits_as n p (read_tag h k)

-- Refusal 26 isn't met: the mark, the version, the count and the length are right
unfoldable pub framed : List ℕ → Bool
framed h =
    leb sheet_header (length h) && has_mark sheet_letter h && eqb (u16_at h 3) 1 && leb (u16_at h 5) entries_most
    && eqb (length h) (sheet_header + entry_size * u16_at h 5)

-- Refusals 26 and 27, or the sheet.
unfoldable pub sheet_on : Sizes → List ℕ → Answer Sheet
sheet_on z h = ask (framed h) 26 0 (ask_none (first_from (entry_fits z.n z.p h) 1 (u16_at h 5)) 27 0 (given (sheet_of h)))

-- What a sheet that isn't refused holds: few tags, each on a signal, with a number that goes with its kind.
pub record Fitting (n p : ℕ) (T : Sheet) : Type 0 where
  pub few : T.count ≤ entries_most
  pub signals : (k : ℕ) → 1 ≤ k → k ≤ T.count → within n (T.tag k).signal ≡ true
  pub numbers : (k : ℕ) → 1 ≤ k → k ≤ T.count → number_fits p (T.tag k).kind (T.tag k).number ≡ true

-- an answer with a sheet is one that fits
abbrev pub FittingAnswer : Sizes → Answer Sheet → Type 0
FittingAnswer z r = (T : Sheet) → r ≡ given T → Fitting z.n z.p T

-- Rule 3.6: neither the circuit nor the sheet is refused: the bytes c are those of C, and h those of T.
pub record Unrefused (c h : List ℕ) (C : Circuit) (T : Sheet) : Type 0 where
  pub size : ℕ
  pub read : read_circuit c ≡ whole C size
  pub sheeted : sheet_on (sizes_of C) h ≡ given T

-- Rule 2.5: the sheet that says nothing: the mark, version 1 and the count 0.
abbrev pub empty_sheet : List ℕ
empty_sheet = sheet_letter ∷ letter_q ∷ letter_t ∷ 1 ∷ 0 ∷ 0 ∷ 0 ∷ []
