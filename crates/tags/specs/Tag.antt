-- Tags (rule 2.6), the range assumptions of a circuit's writer: which values a tag allows, its limit, and what the tags of a sheet say of a circuit
-- (rules 3.2, 3.7 and 6.10).
use Rattle.std.specs.Prelude.{ℕ, zero, suc, ◌+◌, ◌-◌, ◌^◌, ◌≤◌, ◌<◌, min, ◌≡◌, Bool, true, cond, ◌&&◌, List, ◌⊎◌, ltb, leb, eqb}
use Rattle.circuit.specs.Circuit.{Circuit, Satisfying, value_of}
use Rattle.circuit.specs.Runs.{first_from}
use Rattle.laws.specs.Sum.{keep, implies}
use Rattle.laws.specs.Problem.{Problem, given}
use Rattle.laws.specs.Standing.{is_input}

-- Rule 2.6: the kinds of tags.
pub data Kind : Type 0 where
  Binary Maxbit Maxvalue : Kind

-- Rule 2.5: the signal, the kind and the number v of an entry.
pub record Tag : Type 0 where
  pub signal : ℕ
  pub kind : Kind
  pub number : ℕ

-- the most bits of a maxbit tag
abbrev pub bits_most : ℕ
bits_most = 30

-- Rule 2.6: v is a number that a tag of this kind may have, over the prime p.
abbrev pub number_fits : ℕ → Kind → ℕ → Bool
number_fits p Binary v = eqb v 0
number_fits p Maxbit v = leb v bits_most
number_fits p Maxvalue v = ltb v p

-- Rule 2.6: the values x that a tag of this kind with the number v allows.
abbrev pub Allows : Kind → ℕ → ℕ → Type 0
Allows Binary v x = (x ≡ 0) ⊎ (x ≡ 1)
Allows Maxbit v x = x < 2 ^ v
Allows Maxvalue v x = x ≤ v

-- Rule 2.6: the largest of them. That a value is allowed exactly if it is at most the limit is a theorem, for all kinds.
abbrev pub limit_by : Kind → ℕ → ℕ
limit_by Binary v = 1
limit_by Maxbit v = 2 ^ v - 1
limit_by Maxvalue v = v

-- the value x obeys the tag
abbrev pub Obeys : Tag → ℕ → Type 0
Obeys t x = Allows t.kind t.number x

unfoldable pub limit : Tag → ℕ
limit t = limit_by t.kind t.number

-- Rule 2.5: a sheet, its entries counted from 1.
pub record Sheet : Type 0 where
  pub count : ℕ
  pub tag : ℕ → Tag

-- The first bounds

-- Rule 3.2: the least of x and the limits of those of tags 1 to k that are on signal s.
unfoldable pub least_of : (ℕ → Tag) → ℕ → ℕ → ℕ → ℕ
least_of tag s x zero = x
least_of tag s x (suc k) =
    let before = least_of tag s x k in cond (eqb (tag (suc k)).signal s) (min before (limit (tag (suc k)))) before

-- that of an input; x of any other signal
unfoldable pub lowered : ℕ → Sheet → ℕ → ℕ → ℕ
lowered i T s x = cond (is_input i s) (least_of T.tag s x T.count) x

-- Rule 3.2: the bound of signal s at the start.
unfoldable pub first_bound : ℕ → ℕ → Sheet → ℕ → ℕ
first_bound p i T s = lowered i T s (p - 1)

-- Rule 3.2: what a derivation for a circuit with a sheet is judged against.
abbrev pub tagged : Circuit → Sheet → Problem
tagged C T = given C (first_bound C.p C.i T)

-- Allowed runs

-- Rule 3.7: a run that satisfies the circuit, whose inputs obey every tag on them.
pub record Allowed (C : Circuit) (T : Sheet) (run : List ℕ) : Type 0 where
  pub satisfies : Satisfying C run
  pub obeys : (k : ℕ) → 1 ≤ k → k ≤ T.count → 1 ≤ (T.tag k).signal → (T.tag k).signal ≤ C.i → Obeys (T.tag k) (value_of run (T.tag k).signal)

-- Refusal 28 as a test: x is within the limits of those of tags 1 to k that are on signal s.
unfoldable pub keeps : (ℕ → Tag) → ℕ → ℕ → ℕ → Bool
keeps tag s x zero = true
keeps tag s x (suc k) = implies (eqb (tag (suc k)).signal s) (leb x (limit (tag (suc k)))) && keeps tag s x k

-- the value of signal s is within the limits of all tags on it
unfoldable pub kept : Sheet → (ℕ → ℕ) → ℕ → Bool
kept T v s = keeps T.tag s (v s) T.count

-- What is shown

-- Rule 6.10: the tag is on a signal that isn't an input, with i inputs.
unfoldable pub on_other : ℕ → Tag → Bool
on_other i t = ltb i t.signal

-- Rule 6.10: the bound of its signal is within its limit.
unfoldable pub is_shown : (ℕ → ℕ) → Tag → Bool
is_shown bound t = leb (bound t.signal) (limit t)

-- how many of tags 1 to k on signals other than inputs are shown
unfoldable pub shown_of : ℕ → (ℕ → ℕ) → (ℕ → Tag) → ℕ → ℕ
shown_of i bound tag zero = 0
shown_of i bound tag (suc k) = shown_of i bound tag k + keep (on_other i (tag (suc k)) && is_shown bound (tag (suc k))) 1

-- tag k is shown, if it is on a signal other than an input
unfoldable pub not_missed : ℕ → (ℕ → ℕ) → (ℕ → Tag) → ℕ → Bool
not_missed i bound tag k = implies (on_other i (tag k)) (is_shown bound (tag k))

-- Rule 6.10: how many tags are shown, and the number of the first that isn't, 0 where there is none.
pub record Shown : Type 0 where
  pub count : ℕ
  pub missed : ℕ

unfoldable pub shown_by : ℕ → Sheet → (ℕ → ℕ) → Shown
shown_by i T bound = record { count = shown_of i bound T.tag T.count; missed = first_from (not_missed i bound T.tag) 1 T.count }
