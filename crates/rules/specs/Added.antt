-- Weight times bound of a form's unmarked signals, added up in rising order until p is reached (rule 7.12); then, from entries on, how that runs. R, b and m
-- give the coefficient, the bound and the mark of a signal; a weight is a coefficient times a scale, modulo p.
use Rattle.std.specs.Prelude.{ℕ, zero, suc, ◌-◌, ◌*◌, ◌%◌, ◌≤◌, ◌<◌, ◌≡◌, Bool, List, [], ◌∷◌, ◌++◌, map, take, length, ltb}
use Rattle.std.specs.List.{filter}
use Rattle.std.specs.List as list
use Rattle.laws.specs.Rules.{live}
use Rattle.rules.specs.View.{bound_in}
use Rattle.rules.specs.Live.{is_live, live_bound}
use Rattle.rules.specs.declared.rows.Entry.{Entry}
use Rattle.rules.specs.declared.added.Added.{Added}
use Rattle.rules.specs.declared.added.DigitTerms.{DigitTerms}

-- How many of the numbers are taken, from the first on: none where nothing is left to reach; else the first, and then as many as reach what it leaves, or all.
unfoldable pub taken : ℕ → List ℕ → ℕ
taken zero xs = 0
taken (suc limit) [] = 0
taken (suc limit) (x ∷ xs) = suc (taken (suc limit - x) xs)

-- Rule 7.12: the numbers that are taken are added up; they are the fewest, from the first on, whose sum reaches p, or all.
pub record Adds (p : ℕ) (xs : List ℕ) (x : Added) : Type 0 where
  pub count : x.taken ≡ taken p xs
  pub total : x.total ≡ list.sum (take x.taken xs)
  -- no smaller number of them reaches p
  pub fewest : (j : ℕ) → j < x.taken → list.sum (take j xs) < p
  -- where p isn't reached, all are taken
  pub all : x.total < p → x.taken ≡ length xs

-- The numbers of a form

-- the numbers below n, rising
unfoldable pub below : ℕ → List ℕ
below zero = []
below (suc n) = below n ++ n ∷ []

-- the weight of rule 4.7, where the scale is the inverse of the reference's coefficient
unfoldable pub scaled : ℕ → (ℕ → ℕ) → ℕ → ℕ → ℕ
scaled p R scale s = R s * scale % p

-- weight times bound of each unmarked signal of the form, rising
unfoldable pub form_terms : ℕ → ℕ → (ℕ → ℕ) → (ℕ → ℕ) → (ℕ → Bool) → ℕ → List ℕ
form_terms p n R b m scale = map (λ s. scaled p R scale s * b s) (filter (live R m) (below (suc n)))

-- The same of any entries, in their order

-- an entry's weight
unfoldable pub weight_by : ℕ → ℕ → Entry → ℕ
weight_by p scale x = x.coefficient * scale % p

-- weight times bound
unfoldable pub share : ℕ → List ℕ → ℕ → Entry → ℕ
share p bounds scale x = weight_by p scale x * bound_in p bounds x.signal

-- of each unmarked entry
unfoldable pub terms : ℕ → List ℕ → List Bool → ℕ → List Entry → List ℕ
terms p bounds marks scale row = map (share p bounds scale) (filter (is_live marks) row)

-- Digits: the unmarked entries with a bound above 0

unfoldable pub is_digit : ℕ → List ℕ → List Bool → Entry → Bool
is_digit p bounds marks x = ltb 0 (live_bound p bounds marks x)

unfoldable pub digits_of : ℕ → List ℕ → List Bool → List Entry → List Entry
digits_of p bounds marks row = filter (is_digit p bounds marks) row

-- how many the digits are; where they are 31 at most, what is kept begins with their weights, and with weight times bound
pub record Holds (p : ℕ) (bounds : List ℕ) (scale : ℕ) (digits : List Entry) (count : ℕ) (kept : DigitTerms) : Type 0 where
  pub counted : count ≡ length digits
  pub weighed : count ≤ 31 → take count kept.weights ≡ map (weight_by p scale) digits
  pub multiplied : count ≤ 31 → take count kept.products ≡ map (share p bounds scale) digits

-- those of a row's digits
abbrev pub Keeps : ℕ → List ℕ → List Bool → ℕ → List Entry → ℕ → DigitTerms → Type 0
Keeps p bounds marks scale row = Holds p bounds scale (digits_of p bounds marks row)
