-- The shared table of cases a to j (Rule 7.4), of false rules that look sound (Rule 7.5), of tags (Rule 7.6), of idle steps (Rule 7.9), of runs listed
-- (Rule 7.11), of divisions (Rule 7.13) and of watched runs (Rule 7.15): each row names a circuit's bytes, those of a sheet, the call with what is handed in,
-- and what the rules say of it.
use Rattle.std.specs.Prelude.{ℕ, zero, suc, ◌+◌, ◌*◌, ◌-◌, true, false, List, [], ◌∷◌, ◌++◌, length, take, replicate, None, Some}
use Rattle.std.proofs.Math.Option.{none, some}
use Rattle.circuit.specs.Circuit.{Circuit}
use Rattle.circuit.specs.Reading.{Reading, whole, fault}
use Rattle.circuit.specs.Reader.{read_circuit}
use Rattle.circuit.specs.Answer.{Answer, refused, given}
use Rattle.laws.specs.Step.{Step, Root, Sum, Zero, Product, Digits, Nonzero, Quotient}
use Rattle.laws.specs.Solver.{step}
use Rattle.tags.specs.Tag.{Binary, Tag, tagged}
use Rattle.tags.specs.Sheet.{sheet_of, empty_sheet}
use Rattle.derivation.specs.Call as derivation
use Rattle.derivation.specs.Call.{Fixed, Open, last_of}
use Rattle.derivation.specs.Encoded.{encoded}
use Rattle.pair.specs.Call as pair
use Rattle.renewal.specs.Call as renewal
use Rattle.solver.specs.Call as solver
use Rattle.runs.specs.Call as runs
use Rattle.records.specs.declared.answer.Watched.{Watched}
use Rattle.records.specs.Call as records
use Rattle.cases.specs.Encode.{circuit_bytes, sheet_bytes, records_bytes, pair_bytes, one_step}
use Rattle.cases.specs.Circuits.{circuit_a, circuit_b, circuit_c, circuit_d, circuit_e, circuit_f, circuit_g, never, copy, bare, bits, carry}
use Rattle.cases.specs.Circuits.{inverse_of, inverse_free, inverse_equal, shifted, own_inverse, only_one, times_itself, quotient_of, quotient_free}
use Rattle.cases.specs.Circuits.{wide_quotients, guarded}
use Rattle.cases.specs.Circuits.{is_binary, has_bits, is_most}

-- a call: reading the circuit, solving it, judging a hand-in or renewing one, the first run or the one after a given one, with so much room, watching records
-- within a window, with so much room; or the bounds that a derivation reaches
pub data Asked : Type 0 where
  reading : Asked
  solving : Asked
  judging : List ℕ → Asked
  bounding : List ℕ → Asked
  pairing : List ℕ → Asked
  renewing : List ℕ → Asked
  beginning : ℕ → Asked
  following : List ℕ → ℕ → Asked
  watching : List ℕ → ℕ → ℕ → Asked

-- what is said: a circuit's p, n, i, o and m and its file's length, or each call's answer, with the bytes or values that it leaves; or bounds
pub data Said : Type 0 where
  numbers : ℕ → ℕ → ℕ → ℕ → ℕ → ℕ → Said
  unread : ℕ → ℕ → Said
  solves : Answer solver.Solved → List ℕ → Said
  judges : Answer derivation.Judgement → List ℕ → Said
  bounds : List ℕ → Said
  pairs : Answer ℕ → Said
  renews : Answer ℕ → List ℕ → Said
  lists : Answer runs.Found → List ℕ → Said
  watches : Answer records.Found → List ℕ → Said

pub record Row : Type 0 where
  pub circuit : List ℕ
  pub sheet : List ℕ
  pub asked : Asked
  pub said : Said

-- buffers of the table: 112 bytes that hold 9, room for a solution of five signals
abbrev pub buffer : List ℕ
buffer = replicate 112 9

-- .. and one of so many values, for a run, or bytes
abbrev pub room_of : ℕ → List ℕ
room_of n = replicate n 9

abbrev pub reading_of : Reading Circuit → Said
reading_of (whole C size) = numbers C.p C.n C.i C.o C.m size
reading_of (fault number place) = unread number place

-- the bounds of the signals after s, `left` of them
unfoldable pub bounds_from : (ℕ → ℕ) → ℕ → ℕ → List ℕ
bounds_from bound s zero = []
bounds_from bound s (suc left) = bound (suc s) ∷ bounds_from bound (suc s) left

-- Rule 3.5: the bounds of signals 1 to n after the derivation's last step
abbrev pub bounds_of : Reading Circuit → List ℕ → List ℕ → Said
bounds_of (whole C size) h d = bounds (bounds_from (last_of (tagged C (sheet_of h)) d).bound 0 C.n)
bounds_of (fault number place) h d = unread number place

abbrev pub answer : List ℕ → List ℕ → Asked → Said
answer c h reading = reading_of (read_circuit c)
answer c h solving = solves (solver.solver_call c h (length buffer)) (solver.solver_output c h buffer)
answer c h (judging d) = judges (derivation.derivation_call c h d (length buffer)) (derivation.derivation_marks c h d buffer)
answer c h (bounding d) = bounds_of (read_circuit c) h d
answer c h (pairing t) = pairs (pair.pair_call c h t)
answer c h (renewing d) = renews (renewal.renewal_call c h d (length buffer)) (renewal.renewal_output c h d buffer)
answer c h (beginning n) = let r = runs.first_call c n in lists r (runs.left_by r (room_of n))
answer c h (following run n) = let r = runs.next_call c run n in lists r (runs.left_by r (room_of n))
answer c h (watching s w room) = watches (records.watch_call c s w room) (records.watch_output c s w (room_of room))

abbrev pub found : Row → Said
found row = answer row.circuit row.sheet row.asked

-- a call on a circuit with tags, and what is said
abbrev pub tagged_row : Circuit → List Tag → Asked → Said → Row
tagged_row C ts asked said = record { circuit = circuit_bytes C; sheet = sheet_bytes ts; asked = asked; said = said }

-- what the solver says: its steps, how many signals are marked, the verdict, how many tags are shown and the first that isn't; the bytes after the
-- derivation stay 9
abbrev pub solved_as : List Step → ℕ → derivation.Verdict → ℕ → ℕ → Said
solved_as xs count verdict shown missed =
    solves (given (record {
      judgement = record { count = count; verdict = verdict; shown = record { count = shown; missed = missed } };
      bytes = 7 + 7 * length xs;
    }))
    (encoded xs ++ take (112 - (7 + 7 * length xs)) buffer)

-- the solver's row for a circuit without tags
abbrev pub solved_row : Circuit → List Step → ℕ → derivation.Verdict → Row
solved_row C xs count verdict = record { circuit = circuit_bytes C; sheet = empty_sheet; asked = solving; said = solved_as xs count verdict 0 0 }

-- a hand-in that is refused: nothing is written
abbrev pub turned_row : Circuit → List ℕ → ℕ → ℕ → Row
turned_row C d number place =
    record { circuit = circuit_bytes C; sheet = empty_sheet; asked = judging d; said = judges (refused number place) buffer }

-- a derivation that is accepted, with its marks
abbrev pub judged_as : List ℕ → ℕ → derivation.Verdict → ℕ → ℕ → Said
judged_as marks count verdict shown missed =
    judges (given (record { count = count; verdict = verdict; shown = record { count = shown; missed = missed } }))
    (marks ++ take (112 - length marks) buffer)

abbrev pub judged_row : Circuit → List Step → List ℕ → ℕ → derivation.Verdict → Row
judged_row C xs marks count verdict =
    record { circuit = circuit_bytes C; sheet = empty_sheet; asked = judging (encoded xs); said = judged_as marks count verdict 0 0 }

-- steps of which these are left; the bytes after them stay 9
abbrev pub renewed_as : List Step → Said
renewed_as xs = renews (given (7 + 7 * length xs)) (encoded xs ++ take (112 - (7 + 7 * length xs)) buffer)

abbrev pub renewed_row : Circuit → List Step → List Step → Row
renewed_row C xs left = record { circuit = circuit_bytes C; sheet = empty_sheet; asked = renewing (encoded xs); said = renewed_as left }

-- steps that aren't renewed: nothing is written
abbrev pub unrenewed_row : Circuit → List Step → ℕ → ℕ → Row
unrenewed_row C xs number place =
    record { circuit = circuit_bytes C; sheet = empty_sheet; asked = renewing (encoded xs); said = renews (refused number place) buffer }

-- the bounds that the steps reach
abbrev pub bounded_row : Circuit → List Step → List ℕ → Row
bounded_row C xs said = record { circuit = circuit_bytes C; sheet = empty_sheet; asked = bounding (encoded xs); said = bounds said }

-- a pair that is accepted at q
abbrev pub pair_row : Circuit → ℕ → List ℕ → List ℕ → Row
pair_row C q first second =
    record { circuit = circuit_bytes C; sheet = empty_sheet; asked = pairing (pair_bytes q first second); said = pairs (given q) }

-- the run that is written, the first or the one after a given one
abbrev pub run_row : Circuit → Asked → List ℕ → Row
run_row C asked run = record { circuit = circuit_bytes C; sheet = empty_sheet; asked = asked; said = lists (given (some run)) run }

-- no more runs: nothing is written
abbrev pub ended_row : Circuit → Asked → ℕ → Row
ended_row C asked n = record { circuit = circuit_bytes C; sheet = empty_sheet; asked = asked; said = lists (given none) (room_of n) }

-- a listing that is refused: nothing is written
abbrev pub unlisted_row : Circuit → Asked → ℕ → ℕ → ℕ → Row
unlisted_row C asked n number place =
    record { circuit = circuit_bytes C; sheet = empty_sheet; asked = asked; said = lists (refused number place) (room_of n) }

-- the room for a pair file and one byte more
abbrev pub watch_room : Circuit → ℕ
watch_room C = 8 + 8 * C.n

-- the pair that is found in records, and the file of its runs; the byte after it stays 9
abbrev pub watched_row : Circuit → List (List ℕ) → ℕ → Watched → List ℕ → List ℕ → Row
watched_row C runs w x first second =
    record {
      circuit = circuit_bytes C;
      sheet = empty_sheet;
      asked = watching (records_bytes runs) w (watch_room C);
      said = watches (given (Some x)) (pair_bytes x.q first second ++ 9 ∷ []);
    }

-- no two records make a pair: nothing is written
abbrev pub unpaired_row : Circuit → List (List ℕ) → ℕ → Row
unpaired_row C runs w =
    record {
      circuit = circuit_bytes C;
      sheet = empty_sheet;
      asked = watching (records_bytes runs) w (watch_room C);
      said = watches (given None) (room_of (watch_room C));
    }

-- records that are refused: nothing is written
abbrev pub unwatched_row : Circuit → List ℕ → ℕ → ℕ → ℕ → ℕ → Row
unwatched_row C s w room number place =
    record { circuit = circuit_bytes C; sheet = empty_sheet; asked = watching s w room; said = watches (refused number place) (room_of room) }

abbrev pub read_row : List ℕ → Said → Row
read_row c says = record { circuit = c; sheet = empty_sheet; asked = reading; said = says }

-- the seven steps of case c's listing
abbrev pub steps_c : List Step
steps_c =
    step Root 2 1 0 ∷ step Root 3 2 0 ∷ step Root 4 3 0 ∷ step Sum 1 4 0
    ∷ step Digits 2 4 2 ∷ step Digits 3 4 2 ∷ step Digits 4 4 1 ∷ []

-- .. and without its sum
abbrev pub steps_tagged : List Step
steps_tagged = step Root 2 1 0 ∷ step Root 3 2 0 ∷ step Root 4 3 0 ∷ step Digits 2 4 2 ∷ step Digits 3 4 2 ∷ step Digits 4 4 1 ∷ []

-- .. padded: a root again, a sum again, a digit again and an input marked
abbrev pub padded_c : List Step
padded_c =
    step Root 2 1 0 ∷ step Root 3 2 0 ∷ step Root 4 3 0 ∷ step Root 4 3 0 ∷ step Sum 1 4 0 ∷ step Sum 1 4 0
    ∷ step Digits 2 4 2 ∷ step Digits 2 4 2 ∷ step Digits 3 4 2 ∷ step Digits 4 4 1 ∷ step Digits 1 4 1 ∷ []

-- the three bits of case d bounded by 1, then one step more
abbrev pub after_bits : Step → List Step
after_bits last = step Root 2 1 0 ∷ step Root 3 2 0 ∷ step Root 4 3 0 ∷ last ∷ []

-- the solver's steps on the circuit `carry` with input 2 tagged
abbrev pub steps_carry : List Step
steps_carry =
    step Root 3 1 0 ∷ step Root 5 2 0 ∷ step Sum 4 3 0 ∷ step Sum 1 4 0
    ∷ step Digits 4 4 4 ∷ step Digits 3 3 2 ∷ step Digits 5 4 1 ∷ []

-- two runs of case b with input 1
abbrev pub pair_b : List ℕ
pair_b = pair_bytes 2 (1 ∷ 4 ∷ 3 ∷ []) (1 ∷ 6 ∷ 5 ∷ [])

-- two records of case b that make a pair, and one between them that breaks a constraint
abbrev pub around_broken : List (List ℕ)
around_broken = (0 ∷ 1 ∷ 0 ∷ []) ∷ (0 ∷ 0 ∷ 0 ∷ []) ∷ (0 ∷ 2 ∷ 1 ∷ []) ∷ []

-- the bits of the circuit `bits` tagged, then two tags on the output
abbrev pub tags_bits : List Tag
tags_bits = is_binary 1 ∷ is_binary 2 ∷ is_binary 3 ∷ has_bits 4 3 ∷ is_most 4 6 ∷ []

-- .. and what then is shown: the sum of bits, at most 7, has three bits, and may be above 6
abbrev pub steps_bits : List Step
steps_bits = step Sum 4 1 0 ∷ step Digits 4 1 4 ∷ []

-- the inverse gadget: both are nonzero, then the output is divided out
abbrev pub both_nonzero : List Step
both_nonzero = step Nonzero 1 1 0 ∷ step Nonzero 2 1 0 ∷ []

abbrev pub steps_inverse : List Step
steps_inverse = both_nonzero ++ step Quotient 2 1 1 ∷ []

abbrev pub table : List Row
table =
    -- a: one product step marks the output
    solved_row circuit_a (step Product 2 1 0 ∷ []) 2 Fixed
    ∷ judged_row circuit_a (step Product 2 1 0 ∷ []) (1 ∷ 1 ∷ []) 2 Fixed
    -- b: nothing to be had; two runs that differ at output 2
    ∷ solved_row circuit_b [] 1 Open
    ∷ pair_row circuit_b 2 (0 ∷ 1 ∷ 0 ∷ []) (0 ∷ 2 ∷ 1 ∷ [])
    -- c: the file's length; the listing's numbers, steps, bounds, verdict and count; the last byte cut off
    ∷ read_row (circuit_bytes circuit_c) (numbers 13 4 1 3 4 113)
    ∷ solved_row circuit_c steps_c 4 Fixed
    ∷ judged_row circuit_c steps_c (1 ∷ 1 ∷ 1 ∷ 1 ∷ []) 4 Fixed
    ∷ bounded_row circuit_c steps_c (7 ∷ 1 ∷ 1 ∷ 1 ∷ [])
    ∷ read_row (take 112 (circuit_bytes circuit_c)) (unread 6 112)
    -- d: 1 + 2 + 4 is p itself; the outputs stay open, and two runs say why
    ∷ solved_row circuit_d (step Root 2 1 0 ∷ step Root 3 2 0 ∷ step Root 4 3 0 ∷ []) 1 Open
    ∷ pair_row circuit_d 2 (0 ∷ 0 ∷ 0 ∷ 0 ∷ []) (0 ∷ 1 ∷ 1 ∷ 1 ∷ [])
    -- .. so the digits step for 2 and the sum step for 1, whose only fault is a sum equal to p, are refused
    ∷ turned_row circuit_d (encoded (after_bits (step Digits 2 4 2))) 17 4
    ∷ turned_row circuit_d (encoded (after_bits (step Sum 1 4 0))) 17 4
    -- e: bound 0 by a double root, then marked by it
    ∷ solved_row circuit_e (step Root 1 1 0 ∷ step Zero 1 0 0 ∷ []) 1 Fixed
    -- f: nothing to be had; two runs
    ∷ solved_row circuit_f [] 0 Open
    ∷ pair_row circuit_f 1 (0 ∷ []) (1 ∷ [])
    -- .. so the product step for 1, whose only fault is that 1 stands in A and B too, is refused
    ∷ turned_row circuit_f (one_step 4 1 1 0) 17 1
    -- g: open, though the output has one value for each input
    ∷ solved_row circuit_g [] 1 Open
    -- h: one byte after c's last constraint
    ∷ read_row (circuit_bytes circuit_c ++ 0 ∷ []) (unread 10 113)
    -- i: a step of kind 9, one with target 0, a product step by c's sum
    ∷ turned_row circuit_a (one_step 9 2 1 0) 15 1
    ∷ turned_row circuit_a (one_step 4 0 1 0) 16 1
    ∷ turned_row circuit_c (one_step 4 2 4 0) 17 1
    -- .. and product steps whose only fault is that the constraint is linear, by A and by B; digits marks the output
    ∷ turned_row (copy true) (one_step 4 2 1 0) 17 1
    ∷ turned_row (copy false) (one_step 4 2 1 0) 17 1
    ∷ solved_row (copy true) (step Digits 2 1 2 ∷ []) 2 Fixed
    -- j: three numbers that aren't odd primes in range, the largest that is, one signal too many
    ∷ read_row (circuit_bytes (bare 2 1)) (unread 4 0)
    ∷ read_row (circuit_bytes (bare 9 1)) (unread 4 0)
    ∷ read_row (circuit_bytes (bare 2147483645 1)) (unread 4 0)
    ∷ read_row (circuit_bytes (bare 2147483647 1)) (numbers 2147483647 1 0 1 0 17)
    ∷ read_row (circuit_bytes (bare 7 257)) (unread 5 0)
    -- tags: a sum that is below p thanks to three of them, one tag shown and one not; without those of the inputs no sum, and none is shown
    ∷ tagged_row bits tags_bits solving (solved_as steps_bits 4 Fixed 1 5)
    ∷ tagged_row bits tags_bits (judging (encoded steps_bits)) (judged_as (1 ∷ 1 ∷ 1 ∷ 1 ∷ []) 4 Fixed 1 5)
    ∷ tagged_row bits tags_bits (bounding (encoded steps_bits)) (bounds (1 ∷ 1 ∷ 1 ∷ 7 ∷ []))
    ∷ tagged_row bits (has_bits 4 3 ∷ []) solving (solved_as (step Digits 4 1 4 ∷ []) 4 Fixed 0 1)
    ∷ tagged_row bits (has_bits 4 3 ∷ []) (judging (encoded steps_bits)) (judges (refused 17 1) buffer)
    -- marks that rest on a tag: with input 2 a bit all are marked, else only the inputs
    ∷ tagged_row carry (is_binary 2 ∷ []) solving (solved_as steps_carry 5 Fixed 0 0)
    ∷ solved_row carry (step Root 3 1 0 ∷ step Root 5 2 0 ∷ []) 2 Open
    -- c with its input tagged: 10 is lowered to 7 still, 7 isn't, of two tags the lower counts, and 2^4 - 1 is above p - 1
    ∷ tagged_row circuit_c (is_most 1 10 ∷ []) solving (solved_as steps_c 4 Fixed 0 0)
    ∷ tagged_row circuit_c (is_most 1 7 ∷ []) solving (solved_as steps_tagged 4 Fixed 0 0)
    ∷ tagged_row circuit_c (is_most 1 2 ∷ is_most 1 9 ∷ []) (bounding (encoded [])) (bounds (2 ∷ 12 ∷ 12 ∷ 12 ∷ []))
    ∷ tagged_row circuit_c (has_bits 1 4 ∷ is_binary 2 ∷ []) (bounding (encoded [])) (bounds (12 ∷ 12 ∷ 12 ∷ 12 ∷ []))
    -- b: runs with input 1 are no pair where the input is tagged 0, and are one where it is binary
    ∷ tagged_row circuit_b (is_binary 1 ∷ []) (pairing pair_b) (pairs (given 2))
    ∷ tagged_row circuit_b (is_binary 1 ∷ is_most 1 0 ∷ []) (pairing pair_b) (pairs (refused 28 1))
    -- wrong numbers and signals
    ∷ tagged_row circuit_a (is_binary 1 ∷ record { signal = 2; kind = Binary; number = 1 } ∷ []) solving (solves (refused 27 2) buffer)
    ∷ tagged_row circuit_a (has_bits 1 31 ∷ []) (judging []) (judges (refused 27 1) buffer)
    ∷ tagged_row circuit_a (is_most 1 7 ∷ []) (pairing []) (pairs (refused 27 1))
    ∷ tagged_row circuit_a (is_most 3 6 ∷ []) solving (solves (refused 27 1) buffer)
    -- idle steps of c: a root given twice, a sum that gives the bound that is there, a digit and an input marked again
    ∷ turned_row circuit_c (encoded padded_c) 29 4
    ∷ turned_row circuit_c (encoded (after_bits (step Sum 1 4 0) ++ step Sum 1 4 0 ∷ [])) 29 5
    ∷ tagged_row circuit_c (is_most 1 7 ∷ []) (judging (encoded (after_bits (step Sum 1 4 0)))) (judges (refused 29 4) buffer)
    ∷ turned_row circuit_c (encoded (after_bits (step Digits 2 4 2) ++ step Digits 2 4 2 ∷ [])) 29 5
    ∷ turned_row circuit_c (encoded (step Digits 1 4 2 ∷ [])) 17 1
    ∷ turned_row circuit_c (encoded (after_bits (step Digits 1 4 2))) 29 4
    -- .. a zero on an input tagged 0, which isn't met without the tag; an idle step before one that isn't met
    ∷ tagged_row circuit_b (is_most 1 0 ∷ []) (judging (one_step 3 1 0 0)) (judges (refused 29 1) buffer)
    ∷ turned_row circuit_b (one_step 3 1 0 0) 17 1
    ∷ turned_row circuit_e (encoded (step Root 1 1 0 ∷ step Root 1 1 0 ∷ step Product 1 1 0 ∷ [])) 29 2
    -- c renewed: padded, and with nothing idle; with the tag its sum is idle too
    ∷ renewed_row circuit_c padded_c steps_c
    ∷ renewed_row circuit_c steps_c steps_c
    ∷ tagged_row circuit_c (is_most 1 7 ∷ []) (renewing (encoded padded_c)) (renewed_as steps_tagged)
    ∷ tagged_row circuit_b (is_most 1 0 ∷ []) (renewing (one_step 3 1 0 0)) (renewed_as [])
    -- .. a step that isn't met, after an idle one; and 147 bytes of which 56 would be left, but the buffer has 112
    ∷ unrenewed_row circuit_c (step Root 2 1 0 ∷ step Root 2 1 0 ∷ step Zero 2 0 0 ∷ []) 17 3
    ∷ unrenewed_row circuit_c (steps_c ++ steps_c ++ steps_tagged) 25 0
    -- runs of g: the first; after a satisfying run the next one, not itself; after one that satisfies nothing the next too; after the last none
    ∷ run_row circuit_g (beginning 3) (0 ∷ 1 ∷ 0 ∷ [])
    ∷ run_row circuit_g (following (0 ∷ 1 ∷ 0 ∷ []) 3) (0 ∷ 1 ∷ 1 ∷ [])
    ∷ run_row circuit_g (following (0 ∷ 1 ∷ 6 ∷ []) 3) (1 ∷ 0 ∷ 1 ∷ [])
    ∷ run_row circuit_g (following (2 ∷ 6 ∷ 6 ∷ []) 3) (3 ∷ 0 ∷ 5 ∷ [])
    ∷ ended_row circuit_g (following (6 ∷ 0 ∷ 6 ∷ []) 3) 3
    ∷ ended_row circuit_g (following (6 ∷ 6 ∷ 6 ∷ []) 3) 3
    -- .. and of a circuit that nothing satisfies
    ∷ ended_row never (beginning 1) 1
    ∷ ended_row never (following (0 ∷ []) 1) 1
    -- .. a buffer or a run that is too short or too long, also with a value that is too large; two such values
    ∷ unlisted_row circuit_g (beginning 4) 4 31 0
    ∷ unlisted_row circuit_g (following (0 ∷ 1 ∷ 0 ∷ []) 2) 2 31 0
    ∷ unlisted_row circuit_g (following (0 ∷ 1 ∷ []) 3) 3 31 0
    ∷ unlisted_row circuit_g (following (7 ∷ 1 ∷ 0 ∷ 0 ∷ []) 3) 3 31 0
    ∷ unlisted_row circuit_g (following (6 ∷ 7 ∷ 7 ∷ []) 3) 3 31 2
    -- .. as many candidates as may be, with a length that is wrong, and more of them
    ∷ unlisted_row (bare 65521 1) (beginning 2) 2 31 0
    ∷ unlisted_row (bare 3 10) (beginning 9) 9 31 0
    ∷ unlisted_row (bare 65537 1) (beginning 2) 2 30 0
    ∷ unlisted_row (bare 3 11) (following [] 11) 11 30 0
    -- division: an output that is the input's inverse; where neither is an input both stay open, and two runs say why
    ∷ solved_row inverse_of steps_inverse 2 Fixed
    ∷ judged_row inverse_of steps_inverse (1 ∷ 1 ∷ []) 2 Fixed
    ∷ solved_row inverse_free both_nonzero 0 Open
    ∷ pair_row inverse_free 2 (1 ∷ 1 ∷ []) (2 ∷ 4 ∷ [])
    -- .. three steps for one target
    ∷ solved_row only_one (step Sum 1 1 0 ∷ step Nonzero 1 1 0 ∷ step Digits 1 1 1 ∷ []) 1 Fixed
    -- .. a quotient of two inputs; with other coefficients, constants and signals wherever they may stand; g, once its input has an inverse
    ∷ solved_row quotient_of (step Nonzero 2 1 0 ∷ step Nonzero 4 1 0 ∷ step Quotient 3 2 2 ∷ step Quotient 4 1 2 ∷ []) 4 Fixed
    ∷ solved_row wide_quotients (step Nonzero 2 1 0 ∷ step Quotient 4 1 2 ∷ step Quotient 3 2 2 ∷ []) 4 Fixed
    ∷ solved_row guarded
    (step Nonzero 1 3 0 ∷ step Nonzero 4 3 0 ∷ step Quotient 2 2 1 ∷ step Quotient 3 1 1 ∷ step Quotient 4 3 1 ∷ []) 4 Fixed
    -- .. digits come before quotients, though by a higher constraint
    ∷ solved_row inverse_equal (step Nonzero 1 1 0 ∷ step Nonzero 2 1 0 ∷ step Digits 2 2 2 ∷ []) 2 Fixed
    -- .. nonzero: 0 is no constant other than 0, a constant beside the target is a second term
    ∷ turned_row circuit_g (encoded (step Nonzero 1 2 0 ∷ [])) 17 1
    ∷ turned_row shifted (encoded (step Nonzero 1 1 0 ∷ [])) 17 1
    ∷ judged_row shifted (step Nonzero 2 1 0 ∷ []) (1 ∷ 0 ∷ []) 1 Open
    -- .. quotient: by a reference that may be 0, and two runs that say why
    ∷ turned_row quotient_free (encoded (step Quotient 3 1 2 ∷ [])) 17 1
    ∷ pair_row quotient_free 3 (0 ∷ 0 ∷ 0 ∷ []) (0 ∷ 0 ∷ 1 ∷ [])
    -- .. by one that isn't marked, that has no nonzero mark yet, that is the target; where the target is in C too, and two runs that say why
    ∷ turned_row inverse_free (encoded (both_nonzero ++ step Quotient 2 1 1 ∷ [])) 17 3
    ∷ turned_row inverse_of (encoded (step Quotient 2 1 1 ∷ [])) 17 1
    ∷ turned_row own_inverse (encoded (step Nonzero 1 1 0 ∷ step Quotient 1 1 1 ∷ [])) 17 2
    ∷ turned_row times_itself (encoded (step Nonzero 1 1 0 ∷ step Quotient 2 2 1 ∷ [])) 17 2
    ∷ pair_row times_itself 2 (1 ∷ 0 ∷ 1 ∷ []) (1 ∷ 1 ∷ 1 ∷ [])
    -- .. a nonzero mark given twice, and renewed once
    ∷ turned_row inverse_of (encoded (step Nonzero 1 1 0 ∷ step Nonzero 1 1 0 ∷ [])) 29 2
    ∷ renewed_row inverse_of (step Nonzero 1 1 0 ∷ step Nonzero 1 1 0 ∷ step Nonzero 2 1 0 ∷ step Quotient 2 1 1 ∷ []) steps_inverse
    -- watched runs of b: a record that breaks a constraint takes a place, so the two around it are within 3, and not within 2
    ∷ watched_row circuit_b around_broken 3 (record { q = 2; earlier = 1; later = 3 }) (0 ∷ 1 ∷ 0 ∷ []) (0 ∷ 2 ∷ 1 ∷ [])
    ∷ unpaired_row circuit_b around_broken 2
    -- .. the nearest of those that a record makes a pair with, though one with another input is nearer
    ∷ watched_row circuit_b ((1 ∷ 4 ∷ 3 ∷ []) ∷ (1 ∷ 4 ∷ 3 ∷ []) ∷ (0 ∷ 1 ∷ 0 ∷ []) ∷ (1 ∷ 6 ∷ 5 ∷ []) ∷ []) 0
    (record { q = 2; earlier = 2; later = 4 }) (1 ∷ 4 ∷ 3 ∷ []) (1 ∷ 6 ∷ 5 ∷ [])
    -- .. of two pairs the one whose later record comes first
    ∷ watched_row circuit_b ((0 ∷ 1 ∷ 0 ∷ []) ∷ (1 ∷ 4 ∷ 3 ∷ []) ∷ (1 ∷ 6 ∷ 5 ∷ []) ∷ (0 ∷ 2 ∷ 1 ∷ []) ∷ []) 256
    (record { q = 2; earlier = 2; later = 3 }) (1 ∷ 4 ∷ 3 ∷ []) (1 ∷ 6 ∷ 5 ∷ [])
    -- .. of d: three outputs differ, and the lowest is named; of g: runs that differ at the inner signal alone; a file of no bytes
    ∷ watched_row circuit_d ((0 ∷ 0 ∷ 0 ∷ 0 ∷ []) ∷ (0 ∷ 1 ∷ 1 ∷ 1 ∷ []) ∷ []) 2 (record { q = 2; earlier = 1; later = 2 })
    (0 ∷ 0 ∷ 0 ∷ 0 ∷ []) (0 ∷ 1 ∷ 1 ∷ 1 ∷ [])
    ∷ unpaired_row circuit_g ((0 ∷ 1 ∷ 0 ∷ []) ∷ (0 ∷ 1 ∷ 1 ∷ []) ∷ (0 ∷ 1 ∷ 6 ∷ []) ∷ []) 0
    ∷ unpaired_row circuit_b [] 0
    -- .. a record and a value more; a value of p after a pair; windows and a buffer of wrong sizes
    ∷ unwatched_row circuit_b (take 16 (records_bytes around_broken)) 0 31 32 0
    ∷ unwatched_row circuit_b (records_bytes ((0 ∷ 1 ∷ 0 ∷ []) ∷ (0 ∷ 2 ∷ 1 ∷ []) ∷ (0 ∷ 7 ∷ 1 ∷ []) ∷ [])) 0 31 33 3
    ∷ unwatched_row circuit_b (records_bytes around_broken) 1 31 34 0
    ∷ unwatched_row circuit_b (records_bytes around_broken) 257 31 34 0
    ∷ unwatched_row circuit_b (records_bytes around_broken) 0 30 34 0
    ∷ []
