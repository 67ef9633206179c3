-- How the functions inside the call run: what they promise one another, not what the call means.
use Rattle.std.specs.Prelude.{ℕ, zero, suc, ◌+◌, ◌*◌, ◌/◌, ◌%◌, ◌^◌, ◌≤◌, ◌<◌, ◌≡◌, ◌≢◌, Bool, true, cond, ◌&&◌, eqb, List, length, get_or, set, Option, None, Some}
use Rattle.circuit.specs.Run.{values_in}
use Rattle.records.specs.declared.answer.Watched.{Watched}
use Rattle.records.specs.declared.recent.Recent.{Recent}
use Rattle.records.specs.Recorded.{Recorded, records_in, distance}

-- A hash of the values of signals 1 to s, each added and then multiplied in, modulo 2^64. The number is 2^64 by the golden ratio (Fibonacci hashing).
abbrev pub multiplier : ℕ
multiplier = 11400714819323198485

unfoldable pub hash_of : (ℕ → ℕ) → ℕ → ℕ
hash_of v zero = 0
hash_of v (suc s) = (hash_of v s + v (suc s)) % 2 ^ 64 * multiplier % 2 ^ 64

-- the bucket of a hash: the high eight bits
unfoldable pub bucket_of : ℕ → ℕ
bucket_of h = h / 2 ^ 56

-- .. and of record j
abbrev pub bucket : Recorded → ℕ → ℕ
bucket R j = bucket_of (hash_of (R.value j) R.i)

-- record j satisfies the circuit and its inputs are in bucket x
unfoldable pub in_bucket : Recorded → ℕ → ℕ → Bool
in_bucket R x j = R.satisfies j && eqb (bucket R j) x

-- the last number before k that passes a test; 0 where there is none
unfoldable pub last_before : (ℕ → Bool) → ℕ → ℕ
last_before test zero = 0
last_before test (suc k) = cond (test k) k (last_before test k)

-- What is kept before record k: of each bucket the last record in it, and of each record of the last 256 that satisfies the circuit the last before it in its
-- bucket, and its hash.
pub record Kept (R : Recorded) (k : ℕ) (x : Recent) : Type 0 where
  pub wide : length x.heads ≡ 256
  pub deep : length x.links ≡ 256
  pub full : length x.hashes ≡ 256
  pub head : (y : ℕ) → y < 256 → get_or x.heads y 0 ≡ last_before (in_bucket R y) k
  pub link : (j : ℕ) → 1 ≤ j → j < k → k ≤ j + 256 → R.satisfies j ≡ true → get_or x.links (j % 256) 0 ≡ last_before (in_bucket R (bucket R j)) j
  pub hashed : (j : ℕ) → 1 ≤ j → j < k → k ≤ j + 256 → R.satisfies j ≡ true → get_or x.hashes (j % 256) 0 ≡ hash_of (R.value j) R.i

-- record k with a hash taken in
abbrev pub with_record : Recent → ℕ → ℕ → Recent
with_record x k h =
    record {
      heads = set x.heads (bucket_of h) k;
      links = set x.links (k % 256) (get_or x.heads (bucket_of h) 0);
      hashes = set x.hashes (k % 256) h;
    }

-- What a comparison of record j with values v finds: none where it agrees at inputs and outputs, else a signal that isn't above i where an input differs, and
-- the lowest output where none does.
pub record Unlike (R : Recorded) (j : ℕ) (v : ℕ → ℕ) (q : ℕ) : Type 0 where
  pub input : q ≤ R.i → ((s : ℕ) → 1 ≤ s → s ≤ R.i → R.value j s ≡ v s) → ⊥
  pub output : R.i < q → (q ≤ R.i + R.o) × ((s : ℕ) → 1 ≤ s → s < q → R.value j s ≡ v s) × (R.value j q ≢ v q)

abbrev pub Compared : Recorded → ℕ → (ℕ → ℕ) → Option ℕ → Type 0
Compared R j v None = (s : ℕ) → 1 ≤ s → s ≤ R.i + R.o → R.value j s ≡ v s
Compared R j v (Some q) = Unlike R j v q

-- Record k, whose run is lent, satisfies the circuit; what was kept of those before it, none of which makes a pair with one before it.
pub record Here (R : Recorded) (w k : ℕ) (x : Recent) (run : List ℕ) : Type 0 where
  pub least : 1 ≤ k
  pub most : k ≤ R.count
  pub narrow : w ≤ 256
  pub kept : Kept R k x
  pub satisfied : R.satisfies k ≡ true
  pub values : values_in run ≡ R.value k
  pub none : (j : ℕ) → 1 ≤ j → j < k → distance R w j ≡ 0

-- no record before k makes a pair, and of them is kept what is to be
pub record Searched (R : Recorded) (w k : ℕ) (x : Recent) : Type 0 where
  pub kept : Kept R k x
  pub none : (j : ℕ) → 1 ≤ j → j < k → distance R w j ≡ 0

-- a pair of two records that are there, at a signal of 16 bits
pub record Placed (n : ℕ) (s : List ℕ) (x : Watched) : Type 0 where
  pub earlier_least : 1 ≤ x.earlier
  pub earlier_most : x.earlier ≤ records_in n s
  pub later_least : 1 ≤ x.later
  pub later_most : x.later ≤ records_in n s
  pub small : x.q < 65536

-- the constant one, and zeros after n values: what an array holds into which runs of n signals are put
pub record IsRunFor (n : ℕ) (v : ℕ → ℕ) : Type 0 where
  pub constant : v 0 ≡ 1
  pub past : (s : ℕ) → n < s → v s ≡ 0
