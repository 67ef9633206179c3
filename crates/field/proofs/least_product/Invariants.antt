-- What is kept is at most each product so far.
use Rattle.std.proofs.Common.{ℕ, ◌*◌, ◌%◌, ◌≤◌, ◌<◌, get_or}
use Rattle.field.proofs.least_product.Given as goal

abbrev pub invariant-loop-v : goal.invariant-loop-v
invariant-loop-v l = (j : ℕ) → j < l.v-index → l.least ≤ l.p * get_or l.run j 0 % 4294967296
