-- `field::large_odd_prime`: that the whole table is enough, and that its inverses are right, is computed.
use Rattle.std.proofs.Common.{refl, arith}
use Rattle.field.specs.Prime.{trial, no_divisor}
use Rattle.field.specs.Divisors.{complete, paired}
use Rattle.field.proofs.large_odd_prime.Goals as goal

pub odd_prime_by-requires : goal.odd_prime_by-requires
unfolding complete no_divisor trial paired
odd_prime_by-requires c = (omega arith, record { count = 23169; all = refl; past = omega arith }, refl)
