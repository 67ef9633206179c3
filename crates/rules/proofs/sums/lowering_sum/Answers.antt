-- `rules::sums::lowering_sum`: the sum for the place with the highest bound lowers that bound, or none lowers one.
use Rattle.std.proofs.Common.{arith}
use Rattle.rules.specs.Rows.{signal_on, entry_at, nothing}
use Rattle.rules.proofs.SumPlaces as laws
use Rattle.rules.proofs.sums.lowering_sum.Goals as goal

pub returns-in_err-place : goal.returns-in_err-place
returns-in_err-place c n K P L low = rw c.from_residual.ensures (laws.lowering_none P L _ low c.in_err-place.ensures.found)

pub returns-in_err-bound : goal.returns-in_err-bound
unfolding signal_on entry_at nothing
returns-in_err-bound c n K P L low =
    rw c.from_residual-in_err-bound.ensures (laws.lowering_over P L _ low c.in_ok-place.ensures.found (omega arith) c.in_err-bound.ensures)

pub returns : goal.returns
unfolding signal_on entry_at nothing
returns c n K P L low =
    rw c.from.ensures (laws.lowering_found P L _ low c.in_ok-place.ensures.found (omega arith) c.in_ok-bound.ensures)
