-- `rules::sums::sum_step`: the sum for the place of the target, where the constraint is linear.
use Rattle.std.proofs.Common.{sym, ◌∙◌}
use Rattle.rules.proofs.SumPlaces as laws
use Rattle.rules.proofs.sums.sum_step.Goals as goal

pub returns-then-not-is_linear : goal.returns-then-not-is_linear
returns-then-not-is_linear c n P L l m = laws.step_crooked _ _ _ _ _ (sym c.is_linear.ensures ∙ c.if-not-is_linear.true)

pub returns-in_err-place : goal.returns-in_err-place
returns-in_err-place c n P L l m =
    rw c.from_residual.ensures
    (laws.step_absent P L _ (sym c.is_linear.ensures ∙ c.if-not-is_linear.false) l m (sym c.in_err-place.ensures))

pub returns : goal.returns
returns c n P L l m =
    let there = laws.place_some _ _ _ (sym c.in_ok-place.ensures) in
    laws.step_is P L _ (sym c.is_linear.ensures ∙ c.if-not-is_linear.false) l m there.0 there.1 _ c.total.ensures
