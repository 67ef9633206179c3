-- `rules::digits::Digits::is_crowded`: the sum of the bounds of the entries passed.
use Rattle.std.proofs.Common.{arith, ◌∙◌}
use Rattle.rules.specs.Rows.{entry_at, nothing}
use Rattle.rules.specs.Live.{bounds_on}
use Rattle.rules.proofs.SumLaws as laws
use Rattle.rules.proofs.digits.Digits.is_crowded.Goals as goal

pub loop-entry-init : goal.loop-entry-init
loop-entry-init c = record { fits = omega arith; is = laws.sum_start _ }

pub loop-entry-preserved : goal.loop-entry-preserved
unfolding bounds_on entry_at nothing
loop-entry-preserved c =
    record { fits = omega arith; is = laws.sum_on _ _ _ _ c.loop-entry.invariant.is (c.from-reach.ensures ∙ c.live_bound.ensures) }

pub returns-then-from-reach : goal.returns-then-from-reach
unfolding bounds_on entry_at nothing
returns-then-from-reach c e =
    laws.sum_over _ c.loop-entry.entry-index _ c.loop-entry.reach _ _ c.loop-entry.invariant.is
    (c.from-reach.ensures ∙ c.live_bound.ensures) c.loop-entry-test.true (omega arith)
