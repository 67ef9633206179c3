-- `rules::gathered::Weighed::stands_out`: marked, or its weight against the sum.
use Rattle.std.proofs.Common.{sym, ◌∙◌}
use Rattle.rules.specs.Added.{weight_by}
use Rattle.rules.proofs.DigitsLaws as laws
use Rattle.rules.proofs.gathered.Weighed.stands_out.Goals as goal

pub returns-then-not-is_live : goal.returns-then-not-is_live
returns-then-not-is_live c = laws.exceeds_dead _ _ _ (sym c.is_live.ensures ∙ c.if-not-is_live.true)

pub returns : goal.returns
unfolding weight_by
returns c =
    laws.exceeds_live _ _ _ (sym c.is_live.ensures ∙ c.if-not-is_live.false) _ _ c.weight_of-w.ensures.0 c.smaller_sum.ensures
