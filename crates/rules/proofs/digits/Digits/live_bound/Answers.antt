-- `rules::digits::Digits::live_bound`: the entry's bound, or 0.
use Rattle.std.proofs.Common.{sym, ◌∙◌}
use Rattle.laws.proofs.Sum.{keep_true, keep_false}
use Rattle.rules.specs.Live.{live_bound}
use Rattle.rules.proofs.digits.Digits.live_bound.Goals as goal

pub returns-then-is_live : goal.returns-then-is_live
unfolding live_bound
returns-then-is_live c = c.bound_at.ensures ∙ sym (keep_true _ _ (sym c.is_live.ensures ∙ c.if-is_live.true))

pub returns-else-is_live : goal.returns-else-is_live
unfolding live_bound
returns-else-is_live c = sym (keep_false _ _ (sym c.is_live.ensures ∙ c.if-is_live.false))
