-- `rules::sums::Sums::ceiling`: 1 for the constant, else the bound.
use Rattle.std.proofs.Common.{sym, ◌∙◌}
use Rattle.laws.specs.Rules.{ceiling}
use Rattle.rules.specs.Rows.{bound_on, signal_on, entry_at, nothing}
use Rattle.rules.proofs.SumLaws.{ceiling_signal}
use Rattle.rules.proofs.sums.Sums.ceiling.Goals as goal

pub returns-then-i-eq0 : goal.returns-then-i-eq0
unfolding ceiling
returns-then-i-eq0 c = rw c.if-i-eq0.true

pub returns : goal.returns
unfolding bound_on signal_on entry_at nothing
returns c = c.bound.ensures ∙ sym (ceiling_signal _ _ c.if-i-eq0.false)
