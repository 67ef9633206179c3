-- `rules::digits::is_among`: unless x is found, no entry passed has it.
use Rattle.std.proofs.Common.{sym, ◌∙◌, arith, below_more}
use Rattle.laws.proofs.Sum.{true_or_false}
use Rattle.rules.specs.Rows.{coef_on, entry_at, nothing}
use Rattle.rules.proofs.digits.is_among.Goals as goal
use Rattle.rules.proofs.digits.is_among.Goals.{then-entry-x, else-entry-x}

pub loop-entry-preserved : goal.loop-entry-preserved
unfolding coef_on entry_at nothing
loop-entry-preserved c =
    elim c.if-entry-x.branch [
      | then-entry-x w ↦ λ e. true_or_false _ w.found-is e
      | else-entry-x w ↦ λ e. below_more _ _ (c.loop-entry.invariant (sym w.found-is ∙ e)) w.if-entry-x.false
    ]

pub returns : goal.returns
returns c e u l = c.loop-entry.invariant e u (omega arith)
