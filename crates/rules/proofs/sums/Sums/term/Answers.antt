-- `rules::sums::Sums::term`: each way out is a case of the term.
use Rattle.rules.specs.Rows.{coef_on, entry_at, nothing}
use Rattle.rules.proofs.SumLaws as laws
use Rattle.rules.proofs.sums.Sums.term.Goals as goal

pub returns : goal.returns
unfolding coef_on entry_at nothing
returns c = (
  laws.term_is _ _ _ _ _ c.requires.0 c.if-i-e.false _ c.multiply_add.ensures.0
      _ _ c.ceiling-most.ensures c.product.ensures.0,
  c.product.ensures.1,
)
