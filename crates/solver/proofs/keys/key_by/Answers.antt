use Rattle.std.proofs.Common.{sym, ◌∙◌}
use Rattle.solver.proofs.KeyWays as laws
use Rattle.solver.proofs.keys.key_by.Goals as goal

pub returns-then-not-is_linear : goal.returns-then-not-is_linear
returns-then-not-is_linear c n P W R low = c.root_key.ensures n P W (sym c.is_linear.ensures ∙ c.if-not-is_linear.true)

pub returns-in_err-low : goal.returns-in_err-low
returns-in_err-low c n P W R low =
    rw c.from_residual.ensures
    (laws.sum_none _ P (sym c.is_linear.ensures ∙ c.if-not-is_linear.false) (c.in_err-low.ensures n _ P R low))

pub returns : goal.returns
returns c n P W R low =
    laws.sum_found _ P (sym c.is_linear.ensures ∙ c.if-not-is_linear.false) (c.in_ok-low.ensures n _ P R low)
