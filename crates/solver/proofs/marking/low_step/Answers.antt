-- `solver::marking::low_step`: loose where it is linear, else a product or a quotient at the lone signal.
use Rattle.std.proofs.Common.{sym, refl, ◌∙◌}
use Rattle.solver.proofs.MarkKeyLaws as laws
use Rattle.solver.proofs.marking.low_step.Goals as goal

pub returns-in_err-lowest : goal.returns-in_err-lowest
returns-in_err-lowest c p n b h W L =
    rw c.from_residual.ensures (laws.digits_none (sym c.is_linear.ensures ∙ c.if-is_linear.true) (c.in_err-lowest.ensures p n _ h L))

pub returns-then-is_linear : goal.returns-then-is_linear
returns-then-is_linear c p n b h W L =
    laws.digits_loose (sym c.is_linear.ensures ∙ c.if-is_linear.true) (c.in_ok-lowest.ensures p n _ h L) refl

pub returns-in_err-lone : goal.returns-in_err-lone
returns-in_err-lone c p n b h W L =
    rw c.from_residual-in_err-lone.ensures (laws.lone_none (sym c.is_linear.ensures ∙ c.if-is_linear.false) (c.in_err-lone.ensures p n _ W L))

pub returns-then-lone-eq-IN_C : goal.returns-then-lone-eq-IN_C
returns-then-lone-eq-IN_C c p n b h W L =
    laws.lone_product (sym c.is_linear.ensures ∙ c.if-is_linear.false) (c.in_ok-lone.ensures p n _ W L) c.if-lone-eq-IN_C.true
    (rw c.from-target.ensures refl)

pub returns-in_err-divisor : goal.returns-in_err-divisor
returns-in_err-divisor c p n b h W L =
    rw c.from_residual-in_err-divisor.ensures
    (laws.lone_undivided (sym c.is_linear.ensures ∙ c.if-is_linear.false) (c.in_ok-lone.ensures p n _ W L) c.if-lone-eq-IN_C.false
    c.in_err-divisor.ensures)

pub returns : goal.returns
returns c p n b h W L =
    laws.lone_quotient (sym c.is_linear.ensures ∙ c.if-is_linear.false) (c.in_ok-lone.ensures p n _ W L) c.if-lone-eq-IN_C.false W
    c.in_ok-divisor.ensures (rw c.from-target.ensures refl)
