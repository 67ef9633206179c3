-- `solver::search::divisor_of`: the form's one term, if it has one, and its signal's nonzero mark.
use Rattle.std.proofs.Common.{sym, ◌∙◌}
use Rattle.rules.specs.View.{mark_in}
use Rattle.solver.proofs.SearchLaws as laws
use Rattle.solver.proofs.search.divisor_of.Goals as goal
use Rattle.solver.proofs.search.divisor_of.Goals.{then-signal-eq0-via-then-signal-eq0, then-signal-eq0-via-else-signal-eq0+then-not-mark_at}

pub returns-in_err-signal : goal.returns-in_err-signal
returns-in_err-signal c = rw c.from_residual.ensures (laws.divisor_none _ _ c.in_err-signal.ensures.is)

pub returns-then-signal-eq0 : goal.returns-then-signal-eq0
returns-then-signal-eq0 c =
    let is = c.in_ok-signal.ensures.is in
    elim c.then-signal-eq0.branch [
      | then-signal-eq0-via-then-signal-eq0 w ↦ laws.divisor_constant _ _ _ is w.if-signal-eq0.true
      | then-signal-eq0-via-else-signal-eq0+then-not-mark_at w ↦ laws.divisor_free _ _ _ is (sym w.mark_at.ensures ∙ w.if-not-mark_at.true)
    ]

pub returns : goal.returns
returns c =
    laws.divisor_some _ (mark_in c.args.nonzeros.now) _ c.in_ok-signal.ensures.is c.if-signal-eq0.false (sym c.mark_at.ensures ∙ c.if-not-mark_at.false)
