-- `solver::nonzeros::note`: the form's one term, if it has one, and what is noted at its signal.
use Rattle.std.proofs.Common.{arith, sym, ◌∙◌}
use Rattle.circuit.specs.Reader.{form_in}
use Rattle.rules.specs.Rows.{at}
use Rattle.solver.proofs.NonzeroLaws as laws
use Rattle.solver.proofs.nonzeros.note.Goals as goal
use Rattle.solver.proofs.nonzeros.note.Goals.{else-place-firsts-via-then-place-firsts+else-firsts-place-eq0, else-place-firsts-via-else-place-firsts}

pub returns-in_default : goal.returns-in_default
returns-in_default c = laws.note_none (form_in c.args.form.now) c.args.k (sym c.in_default.is ∙ c.sole_signal.ensures.is)

pub returns-then-firsts-place-eq0 : goal.returns-then-firsts-place-eq0
unfolding at
returns-then-firsts-place-eq0 c =
    laws.note_set (form_in c.args.form.now) c.args.k c.in-Some.signal (sym c.in-Some.is ∙ c.sole_signal.ensures.is) c.if-place-firsts.true
    c.if-firsts-place-eq0.true

pub returns-else-place-firsts : goal.returns-else-place-firsts
unfolding at
returns-else-place-firsts c =
    laws.note_else (form_in c.args.form.now) c.args.k c.in-Some.signal (sym c.in-Some.is ∙ c.sole_signal.ensures.is)
    (λ m z.
    elim c.else-place-firsts.branch [
      | else-place-firsts-via-then-place-firsts+else-firsts-place-eq0 w ↦ w.if-firsts-place-eq0.false z
      | else-place-firsts-via-else-place-firsts w ↦ absurd (omega (arith, w.if-place-firsts.false))
    ])
