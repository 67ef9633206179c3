use Rattle.rules.proofs.Walk.{Adding}
use Rattle.rules.proofs.form.coefficients.Given as goal

abbrev pub invariant-loop-i : goal.invariant-loop-i
invariant-loop-i l = Adding l.part 0 l.i-end l.i l.constant × Adding l.part l.t l.i-end l.i l.coef
