use Rattle.rules.proofs.ReducedForm.{Walking}
use Rattle.rules.proofs.reduced.add_form.Given as goal

-- at each turn every signal has what the terms passed add to it
abbrev pub invariant-loop-i : goal.invariant-loop-i
invariant-loop-i l = Walking l.p l.factor l.bit l.part l.initial.reduced l.reduced l.i-end l.i
