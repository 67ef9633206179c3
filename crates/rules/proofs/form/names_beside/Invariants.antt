use Rattle.rules.specs.View.{mark_in}
use Rattle.rules.proofs.Walk.{Naming}
use Rattle.rules.proofs.form.names_beside.Given as goal

abbrev pub invariant-loop-i : goal.invariant-loop-i
invariant-loop-i l = Naming l.part (mark_in l.marks) l.t l.i-end l.i l.names
