-- `runs::evaluate::eval_form`: at each turn the whole value is the sum so far and what is left of the form.
use Rattle.std.proofs.Common.{◌≡◌, ◌+◌, ◌-◌, ◌*◌, ◌≤◌}
use Rattle.circuit.specs.Circuit.{eval}
use Rattle.circuit.specs.Reader.{form_in}
use Rattle.circuit.specs.Run.{values_in}
use Rattle.runs.proofs.EvalLaws.{whole_from}
use Rattle.runs.proofs.evaluate.eval_form.Given as goal

abbrev pub invariant-loop-i : goal.invariant-loop-i
invariant-loop-i l =
    (l.sum ≤ 281470681677825 * l.i)
    × (eval (form_in l.part) (values_in l.values) ≡ whole_from l.part (values_in l.values) (l.i-end - l.i) (1 + 6 * l.i) l.sum)
