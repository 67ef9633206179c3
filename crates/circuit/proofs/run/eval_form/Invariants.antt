-- `circuit::run::eval_form`: at each turn the whole value is the sum so far and what is left of the form.
use Prim.Native.Nat.{◌+◌, ◌*◌, ◌-◌, ◌≤◌}
use mathlib.Core.Path.{◌≡◌}
use Rattle.circuit.specs.Reader.{form_in}
use Rattle.circuit.specs.Run.{values_in, eval_mod}
use Rattle.circuit.proofs.RunLaws.{sum_from}
use Rattle.circuit.proofs.run.eval_form.Given as goal

abbrev pub invariant-loop-i : goal.invariant-loop-i
invariant-loop-i l =
    (l.sum ≤ 4294967295 * l.i)
    × (eval_mod l.p (form_in l.part) (values_in l.values) ≡ sum_from l.p l.part (values_in l.values) (l.i-end - l.i) (1 + 6 * l.i) l.sum)
