-- What is left of the form after the term found, which is on a signal of 0 to 256.
use Rattle.std.proofs.Common.{◌≡◌, ◌≤◌}
use Rattle.std.specs.Prelude.{IfSome}
use Rattle.circuit.specs.Reader.{signals_most, form_in}
use Rattle.rules.specs.Steps.{sole, sole_after}
use Rattle.rules.proofs.Walk.{left_of}
use Rattle.rules.proofs.form.sole_signal.Given as goal

abbrev pub invariant-loop-i : goal.invariant-loop-i
invariant-loop-i l = (sole (form_in l.part) ≡ sole_after l.found (left_of l.part l.i-end l.i)) × IfSome l.found (λ s. s ≤ signals_most)
