-- `circuit::offsets::offsets`: an entry more.
use Prim.Native.Nat.{ℕ, ◌+◌, ◌-◌}
use mathlib.Core.Path.{◌∙◌}
use native.Mathlib.Omega.{arith}
use lib.ListN.{replicate, length-take}
use Rattle.circuit.proofs.OffsetLaws as laws
use Rattle.circuit.proofs.offsets.offsets.Goals as goal

pub loop-entry-init : goal.loop-entry-init
loop-entry-init c = laws.filling_start _ _ (omega (arith, length-take {A = ℕ} (c.min.result + 1 - 1) (replicate 512 0)))

pub loop-entry-preserved : goal.loop-entry-preserved
loop-entry-preserved c =
    laws.filling_again c.loop-entry.invariant c.loop-entry-test.true c.after_form_at-b.ensures c.after_form_at-c.ensures c.after_form_at-at.ensures

pub returns : goal.returns
returns c =
    let written = c.min.result + 1 - 1 in
    laws.filling_end c.loop-entry.invariant c.loop-entry-test.false (length-take written (replicate 512 0) ∙ omega (arith, c.min.ensures)) written
