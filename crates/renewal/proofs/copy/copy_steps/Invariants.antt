-- `renewal::copy::copy_steps`: before step k those of the steps before it that aren't noted as idle are written.
use Rattle.std.proofs.Common.{◌≡◌, ◌≤◌, length}
use Rattle.circuit.specs.Bytes.{u16_at}
use Rattle.derivation.specs.Steps.{steps_of}
use Rattle.renewal.specs.Inner.{Bytes}
use Rattle.renewal.proofs.Copies.{Copying}
use Rattle.renewal.proofs.copy.copy_steps.Given as goal

abbrev pub invariant-loop-k : goal.invariant-loop-k
invariant-loop-k l =
    let d = l.derivation.bytes.now in
    (l.index ≤ l.k) × (Bytes d → length (steps_of d) ≡ u16_at d 5 → Copying d l.idle l.fn.output l.output l.index l.k)
