-- `renewal::call::renew`: RENEWED by what is answered and left; the derivation is lent as bytes.
use Rattle.std.proofs.Common.{arith}
use Rattle.circuit.specs.Bytes.{byte_at}
use Rattle.renewal.proofs.CallLaws.{renewed_kept}
use Rattle.renewal.proofs.call.renew.Goals as goal

pub returns-clause-renewed : goal.returns-clause-renewed
unfolding byte_at
returns-clause-renewed c = rw c.from.ensures (renewed_kept (record { below = λ k h. omega (arith, c.type_inv.derivation k) }) c.renewed.ensures)
