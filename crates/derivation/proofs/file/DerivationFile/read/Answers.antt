-- `derivation::file::DerivationFile::read`: what meets no refusal is framed.
use Rattle.std.proofs.Common.{ap}
use Rattle.circuit.specs.Answer.{answer_of}
use Rattle.derivation.proofs.Exact.{framed_fine}
use Rattle.derivation.proofs.file.DerivationFile.read.Goals as goal

pub invariant_of-result : goal.invariant_of-result
invariant_of-result c = record { framed = framed_fine c.check_frame.ensures (ap answer_of c.in_ok-check_frame.was) }
