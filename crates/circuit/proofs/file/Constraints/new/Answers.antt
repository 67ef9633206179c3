-- `circuit::file::Constraints::new`: a circuit has no more constraints than the table has room for.
use Rattle.circuit.proofs.Sized.{call_sized}
use Rattle.circuit.proofs.OffsetLaws.{sized_offsets}
use Rattle.circuit.proofs.file.Constraints.new.Goals as goal

pub invariant_of-result : goal.invariant_of-result
invariant_of-result c = record { placed = sized_offsets (call_sized c.args.file.read) c.offsets.ensures }
