-- `derivation::walk::walk_file`: the larger array has room for any file.
use Rattle.std.proofs.Common.{rules}
use Rattle.circuit.proofs.Sized.{call_sized}
use Rattle.derivation.proofs.CallLaws.{most_room}
use Rattle.derivation.proofs.walk.walk_file.Goals as goal

pub walk_sized-requires-else-places-le-FEW_ENTRIES : goal.walk_sized-requires-else-places-le-FEW_ENTRIES
walk_sized-requires-else-places-le-FEW_ENTRIES c = (most_room _ _ (call_sized c.args.file.now.read), search rules)
