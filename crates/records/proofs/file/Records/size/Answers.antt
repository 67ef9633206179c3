-- `records::file::Records::size`: a circuit that isn't refused has 1 to 256 signals.
use Rattle.std.proofs.Common.{arith}
use Rattle.circuit.proofs.Sized.{call_sized}
use Rattle.records.proofs.file.Records.size.Goals as goal

pub returns-clause-least : goal.returns-clause-least
returns-clause-least c = let Z = call_sized c.args.self.file.read in omega (arith, Z.formed.n_least, Z.is_n)

pub returns-clause-most : goal.returns-clause-most
returns-clause-most c = let Z = call_sized c.args.self.file.read in omega (arith, Z.formed.n_most, Z.is_n)
