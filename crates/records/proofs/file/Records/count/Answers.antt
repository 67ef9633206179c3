-- `records::file::Records::count`: by the size of a record.
use Rattle.std.proofs.Common.{refl}
use Rattle.records.specs.Recorded.{records_in}
use Rattle.records.proofs.file.Records.count.Goals as goal

pub returns : goal.returns
unfolding records_in
returns c = rw c.size.ensures.is refl
