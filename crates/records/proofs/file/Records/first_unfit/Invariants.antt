-- `records::file::Records::first_unfit`: at each turn the answer is what is found from record k on.
use Rattle.std.proofs.Common.{◌≡◌, suc, ◌-◌}
use Rattle.circuit.specs.Runs.{first_from}
use Rattle.records.specs.Recorded.{records_in}
use Rattle.records.specs.Call.{fits}
use Rattle.records.proofs.file.Records.first_unfit.Given as goal

abbrev pub invariant-loop-k : goal.invariant-loop-k
invariant-loop-k l =
    let sizes = l.self.file.sizes in
    let test = fits sizes.p sizes.n l.self.bytes.now in
    let count = records_in sizes.n l.self.bytes.now in
    first_from test 1 count ≡ first_from test l.k (suc count - l.k)
