use Rattle.std.proofs.Common.{arith}
use Rattle.circuit.proofs.Sized.{call_sized}
use Rattle.solver.proofs.TableLaws as laws
use Rattle.solver.proofs.table.make_table.Goals as goal

pub link_entries-requires : goal.link_entries-requires
link_entries-requires c =
    let K = c.args.constraints.now in
    rw c.places-end.ensures
    (laws.linkable (call_sized K.file.read) K.placed c.requires.0 c.requires.1 (omega arith) (omega arith))

pub returns-clause-rows : goal.returns-clause-rows
returns-clause-rows c =
    let K = c.args.constraints.now in
    laws.all_rows (call_sized K.file.read) K.placed c.requires.0 c.make_rows.ensures

pub returns-clause-links : goal.returns-clause-links
returns-clause-links c =
    let K = c.args.constraints.now in
    laws.all_links (call_sized K.file.read) K.placed c.requires.0 c.make_rows.ensures c.requires.1 (omega arith) (omega arith) (rw c.places-end.ensures at c.link_entries.ensures.linked)
    c.link_entries.ensures.owned
