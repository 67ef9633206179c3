-- `records::recent::Recent::first_unlike`: other hashes are of other inputs; else the values tell.
use Rattle.std.proofs.Common.{arith}
use Rattle.circuit.proofs.Sized.{call_sized}
use Rattle.records.proofs.RecordLaws as laws
use Rattle.records.proofs.recent.Recent.first_unlike.Goals as goal

pub returns-then-self-at : goal.returns-then-self-at
returns-then-self-at c =
    let Z = call_sized c.args.records.file.read in
    laws.hashes_unlike (rw Z.is_i at c.requires.hashed) (rw Z.is_i at c.requires.hash) c.if-self-at.true

pub overflow_add-sizes : goal.overflow_add-sizes
overflow_add-sizes c =
    let Z = call_sized c.args.records.file.read in omega (arith, Z.formed.n_most, Z.formed.fits, Z.is_i, Z.is_o)

pub returns : goal.returns
returns c = laws.compared _ c.args.records.file.read _ _ _ c.args.run.now c.from.ensures _ c.first_unlike.ensures
