-- `records::file::Records::from`: a record that is there stands within the file.
use Rattle.std.proofs.Common.{arith}
use Rattle.records.proofs.RecordLaws.{record_ends, record_part}
use Rattle.records.proofs.file.Records.from.Goals as goal

pub overflow_mul-result : goal.overflow_mul-result
overflow_mul-result c = let S = c.args.self in omega (arith, record_ends S.file.sizes.n S.bytes.now c.args.k c.size.ensures.is c.requires.0 c.requires.1)

pub slice_bounds-result-count : goal.slice_bounds-result-count
slice_bounds-result-count c = let S = c.args.self in omega (arith, record_ends S.file.sizes.n S.bytes.now c.args.k c.size.ensures.is c.requires.0 c.requires.1)

pub slice_bounds-result-start : goal.slice_bounds-result-start
slice_bounds-result-start c = let S = c.args.self in omega (arith, record_ends S.file.sizes.n S.bytes.now c.args.k c.size.ensures.is c.requires.0 c.requires.1)

pub returns : goal.returns
returns c = let S = c.args.self in record_part S.file.sizes.n S.bytes.now c.args.k c.size.ensures.is c.requires.0 c.requires.1
