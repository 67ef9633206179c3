-- `records::recent::bucket_of`: eight bits are left.
use Rattle.std.proofs.Common.{arith, refl}
use Rattle.records.specs.Inner.{bucket_of}
use Rattle.records.proofs.HashLaws.{bucket_below}
use Rattle.records.proofs.recent.bucket_of.Goals as goal

pub returns : goal.returns
unfolding bucket_of
returns c = (refl, bucket_below c.args.hash (omega (arith, c.ranges.hash)))
