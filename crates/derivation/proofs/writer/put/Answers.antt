-- `derivation::writer::put`: the bytes that fit are copied.
use Rattle.std.proofs.Common.{arith, rules, ◌≡◌, length}
use Rattle.derivation.proofs.Written.{bytes_stored}
use Rattle.derivation.proofs.writer.put.Goals as goal

pub returns : goal.returns
returns c =
    let long : length c.args.bytes ≡ 7 = search rules in
    rw c.copy_from_slice.ensures.after
    (bytes_stored _ c.args.bytes c.args.at c.min-start.result c.min-count.result _ c.min-start.ensures (rw long c.min-count.ensures) (omega arith))
