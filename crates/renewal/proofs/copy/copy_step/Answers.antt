-- `renewal::copy::copy_step`: seven bytes are stored.
use Rattle.std.proofs.Common.{arith, ◌≡◌, ◌+◌, ◌-◌, ◌*◌, length, take, drop, length-take, length-drop}
use Rattle.derivation.specs.Steps.{step_start}
use Rattle.derivation.proofs.Written.{bytes_put}
use Rattle.renewal.proofs.copy.copy_step.Goals as goal

pub returns : goal.returns
unfolding step_start
returns c =
    let d = c.args.derivation.now in
    let from = 7 + 7 * c.args.k in
    let long : length (take 7 (drop from d)) ≡ 7 = omega (arith, c.requires, length-take 7 (drop from d), length-drop from d) in
    let same : from + 7 - from ≡ 7 = omega arith in
    let e = rw (c.derivation_size-from.ensures, same) at c.copy_from_slice.ensures.after in
    rw (e, c.derivation_size-to.ensures) (bytes_put c.args.output.now (take 7 (drop from d)) (7 + 7 * c.args.index) _ (omega (arith, long, c.requires)) (omega (arith, long)))
