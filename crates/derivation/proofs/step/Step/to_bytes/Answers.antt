-- `derivation::step::Step::to_bytes`: the kind by its entry, then three numbers.
use Rattle.std.proofs.Common.{arith, ◌≡◌, ◌/◌, ◌%◌, ℕ, ◌<◌}
use Rattle.derivation.specs.Encoded.{step_bytes}
use Rattle.derivation.proofs.step.Step.to_bytes.Goals as goal

high_byte : (x : ℕ) → x < 65536 → x / 256 % 256 ≡ x / 256
high_byte x h = omega arith

pub returns : goal.returns
unfolding step_bytes
returns c =
    let x = c.args.self in
    let n = c.number-number.ensures in
    let t : x.target / 256 % 256 ≡ x.target / 256 = omega arith in
    let k : x.constraint / 256 % 256 ≡ x.constraint / 256 = omega arith in
    let r : x.reference / 256 % 256 ≡ x.reference / 256 = omega arith in
    simp (c.to_le_bytes.ensures, c.to_le_bytes-2.ensures, c.to_le_bytes-3.ensures, n, t, k, r)
