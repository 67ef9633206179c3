-- `derivation::marks::hand_over`: the marks' array is long enough for the signals.
use Rattle.std.proofs.Common.{rules, arith, ◌≡◌, length}
use Rattle.circuit.proofs.Sized.{call_sized}
use Rattle.derivation.proofs.CallLaws.{few_signals}
use Rattle.derivation.proofs.marks.hand_over.Goals as goal

pub write_marks-requires : goal.write_marks-requires
write_marks-requires c =
    let long : length c.args.last.now.marks ≡ 257 = search rules in
    (omega (arith, few_signals _ _ (call_sized c.args.tagged.now.file.read)), c.requires)
