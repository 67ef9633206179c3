-- `derivation::step::keep_row`: a row that is looked at is made, or was.
use Rattle.std.proofs.Common.{◌∙◌, sym, ap, arith}
use Rattle.circuit.proofs.Sized.{call_sized}
use Rattle.derivation.specs.Inner.{names_in}
use Rattle.derivation.proofs.StepLaws.{row_ready}
use Rattle.derivation.proofs.step.keep_row.Goals as goal

pub returns-then-reads_row : goal.returns-then-reads_row
returns-then-reads_row c K named =
    let k = named (sym c.entry_of.ensures.names ∙ ap names_in c.if-entry_of.true) in
    row_ready K (call_sized c.args.constraints.now.file.read) (omega arith) (omega arith) k (c.make_row.ensures (call_sized c.args.constraints.now.file.read) c.args.constraints.now.placed K.roomy k.0 k.1 K.made)
