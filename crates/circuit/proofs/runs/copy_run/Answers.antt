-- `circuit::runs::copy_run`: values put into an array of zeros, with the constant one.
use Rattle.std.proofs.Common.{◌∙◌}
use Rattle.circuit.proofs.CopyLaws.{copied}
use Rattle.circuit.proofs.runs.copy_run.Goals as goal

pub returns : goal.returns
returns c = c.fill_run.ensures ∙ copied _ 256 _
