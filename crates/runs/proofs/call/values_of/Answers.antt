-- `runs::call::values_of`: past the run the array has zeros.
use Rattle.std.proofs.Common.{length, ◌+◌, ◌-◌}
use Rattle.runs.proofs.CountLaws.{run_and_zeros, dropped_zeros}
use Rattle.runs.proofs.call.values_of.Goals as goal

pub returns : goal.returns
returns c = rw c.copy_from_slice.ensures.after (run_and_zeros c.args.run.now _ (dropped_zeros (length c.args.run.now + 1 - 1) 10))
