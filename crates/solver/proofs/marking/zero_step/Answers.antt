use Rattle.std.proofs.Common.{rules, refl}
use Rattle.solver.proofs.MarkKeyLaws as laws
use Rattle.solver.proofs.marking.zero_step.Goals as goal

pub returns-in_err-target : goal.returns-in_err-target
returns-in_err-target c =
    rw c.from_residual.ensures
    record { first = laws.zero_none c.in_err-target.ensures; place = refl; alone = refl; narrow = tt }

pub returns : goal.returns
returns c =
    record {
      first = laws.zero_some c.in_ok-target.ensures c.mark_key.ensures;
      place = refl;
      alone = refl;
      narrow = record { bound = search rules; target = search rules };
    }
