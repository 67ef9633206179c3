use Rattle.std.proofs.Common.{arith, refl}
use Rattle.solver.proofs.InTable.{sized_in}
use Rattle.solver.proofs.KeySearch as laws
use Rattle.solver.proofs.bounds.least_key.Goals as goal

pub loop-passed-init : goal.loop-passed-init
loop-passed-init c = laws.finding_start refl c.requires

pub known_key-requires : goal.known_key-requires
known_key-requires c = (laws.finding_known c.loop-passed.invariant, omega arith, omega arith)

pub loop-passed-preserved : goal.loop-passed-preserved
loop-passed-preserved c =
    laws.finding_next c.loop-passed.invariant refl (omega (arith, (sized_in c.args.table.now).is_m)) c.known_key.ensures c.lower-lowest.ensures

pub returns-clause-known : goal.returns-clause-known
returns-clause-known c = (laws.finding_end c.loop-passed.invariant (omega (arith, (sized_in c.args.table.now).is_m))).0

pub returns-clause-chosen : goal.returns-clause-chosen
returns-clause-chosen c f S e =
    let Z = sized_in c.args.table.now in
    laws.finding_choice c.loop-passed.invariant Z.formed (omega (arith, Z.is_m)) f S e
