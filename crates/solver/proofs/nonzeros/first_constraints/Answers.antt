-- `solver::nonzeros::first_constraints`: what the constraints before leave, and what the next one notes.
use Rattle.std.proofs.Common.{arith, ◌≡◌}
use Rattle.solver.specs.Table.{circuit_in}
use Rattle.solver.proofs.InTable.{sized_in, prepared_in}
use Rattle.solver.proofs.KeySearch.{constraint_here}
use Rattle.solver.proofs.NonzeroLaws as laws
use Rattle.solver.proofs.nonzeros.first_constraints.Goals as goal

pub loop-passed-init : goal.loop-passed-init
loop-passed-init c = laws.firsts_start _

pub overflow_cast-k : goal.overflow_cast-k
overflow_cast-k c = let Z = sized_in c.args.table.now in record { fits = omega (arith, Z.is_m, Z.formed.m_most) }

pub loop-passed-preserved : goal.loop-passed-preserved
loop-passed-preserved c =
    let here = constraint_here (prepared_in c.args.table.now) (omega arith) (omega arith) c.part.ensures in
    laws.firsts_on here c.loop-passed.invariant c.note_targets.ensures

pub returns : goal.returns
returns c =
    let all : c.loop-passed.passed ≡ (circuit_in c.args.table.now).m = omega (arith, (sized_in c.args.table.now).is_m) in
    rw all at c.loop-passed.invariant
