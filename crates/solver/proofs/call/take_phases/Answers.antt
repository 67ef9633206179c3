-- `solver::call::take_phases`: each phase on what the one before it left.
use Rattle.std.proofs.Common.{arith}
use Rattle.solver.proofs.InTable.{sized_in}
use Rattle.laws.specs.Problem.{largest}
use Rattle.solver.proofs.NonzeroLaws.{nonzeros_few}
use Rattle.solver.proofs.SolveLaws as laws
use Rattle.solver.proofs.call.take_phases.Goals as goal

pub exclude_zeros-excluded-requires : goal.exclude_zeros-excluded-requires
exclude_zeros-excluded-requires c = laws.bounds_few (sized_in c.args.table.now) c.lower_bounds-bounded.ensures

pub add_marks-requires : goal.add_marks-requires
add_marks-requires c =
    let Z = sized_in c.args.table.now in
    omega (arith, nonzeros_few (c.exclude_zeros-excluded.ensures (largest 0)), laws.bounds_few Z c.lower_bounds-bounded.ensures, Z.is_n)

pub returns : goal.returns
returns c f = laws.all_taken (c.lower_bounds-bounded.ensures f) (c.exclude_zeros-excluded.ensures f) (c.add_marks.ensures f)
