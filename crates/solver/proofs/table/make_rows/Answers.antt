use Rattle.std.proofs.Common.{arith, refl, ◌≡◌, ◌+◌, ◌-◌}
use Rattle.circuit.proofs.Sized.{call_sized}
use Rattle.rules.specs.Rows.{at}
use Rattle.solver.proofs.TableLaws as laws
use Rattle.solver.proofs.table.make_rows.Goals as goal

pub loop-k-init : goal.loop-k-init
loop-k-init c =
    let K = c.args.constraints.now in
    (omega arith, laws.making_start (call_sized K.file.read) K.placed c.requires refl)

pub overflow_cast-k : goal.overflow_cast-k
overflow_cast-k c =
    let Z = call_sized c.args.constraints.now.file.read in
    record { fits = omega (arith, Z.is_m, Z.formed.m_most) }

pub overflow_step-k : goal.overflow_step-k
overflow_step-k c =
    let Z = call_sized c.args.constraints.now.file.read in
    record { fits = omega (arith, Z.is_m, Z.formed.m_most) }

pub own-requires : goal.own-requires
unfolding at
own-requires c =
    let K = c.args.constraints.now in
    let Z = call_sized K.file.read in
    let M = c.loop-k.invariant.1 in
    let N = c.make_row.ensures Z K.placed (laws.roomy Z K.placed c.requires (omega arith) (omega arith)) (omega arith) (omega arith) M.all in
    let E = laws.row_entries Z K.placed c.requires (omega arith) (omega arith) M N in
    rw c.start_of-start.ensures.0 (E.0, omega (arith, E.1))

pub loop-k-preserved : goal.loop-k-preserved
unfolding at
loop-k-preserved c =
    let K = c.args.constraints.now in
    let Z = call_sized K.file.read in
    let M = c.loop-k.invariant.1 in
    let N = c.make_row.ensures Z K.placed (laws.roomy Z K.placed c.requires (omega arith) (omega arith)) (omega arith) (omega arith) M.all in
    let before : c.loop-k.k + 1 - 1 ≡ c.loop-k.k = omega arith in
    (omega arith, rw before (laws.made_on Z K.placed c.requires (omega arith) (omega arith) M N (rw c.start_of-start.ensures.0 at c.own.ensures)))

pub returns-2 : goal.returns-2
unfolding at
returns-2 c =
    let K = c.args.constraints.now in
    let Z = call_sized K.file.read in
    let M = c.loop-k.invariant.1 in
    let N = c.make_row.ensures Z K.placed (laws.roomy Z K.placed c.requires (omega arith) (omega arith)) (omega arith) (omega arith) M.all in
    let last : c.loop-k.k ≡ K.file.sizes.m = omega arith in
    rw last at (laws.made_on Z K.placed c.requires (omega arith) (omega arith) M N (rw c.start_of-start.ensures.0 at c.own.ensures))
