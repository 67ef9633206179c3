use Rattle.std.proofs.Common.{arith, ap, length, ◌≤◌}
use Rattle.circuit.specs.Answer.{given}
use Rattle.circuit.proofs.Sized.{call_sized}
use Rattle.derivation.specs.Inner.{tagged_in}
use Rattle.rules.specs.Rows.{places}
use Rattle.solver.specs.Call.{Solved}
use Rattle.solver.proofs.SolveLaws as laws
use Rattle.solver.proofs.call.solve_within.Goals as goal

pub make_table-requires : goal.make_table-requires
make_table-requires g c =
    let K = c.new-constraints.result in
    let few : places (length K.file.bytes.now) K.file.sizes.m ≤ g.row.N = rw c.new-constraints.ensures c.requires.enough in
    (laws.table_blank (call_sized K.file.read) _ _ _ few, laws.table_unlinked (call_sized K.file.read))

pub take_phases-last-requires : goal.take_phases-last-requires
take_phases-last-requires g c =
    let t = c.args.tagged.now in
    rw c.new-constraints.ensures (laws.start_low (laws.taking t.file.read t.fits) c.start_with-first.ensures)

pub overflow_cast-steps : goal.overflow_cast-steps
overflow_cast-steps g c =
    let t = c.args.tagged.now in
    let L = rw c.new-constraints.ensures at (c.take_phases-last.ensures (tagged_in t.file.bytes.now t.sheet.now).first) in
    record { fits = omega (arith, laws.steps_small (laws.taking t.file.read t.fits) c.start_with-first.ensures L c.requires.room) }

pub returns : goal.returns
returns g c =
    let t = c.args.tagged.now in
    let L = rw c.new-constraints.ensures at (c.take_phases-last.ensures (tagged_in t.file.bytes.now t.sheet.now).first) in
    laws.solves (laws.taking t.file.read t.fits) c.start_with-first.ensures L c.requires.room (ap (λ (x : Solved). given x) c.told.ensures)
    c.put_header.ensures
