-- `solver::nonzeros::exclude_zeros`: the next signal's step is taken, or it has none.
use Rattle.std.proofs.Common.{arith, inl, inr}
use Rattle.rules.specs.Rows.{at}
use Rattle.rules.specs.View.{view_of, mark_in}
use Rattle.solver.proofs.InTable.{sized_in}
use Rattle.solver.proofs.NonzeroLaws as laws
use Rattle.solver.proofs.nonzeros.exclude_zeros.Goals as goal
use Rattle.solver.proofs.nonzeros.exclude_zeros.Goals.{then-constraint-eq0-via-then-constraint-eq0}
use Rattle.solver.proofs.nonzeros.exclude_zeros.Goals.{then-constraint-eq0-via-else-constraint-eq0+then-standing-place}

pub loop-passed-init : goal.loop-passed-init
loop-passed-init c = laws.excluding_start _ _ _ _

pub bounds-firsts-place : goal.bounds-firsts-place
bounds-firsts-place c = let Z = sized_in c.args.table.now in omega (arith, Z.is_n, Z.formed.n_most)

pub loop-passed-preserved-then-constraint-eq0 : goal.loop-passed-preserved-then-constraint-eq0
unfolding at view_of mark_in
loop-passed-preserved-then-constraint-eq0 c =
    let Z = sized_in c.args.table.now in
    laws.excluding_skip c.loop-passed.invariant c.first_constraints-firsts.ensures Z.formed (omega (arith, Z.is_n)) c.from-constraint.ensures
    (elim c.then-constraint-eq0.branch [
      | then-constraint-eq0-via-then-constraint-eq0 w ↦ inl w.if-constraint-eq0.true
      | then-constraint-eq0-via-else-constraint-eq0+then-standing-place w ↦ inr w.if-standing-place.true
    ])

pub take-requires : goal.take-requires
unfolding at view_of mark_in
take-requires c =
    let Z = sized_in c.args.table.now in
    let X = c.loop-passed.invariant in (
      laws.excluding_adds X c.first_constraints-firsts.ensures Z.formed (omega (arith, Z.is_n)) c.from-constraint.ensures c.if-constraint-eq0.false
          c.if-standing-place.false,
      omega (arith, X.counted, X.few, c.requires, Z.is_n, Z.formed.n_most),
    )

pub overflow_add-count : goal.overflow_add-count
overflow_add-count c =
    let Z = sized_in c.args.table.now in
    let X = c.loop-passed.invariant in
    record { fits = omega (arith, X.counted, X.few, c.requires, Z.is_n, Z.formed.n_most) }

pub loop-passed-preserved : goal.loop-passed-preserved
unfolding at view_of mark_in
loop-passed-preserved c =
    let Z = sized_in c.args.table.now in
    laws.excluding_next c.loop-passed.invariant c.first_constraints-firsts.ensures Z.formed (omega (arith, Z.is_n)) c.from-constraint.ensures
    c.if-constraint-eq0.false c.if-standing-place.false c.take.ensures.taken c.take.ensures.written

pub returns : goal.returns
returns c = laws.excluding_end c.loop-passed.invariant (omega (arith, (sized_in c.args.table.now).is_n))
