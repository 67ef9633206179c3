-- `solver::marks::add_marks`: each turn takes the step chosen.
use Rattle.std.proofs.Common.{arith, sym, ◌≡◌}
use Rattle.rules.specs.View.{view_of}
use Rattle.solver.specs.Choice.{step_of}
use Rattle.solver.proofs.Adding.{fields}
use Rattle.solver.proofs.InTable.{sized_in}
use Rattle.solver.proofs.SweepLaws.{no_keys}
use Rattle.solver.proofs.MarksTurn as laws
use Rattle.solver.proofs.marks.add_marks.Goals as goal

pub loop-turn-init : goal.loop-turn-init
loop-turn-init c = rw c.nothing-kept.ensures (laws.turning_start _ _ _ _ _ (no_keys 513))

pub overflow_add-count : goal.overflow_add-count
overflow_add-count c = let Z = sized_in c.args.table.now in record { fits = omega (arith, c.requires, Z.is_n, Z.formed.n_most) }

pub lowest_key-requires : goal.lowest_key-requires
unfolding view_of
lowest_key-requires c = c.loop-turn.invariant.keyed

pub returns-in_default : goal.returns-in_default
unfolding view_of
returns-in_default c = laws.turning_none c.loop-turn.invariant (λ f. sym (c.in_default.ensures.chosen f))

pub take-requires : goal.take-requires
unfolding view_of
take-requires c =
    let Z = sized_in c.args.table.now in (
      laws.marking_adds c.loop-turn.invariant (step_of c.in-Some.choice) (λ f. sym (c.in-Some.ensures.chosen f)),
      omega (arith, c.requires, Z.is_n, Z.formed.n_most),
    )

pub forget-requires : goal.forget-requires
unfolding view_of
forget-requires c =
    let Z = sized_in c.args.table.now in
    let x = fields Z.formed _ _ (laws.marking_adds c.loop-turn.invariant (step_of c.in-Some.choice) (λ f. sym (c.in-Some.ensures.chosen f))) in
    (x.least, x.most)

pub loop-turn-preserved : goal.loop-turn-preserved
unfolding view_of
loop-turn-preserved c =
    let Z = sized_in c.args.table.now in
    let taken = c.take.ensures in
    laws.turning_next c.loop-turn.invariant (step_of c.in-Some.choice) (λ f. sym (c.in-Some.ensures.chosen f)) Z.formed taken.taken (omega (arith, Z.is_n))
    c.in-Some.ensures.known taken.written c.forget.ensures

pub overflow_add-result : goal.overflow_add-result
overflow_add-result c = let Z = sized_in c.args.table.now in record { fits = omega (arith, c.requires, Z.is_n, Z.formed.n_most) }

pub returns : goal.returns
returns c =
    let all : c.loop-turn.turn ≡ c.args.table.now.constraints.now.file.sizes.n = omega arith in
    rw all at (laws.turning_all c.loop-turn.invariant (omega (arith, (sized_in c.args.table.now).is_n)))
