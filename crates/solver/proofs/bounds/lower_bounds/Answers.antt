-- `solver::bounds::lower_bounds`: each turn takes the step chosen.
use Rattle.std.proofs.Common.{arith, sym, refl, ◌≡◌}
use Rattle.rules.specs.View.{view_of}
use Rattle.solver.specs.Choice.{step_of}
use Rattle.solver.proofs.Adding.{fields}
use Rattle.solver.proofs.InTable.{sized_in}
use Rattle.solver.proofs.KeySearch.{no_keys}
use Rattle.solver.proofs.BoundsTurn as laws
use Rattle.solver.proofs.bounds.lower_bounds.Goals as goal

pub loop-count-init : goal.loop-count-init
loop-count-init c =
    rw c.nothing-keys.ensures
    (laws.turning_start _ _ _ _ (no_keys _ _ 513 (λ s. omega (arith, c.requires s, (sized_in c.args.table.now).is_p))))

pub least_key-requires : goal.least_key-requires
unfolding view_of
least_key-requires c = c.loop-count.invariant.keyed

pub returns-in_default : goal.returns-in_default
unfolding view_of
returns-in_default c = laws.turning_none c.loop-count.invariant (λ f. sym (c.in_default.ensures.chosen f _ refl))

pub take-requires : goal.take-requires
unfolding view_of
take-requires c =
    let Z = sized_in c.args.table.now in (
      laws.lowering_adds c.loop-count.invariant (step_of c.in-Some.choice) (λ f. sym (c.in-Some.ensures.chosen f _ refl)),
      omega (arith, Z.is_n, Z.formed.n_most),
    )

pub forget-requires : goal.forget-requires
unfolding view_of
forget-requires c =
    let Z = sized_in c.args.table.now in
    let x = fields Z.formed _ _ (laws.lowering_adds c.loop-count.invariant (step_of c.in-Some.choice) (λ f. sym (c.in-Some.ensures.chosen f _ refl))) in
    (x.least, x.most)

pub loop-count-preserved : goal.loop-count-preserved
unfolding view_of
loop-count-preserved c =
    let Z = sized_in c.args.table.now in
    let taken = c.take.ensures in
    laws.turning_next c.loop-count.invariant (step_of c.in-Some.choice) (λ f. sym (c.in-Some.ensures.chosen f _ refl)) Z.formed taken.taken (omega (arith, Z.is_n))
    c.in-Some.ensures.known taken.written c.forget.ensures

pub returns : goal.returns
returns c =
    let all : c.loop-count.count ≡ c.args.table.now.constraints.now.file.sizes.n = omega arith in
    rw all at (laws.turning_all c.loop-count.invariant (omega (arith, (sized_in c.args.table.now).is_n)))
