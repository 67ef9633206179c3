-- `runs::levels::by_level`: all constraints are filled in, and then sorted.
use Rattle.std.proofs.Common.{◌-◌, arith, rules}
use Rattle.std.proofs.lemmas.List.Sorted.{IsNonDecreasingBy-from_sort_by_key}
use Rattle.runs.specs.Inner.{rank}
use Rattle.runs.proofs.LevelLaws as laws
use Rattle.runs.proofs.levels.by_level.Goals as goal

pub loop-i-init : goal.loop-i-init
loop-i-init c = laws.fill_start _ _ _ c.requires.1

pub loop-i-preserved : goal.loop-i-preserved
loop-i-preserved c =
    laws.fill_more c.loop-i.invariant (rw c.requires.1 at c.loop-i-test.true) (laws.level_is _ _ _ _ c.part.ensures c.level_of-level.ensures)

pub overflow_cast-leveled : goal.overflow_cast-leveled
overflow_cast-leveled c =
    let C = c.args.constraints.now in
    omega (
      arith,
      laws.level_is C.file.bytes.now C.offsets C.file.sizes.n (C.file.sizes.m - c.loop-i.i) c.part.ensures c.level_of-level.ensures,
      laws.level_most C.file.bytes.now C.offsets C.file.sizes.n (C.file.sizes.m - c.loop-i.i),
      c.requires.0,
    )

pub overflow_cast-k : goal.overflow_cast-k
overflow_cast-k c = omega (arith, laws.constraints_few _ _ c.args.constraints.now.file.read, c.requires.1)

pub overflow_cast-leveled-in-loop-i : goal.overflow_cast-leveled-in-loop-i
overflow_cast-leveled-in-loop-i c = omega (arith, laws.constraints_few _ _ c.args.constraints.now.file.read)

pub returns : goal.returns
returns c =
    let sort = c.sort_unstable_by_key.ensures in
    laws.order_sorted c.loop-i.invariant (rw c.requires.1 at c.loop-i-test.false) (laws.constraints_few _ _ c.args.constraints.now.file.read) _
    sort.permutation (IsNonDecreasingBy-from_sort_by_key rank _ sort.sorted (λ a r q h. search rules))
