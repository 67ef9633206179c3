-- `runs::levels::by_level`: the first places have the last constraints.
use Rattle.runs.specs.Inner.{level_at}
use Rattle.runs.proofs.LevelLaws.{Filled}
use Rattle.runs.proofs.levels.by_level.Given as goal

abbrev pub invariant-loop-i : goal.invariant-loop-i
invariant-loop-i l =
    let file = l.constraints.file in
    Filled (level_at file.bytes.now l.constraints.offsets file.sizes.n) file.sizes.m l.i l.order
