-- One tag more at each turn.
use Rattle.std.proofs.Common.{◌≡◌, ◌-◌, ◌+◌, arith}
use Rattle.tags.specs.Sheet.{sheet_of}
use Rattle.tags.proofs.TagLaws.{lower_start, lower_more, lower_end}
use Rattle.tags.proofs.first.lower_inputs.Goals as goal

pub loop-k-init : goal.loop-k-init
loop-k-init c = (omega arith, lower_start _ (sheet_of _) _)

pub loop-k-preserved : goal.loop-k-preserved
loop-k-preserved c =
    let next : c.loop-k.k + 1 - 1 ≡ c.loop-k.k = omega arith in
    (omega arith, rw next (lower_more (sheet_of _) _ c.loop-k.auto.k c.loop-k.invariant.1 c.lower_by.ensures))

pub returns : goal.returns
returns c = lower_end (sheet_of _) _ (omega arith) c.loop-k.invariant.1

pub returns-2 : goal.returns-2
returns-2 c = lower_end (sheet_of _) _ (omega arith) (lower_more (sheet_of _) _ c.loop-k.auto.k c.loop-k.invariant.1 c.lower_by.ensures)
