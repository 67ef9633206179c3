-- At each turn the bounds are lowered by the tags before tag k.
use Rattle.std.proofs.Common.{◌+◌, ◌-◌, ◌≤◌}
use Rattle.tags.specs.Sheet.{sheet_of}
use Rattle.tags.specs.Answer.{Lowered}
use Rattle.tags.proofs.TagLaws.{up_to}
use Rattle.tags.proofs.first.lower_inputs.Given as goal

abbrev pub invariant-loop-k : goal.invariant-loop-k
invariant-loop-k l = (l.k ≤ l.k-end + 1) × Lowered l.i (up_to (sheet_of l.sheet) (l.k - 1)) l.initial.bounds l.bounds
