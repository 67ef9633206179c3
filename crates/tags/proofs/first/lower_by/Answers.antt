-- One store, and ways out that lower nothing.
use Rattle.std.proofs.Common.{arith, rules}
use Rattle.std.proofs.lemmas.Grind.{common_steps}
use Rattle.circuit.specs.Run.{values_in}
use Rattle.tags.specs.Sheet.{sheet_of}
use Rattle.tags.proofs.SheetLaws.{tag_known, tag_unknown}
use Rattle.tags.proofs.TagLaws.{lower_none, lower_set}
use Rattle.tags.proofs.first.lower_by.Goals as goal

pub returns-then-s-bounds : goal.returns-then-s-bounds
unfolding values_in sheet_of
returns-then-s-bounds c =
    rw (tag_known _ _ c.in-Some.ensures)
    (lower_set c.min.result (grind (arith, common_steps)) (grind (arith, common_steps)) (omega arith) (search rules) (search rules))

pub returns-else-contains : goal.returns-else-contains
unfolding sheet_of
returns-else-contains c = rw (tag_known _ _ c.in-Some.ensures) (lower_none (λ s l low high e. absurd (grind (arith, common_steps))))

pub returns-in_default : goal.returns-in_default
unfolding sheet_of
returns-in_default c = rw (tag_unknown _ _ c.in_default.ensures) (lower_none (λ s l low high e. absurd (omega arith)))
