-- `rules::digits::Digits::is_taken`: outside of the range, or where no entry has it, none is unmarked with it.
use Rattle.std.proofs.Common.{sym}
use Rattle.rules.proofs.WeightLaws as laws
use Rattle.rules.proofs.digits.Digits.is_taken.Goals as goal
use Rattle.rules.proofs.digits.Digits.is_taken.Goals.{then-most-x-via-then-most-x, then-most-x-via-else-most-x+then-x-least}
use Rattle.rules.proofs.digits.Digits.is_taken.Goals.{then-most-x-via-else-most-x+else-x-least+then-not-is_among}

pub returns-then-most-x : goal.returns-then-most-x
returns-then-most-x c =
    elim c.then-most-x.branch [
      | then-most-x-via-then-most-x w ↦ sym (laws.taken_none _ _ _ (laws.unlike_above _ _ _ _ _ _ c.requires w.if-most-x.true))
      | then-most-x-via-else-most-x+then-x-least w ↦ sym (laws.taken_none _ _ _ (laws.unlike_below _ _ _ _ _ _ c.requires w.if-x-least.true))
      | then-most-x-via-else-most-x+else-x-least+then-not-is_among w ↦
          sym (laws.taken_none _ _ _ (record { apart = λ u l i. w.is_among.ensures w.if-not-is_among.true u l }))
    ]
