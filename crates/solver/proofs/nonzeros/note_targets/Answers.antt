-- `solver::nonzeros::note_targets`: A's signal and B's, where C is a constant.
use Rattle.std.proofs.Common.{sym, ◌∙◌}
use Rattle.circuit.specs.Reader.{constraint_in}
use Rattle.solver.proofs.NonzeroLaws as laws
use Rattle.solver.proofs.nonzeros.note_targets.Goals as goal

pub returns-then-is_single : goal.returns-then-is_single
unfolding constraint_in
returns-then-is_single c =
    let forms = c.of.ensures in
    laws.targets_noted (constraint_in c.args.part.now) (rw forms.2 at (sym c.is_single.ensures ∙ c.if-is_single.true)) (rw forms.0 at c.note.ensures)
    (rw forms.1 at c.note-then-is_single.ensures)

pub returns-else-is_single : goal.returns-else-is_single
unfolding constraint_in
returns-else-is_single c =
    laws.no_targets (constraint_in c.args.part.now) (rw c.of.ensures.2 at (sym c.is_single.ensures ∙ c.if-is_single.false))
