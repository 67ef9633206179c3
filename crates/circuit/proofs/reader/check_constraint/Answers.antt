-- `circuit::reader::check_constraint`: three forms, each from where the one before it ended.
use mathlib.Core.Path.{sym, ◌∙◌}
use Rattle.circuit.proofs.AnswerLaws.{err_is}
use Rattle.circuit.proofs.ReaderLaws.{constraint_start, onward_on, onward_out}
use Rattle.circuit.proofs.reader.check_constraint.Goals as goal

pub returns-in_err-b_at : goal.returns-in_err-b_at
returns-in_err-b_at c =
    rw (err_is _ c.from_residual.ensures.1) (sym (constraint_start _ _ _ ∙ onward_out _ (sym c.in_err-b_at.ensures.0)))

pub returns-in_err-c_at : goal.returns-in_err-c_at
returns-in_err-c_at c =
    rw (err_is _ c.from_residual-in_err-c_at.ensures.1) (sym (constraint_start _ _ _ ∙ onward_on _ (sym c.in_ok-b_at.ensures.0) ∙ onward_out _ (sym c.in_err-c_at.ensures.0)))

pub returns : goal.returns
returns c =
    c.check_form_at-3.ensures.0
    ∙ sym (constraint_start _ _ _ ∙ onward_on _ (sym c.in_ok-b_at.ensures.0) ∙ onward_on _ (sym c.in_ok-c_at.ensures.0))
