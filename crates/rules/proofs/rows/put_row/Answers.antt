use Rattle.std.proofs.Common.{refl, sym, ◌∙◌, arith}
use Rattle.rules.specs.Rows.{nothing, entry_at, coef_on, forms_on}
use Rattle.rules.proofs.MakingLaws as laws
use Rattle.rules.proofs.rows.put_row.Goals as goal
use Rattle.rules.proofs.rows.put_row.Goals.{then-has_entry, else-has_entry}

pub reduced_form-requires : goal.reduced_form-requires
unfolding nothing
reduced_form-requires c = refl

pub loop-signal-init : goal.loop-signal-init
loop-signal-init c = laws.putting_start _ _ _ _ _

pub loop-signal-preserved : goal.loop-signal-preserved
unfolding coef_on forms_on entry_at nothing
loop-signal-preserved c =
    elim c.if-has_entry.branch [
      | then-has_entry w ↦
          rw (w.rows-is, w.end-is, w.put-end.ensures.0, w.put-end.ensures.1)
          (laws.puts_entry c.requires.0 c.reduced_form.ensures.0 c.loop-signal.invariant (omega arith)
          (sym c.has_entry.ensures ∙ w.if-has_entry.true) _ refl)
      | else-has_entry w ↦
          rw (w.rows-is, w.end-is)
          (laws.puts_on c.requires.0 c.reduced_form.ensures.0 c.loop-signal.invariant (omega arith)
          (sym c.has_entry.ensures ∙ w.if-has_entry.false))
    ]

-- after the last turn
pub returns-after-has_entry : goal.returns-after-has_entry
unfolding coef_on forms_on entry_at nothing
returns-after-has_entry c =
    elim c.if-has_entry.branch [
      | then-has_entry w ↦
          rw (w.rows-is, w.end-is, w.put-end.ensures.0, w.put-end.ensures.1)
          (laws.puts_all (omega arith) (laws.puts_entry c.requires.0 c.reduced_form.ensures.0 c.loop-signal.invariant (omega arith)
          (sym c.has_entry.ensures ∙ w.if-has_entry.true) _ refl))
      | else-has_entry w ↦
          rw (w.rows-is, w.end-is)
          (laws.puts_all (omega arith) (laws.puts_on c.requires.0 c.reduced_form.ensures.0 c.loop-signal.invariant (omega arith)
          (sym c.has_entry.ensures ∙ w.if-has_entry.false)))
    ]
