use Rattle.std.proofs.Common.{List, refl, ap, ◌∙◌, arith}
use Rattle.rules.specs.Rows.{nothing, entry_at, coef_on, forms_on}
use Rattle.rules.specs.declared.rows.Entry.{Entry}
use Rattle.rules.proofs.ReducedForm.{reduced_made, nothing_repeated}
use Rattle.rules.proofs.reduced.reduced_form.Goals as goal

pub returns-then-p-gt1 : goal.returns-then-p-gt1
unfolding coef_on forms_on entry_at nothing
returns-then-p-gt1 c = (
  λ above. reduced_made _ _ above _ _ c.of.ensures.1 c.of.ensures.2 _ _
      c.coefficients-a0.ensures.0 c.coefficients-b0.ensures.0 (λ t. ap (λ (l : List Entry). entry_at l t) c.requires ∙ nothing_repeated 257 t)
      c.add_form.ensures c.add_form-then-p-gt1.ensures c.add_form-then-p-gt1-2.ensures
      _ _ c.multiply_add.ensures.0 c.multiply_add-then-p-gt1.ensures.0 (omega arith) _ refl refl,
  λ low. absurd (omega (arith, low, c.if-p-gt1.true)),
)
