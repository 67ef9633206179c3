-- `rules::sums::Sums::scale`: an opposite of an inverse, at a place with a coefficient.
use Rattle.std.proofs.Common.{rules, ap, ◌≡◌, ◌<◌, ◌∙◌, arith}
use Rattle.field.specs.Residue.{opposite}
use Rattle.field.specs.Inverse.{inverse}
use Rattle.rules.specs.Rows.{entries, coef_on, entry_at, nothing}
use Rattle.rules.proofs.sums.Sums.scale.Goals as goal

pub returns-then-coefficient-eq0 : goal.returns-then-coefficient-eq0
unfolding coef_on entry_at nothing
returns-then-coefficient-eq0 c h T =
    let is : coef_on c.args.self.row.now c.args.e ≡ c.in_ok-coefficient.field-0.now.coefficient = search rules in
    T.present (is ∙ c.if-coefficient-eq0.true)

pub returns : goal.returns
unfolding coef_on entry_at nothing
returns c =
    let is : c.in_ok-coefficient.field-0.now.coefficient ≡ coef_on c.args.self.row.now c.args.e = search rules in
    let before : c.args.e < entries c.args.self.row.now = search rules in
    record {
      modulus = omega arith;
      target = record { least = omega arith; before = before; present = λ z. c.if-coefficient-eq0.false (is ∙ z) };
      is = c.opposite.ensures ∙ ap (opposite _) (c.inverse.ensures.algorithm ∙ ap (inverse _) is);
    }
