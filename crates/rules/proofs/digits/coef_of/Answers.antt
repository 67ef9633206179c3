-- `rules::digits::coef_of`: the coefficient of the signal's entry, 0 where it has none.
use Rattle.std.proofs.Common.{rules, ◌≡◌, ap, ◌∙◌, option_copied}
use Rattle.std.specs.Option.{option_map_or}
use Rattle.rules.specs.declared.rows.Entry.{Entry}
use Rattle.rules.proofs.RowDigits as laws
use Rattle.rules.proofs.digits.coef_of.Goals as goal

pub returns : goal.returns
returns c p n K pos L least most =
    let is : c.map_or.result ≡ option_map_or (λ (x : Entry). x.coefficient) (option_copied c.entry_on.result) 0 = search rules in
    laws.coef_read L _ pos most _ (is ∙ ap (λ o. option_map_or (λ (x : Entry). x.coefficient) o 0) c.entry_on.ensures)
