-- `rules::digits::first_live`: the signal of the first entry that is unmarked and has a coefficient.
use Rattle.std.proofs.Common.{rules, ◌≡◌, option_map, option_copied, ap, ◌∙◌}
use Rattle.rules.specs.declared.rows.Entry.{Entry}
use Rattle.rules.proofs.RowDigits as laws
use Rattle.rules.proofs.digits.first_live.Goals as goal

pub returns : goal.returns
returns c p n K pos L =
    let is : c.map.result ≡ option_map (λ (x : Entry). x.signal) (option_copied c.first_live_entry.result) = search rules in
    laws.first_live L pos c.args.marks.now _ (is ∙ ap (option_map (λ (x : Entry). x.signal)) c.first_live_entry.ensures)
