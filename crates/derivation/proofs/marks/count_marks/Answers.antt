-- `derivation::marks::count_marks`: what the chain lets through, counted.
use Rattle.std.proofs.Common.{rules, refl, ◌∙◌}
use Rattle.std.proofs.lemmas.Iterator.{YieldsList-from_slice, YieldsList-from_take}
use Rattle.std.proofs.lemmas.Iterator.Adapters.{YieldsList-from_skip}
use Rattle.std.proofs.lemmas.Iterator.Consumers.{YieldsList-from_filter, count_from_yields_List}
use Rattle.derivation.proofs.MarkLaws.{marks_counted}
use Rattle.derivation.proofs.marks.count_marks.Goals as goal

pub returns : goal.returns
returns c =
    let M = c.args.marks.now in
    let F = c.filter-marked.result in
    let first = YieldsList-from_slice {s = F.iter.iter.iter} M (search rules) in
    let skipped = YieldsList-from_skip {s = F.iter.iter} 1 first (search rules) in
    let taken = YieldsList-from_take {s = F.iter} c.args.n skipped (search rules) in
    count_from_yields_List _ _ c.count.ensures.ran (YieldsList-from_filter {s = F} _ (λ b. b) taken refl (λ x b q k. search rules))
    ∙ marks_counted M c.args.n
