-- Of the tags from 1 on those pass the filter that are shown.
use Rattle.std.proofs.Common.{◌∙◌, sym, rules}
use Rattle.std.proofs.lemmas.Iterator.Consumers.{count_from_yields_List, YieldsList-at, YieldsList-from_filter}
use Rattle.circuit.specs.Run.{values_in}
use Rattle.circuit.proofs.FindLaws.{range_yields}
use Rattle.tags.specs.Sheet.{sheet_of}
use Rattle.tags.proofs.ShownLaws.{counted, counted_all}
use Rattle.tags.proofs.shown.Showing.count_shown.Goals as goal

pub returns : goal.returns
returns c =
    let S = c.args.self.now in
    let new = c.new.ensures in
    rw (sym c.count_of.ensures)
    (count_from_yields_List c.filter.result _ c.count.ensures.ran
    (YieldsList-from_filter _ (counted S.inputs (values_in S.bounds.now) (sheet_of S.sheet.now).tag)
    (YieldsList-at c.filter.ensures.source (range_yields new.start new.end new.exhausted)) c.filter.ensures.closure (λ x b q called. search rules))
    ∙ counted_all _ _ _ _)
