-- `records::file::Records::first_unfit`: a record without a value that is too large leads on, any other out.
use Rattle.std.proofs.Common.{arith, ◌≡◌, ap, sym, ◌∙◌, not, true, false}
use Rattle.circuit.proofs.SearchLaws as searches
use Rattle.records.specs.Call.{fits}
use Rattle.records.proofs.RecordLaws.{fits_by}
use Rattle.records.proofs.file.Records.first_unfit.Goals as goal

pub returns-then-is_some : goal.returns-then-is_some
returns-then-is_some c =
    let l = c.loop-k in
    let sizes = c.args.self.file.sizes in
    let unfit : fits sizes.p sizes.n c.args.self.bytes.now l.k ≡ false = fits_by _ _ _ _ _ _ c.from.ensures c.first_large.ensures ∙ ap not (sym c.is_some.ensures ∙ c.if-is_some.true) in
    searches.search_found _ _ _ _ l.invariant l.auto.k (omega (arith, c.loop-k-test.true, c.count-k-end.ensures)) unfit

pub loop-k-preserved : goal.loop-k-preserved
loop-k-preserved c =
    let l = c.loop-k in
    let sizes = c.args.self.file.sizes in
    let fit : fits sizes.p sizes.n c.args.self.bytes.now l.k ≡ true = fits_by _ _ _ _ _ _ c.from.ensures c.first_large.ensures ∙ ap not (sym c.is_some.ensures ∙ c.if-is_some.false) in
    searches.search_next _ _ _ _ l.invariant (omega (arith, c.loop-k-test.true, c.count-k-end.ensures)) fit

pub returns : goal.returns
returns c = searches.search_none _ _ _ _ c.loop-k.invariant (omega (arith, c.loop-k-test.false, c.count-k-end.ensures))

pub returns-else-is_some : goal.returns-else-is_some
returns-else-is_some c =
    let l = c.loop-k in
    let sizes = c.args.self.file.sizes in
    let fit : fits sizes.p sizes.n c.args.self.bytes.now l.k ≡ true = fits_by _ _ _ _ _ _ c.from.ensures c.first_large.ensures ∙ ap not (sym c.is_some.ensures ∙ c.if-is_some.false) in
    searches.search_end _ _ _ _ l.invariant (omega (arith, c.loop-k-test.true, c.count-k-end.ensures)) (omega (arith, c.count-k-end.ensures)) fit
