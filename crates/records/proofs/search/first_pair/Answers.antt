-- `records::search::first_pair`: the first record that makes a pair, or the end.
use Rattle.std.proofs.Common.{arith, sym, ◌∙◌}
use Rattle.records.proofs.RecordLaws as records
use Rattle.records.proofs.FirstLaws as laws
use Rattle.records.proofs.search.first_pair.Goals as goal

pub loop-k-init : goal.loop-k-init
loop-k-init c = (laws.searched_start _ _ (c.new-recent.ensures _), records.empty_ready _ _ c.copy_run-run.ensures)

pub returns-then-is_some : goal.returns-then-is_some
returns-then-is_some c =
    laws.searched_found _ _ c.loop-k.invariant.0 c.loop-k.auto.k
    (omega (arith, c.loop-k-test.true, c.count-k-end.ensures, records.count_is _ c.args.records.file.read c.args.records.bytes.now 0))
    c.pair_of-pair.ensures.pair
    (sym c.is_some.ensures ∙ c.if-is_some.true)

pub returns : goal.returns
returns c =
    laws.searched_end _ _ c.loop-k.invariant.0
    (omega (arith, c.loop-k-test.false, c.count-k-end.ensures, records.count_is _ c.args.records.file.read c.args.records.bytes.now 0))

pub returns-else-is_some : goal.returns-else-is_some
returns-else-is_some c =
    laws.searched_end _ _ (c.pair_of-pair.ensures.searched (laws.nothing _ (sym c.is_some.ensures ∙ c.if-is_some.false)))
    (omega (arith, c.count-k-end.ensures, records.count_is _ c.args.records.file.read c.args.records.bytes.now 0))
