-- `records::search::pair_of`: a record that breaks a constraint makes no pair; else the walk through its bucket tells.
use Rattle.std.proofs.Common.{arith, ap, sym, ◌∙◌, not}
use Rattle.circuit.proofs.Sized.{call_sized}
use Rattle.records.proofs.RecordLaws as records
use Rattle.records.proofs.FirstLaws as laws
use Rattle.records.proofs.search.pair_of.Goals as goal

pub returns-then-is_some-clause-pair : goal.returns-then-is_some-clause-pair
returns-then-is_some-clause-pair c =
    let T = records.copied _ c.args.records.file.read _ _ c.requires.run c.from.ensures c.fill_run.ensures c.body.ensures c.first_unsatisfied.ensures in
    laws.broken_pair _ _ c.args.k (T.satisfies ∙ ap not (sym c.is_some.ensures ∙ c.if-is_some.true))

pub returns-then-is_some-clause-searched : goal.returns-then-is_some-clause-searched
returns-then-is_some-clause-searched c =
    let T = records.copied _ c.args.records.file.read _ _ c.requires.run c.from.ensures c.fill_run.ensures c.body.ensures c.first_unsatisfied.ensures in
    λ none. laws.searched_broken _ _ c.requires.searched (T.satisfies ∙ ap not (sym c.is_some.ensures ∙ c.if-is_some.true))

pub pair_with-pair-requires-clause-here : goal.pair_with-pair-requires-clause-here
pair_with-pair-requires-clause-here c =
    let read = c.args.records.file.read in
    let T = records.copied _ read _ _ c.requires.run c.from.ensures c.fill_run.ensures c.body.ensures c.first_unsatisfied.ensures in
    let there = rw (records.count_is _ read c.args.records.bytes.now c.args.k) at c.requires.there in
    laws.searched_here _ _ c.requires.searched there.0 there.1 there.2 (T.satisfies ∙ ap not (sym c.is_some.ensures ∙ c.if-is_some.false)) T.values

pub returns-then-is_none-clause-searched : goal.returns-then-is_none-clause-searched
returns-then-is_none-clause-searched c =
    let read = c.args.records.file.read in
    let T = records.copied _ read _ _ c.requires.run c.from.ensures c.fill_run.ensures c.body.ensures c.first_unsatisfied.ensures in
    λ none.
    rw c.keep.ensures
    (laws.searched_next _ _ c.hash_of-hash.result c.requires.searched (T.satisfies ∙ ap not (sym c.is_some.ensures ∙ c.if-is_some.false))
    (sym none ∙ c.pair_with-pair.ensures)
    (rw (T.values, (call_sized read).is_i) at c.hash_of-hash.ensures) (omega (arith, c.hash_of-hash.type_inv)))

pub returns-then-is_some-clause-run : goal.returns-then-is_some-clause-run
returns-then-is_some-clause-run c =
    let T = records.copied _ c.args.records.file.read _ _ c.requires.run c.from.ensures c.fill_run.ensures c.body.ensures c.first_unsatisfied.ensures in T.ready

pub returns-then-is_none-clause-run : goal.returns-then-is_none-clause-run
returns-then-is_none-clause-run c =
    let T = records.copied _ c.args.records.file.read _ _ c.requires.run c.from.ensures c.fill_run.ensures c.body.ensures c.first_unsatisfied.ensures in T.ready

pub returns-else-is_none-clause-run : goal.returns-else-is_none-clause-run
returns-else-is_none-clause-run c =
    let T = records.copied _ c.args.records.file.read _ _ c.requires.run c.from.ensures c.fill_run.ensures c.body.ensures c.first_unsatisfied.ensures in T.ready
