-- The refusals of the circuit and the sheet, then the file's, then those of the runs, on the arrays that hold them.
use Rattle.circuit.proofs.AnswerLaws.{err_is}
use Rattle.tags.proofs.SheetLaws.{tagged_refused}
use Rattle.pair.specs.Call.{pair_on, pair_call}
use Rattle.pair.proofs.CallLaws as laws
use Rattle.pair.proofs.judged.Goals as goal

pub returns-in_err-tagged : goal.returns-in_err-tagged
unfolding pair_call
returns-in_err-tagged c =
    rw (err_is _ c.from_residual.ensures.1) (tagged_refused _ _ (λ C T. pair_on C T c.args.pair.now) c.in_err-tagged.ensures.answer)

pub returns-in_err-q : goal.returns-in_err-q
returns-in_err-q c =
    let t = c.in_ok-tagged.tagged in
    rw (err_is _ c.from_residual-in_err-q.ensures.1, ← c.in_ok-tagged.ensures.same.0, ← c.in_ok-tagged.ensures.same.1)
    (laws.file_refused _ _ _ t.file.read t.fits c.in_err-q.ensures.answer)

pub returns-in_err-check_runs : goal.returns-in_err-check_runs
returns-in_err-check_runs c =
    let t = c.in_ok-tagged.tagged in
    rw (err_is _ c.from_residual-in_err-check_runs.ensures.1, ← c.in_ok-tagged.ensures.same.0, ← c.in_ok-tagged.ensures.same.1)
    (laws.runs_answer _ _ _ t.file.read t.fits _ _ c.in_ok-q.ensures.answer c.in_ok-q.ensures.long c.copy_run-first.ensures
    c.copy_run-second.ensures c.in_err-check_runs.ensures)

pub returns : goal.returns
returns c =
    let t = c.in_ok-tagged.tagged in
    rw (← c.in_ok-tagged.ensures.same.0, ← c.in_ok-tagged.ensures.same.1)
    (laws.runs_answer _ _ _ t.file.read t.fits _ _ c.in_ok-q.ensures.answer c.in_ok-q.ensures.long c.copy_run-first.ensures
    c.copy_run-second.ensures c.in_ok-check_runs.ensures)
