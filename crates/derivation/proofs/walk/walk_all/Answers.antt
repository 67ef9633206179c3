-- `derivation::walk::walk_all`: the circuit is refused, or the walk of its file is that of the start.
use Rattle.std.proofs.Common.{refl}
use Rattle.std.proofs.lemmas.Result.{err_from_is_err_and}
use Rattle.circuit.proofs.Sized.{on_refused, call_sized}
use Rattle.derivation.proofs.CallLaws as laws
use Rattle.derivation.proofs.walk.walk_all.Goals as goal

pub returns-in_err-file-clause-way : goal.returns-in_err-file-clause-way
returns-in_err-file-clause-way c =
    let p = err_from_is_err_and c.from_residual.result c.from_residual.ensures.1 in
    rw (p.1, p.2) (on_refused _ _ c.in_err-file.ensures.answer)

pub returns-in_err-walk_file-clause-way : goal.returns-in_err-walk_file-clause-way
returns-in_err-walk_file-clause-way c =
    let file = c.in_ok-file.file in
    let p = err_from_is_err_and c.from_residual-in_err-walk_file.result c.from_residual-in_err-walk_file.ensures.1 in
    rw (p.1, p.2, ← c.in_ok-file.ensures.same) (laws.walk_answered _ _ file.read c.start_with-standing.ensures c.in_err-walk_file.ensures)

pub returns-clause-way : goal.returns-clause-way
returns-clause-way c =
    let file = c.in_ok-file.file in
    let e = laws.walk_answered _ _ file.read c.start_with-standing.ensures c.in_ok-walk_file.ensures in
    rw (← c.in_ok-file.ensures.same, ← (call_sized file.read).is_p) e

pub returns-in_err-file-clause-written : goal.returns-in_err-file-clause-written
returns-in_err-file-clause-written c = rw (← c.in_err-file.ensures.answer) refl

pub returns-in_err-walk_file-clause-written : goal.returns-in_err-walk_file-clause-written
returns-in_err-walk_file-clause-written c =
    let file = c.in_ok-file.file in
    rw (← c.in_ok-file.ensures.same) (laws.walk_left _ _ file.read c.start_with-standing.ensures c.in_err-walk_file.ensures)

pub returns-clause-written : goal.returns-clause-written
returns-clause-written c =
    let file = c.in_ok-file.file in
    rw (← c.in_ok-file.ensures.same) (laws.walk_left _ _ file.read c.start_with-standing.ensures c.in_ok-walk_file.ensures)

pub returns-clause-noted : goal.returns-clause-noted
returns-clause-noted c =
    let file = c.in_ok-file.file in
    rw (← c.in_ok-file.ensures.same) (laws.walk_noted _ _ file.read c.start_with-standing.ensures c.in_ok-walk_file.ensures _ refl)
