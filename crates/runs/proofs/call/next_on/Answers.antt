-- `runs::call::next_on`: the refusals, then the search from the candidate after the given run.
use Rattle.std.proofs.Common.{◌≡◌, arith, rules, length}
use Rattle.circuit.proofs.AnswerLaws.{err_is}
use Rattle.runs.proofs.CountLaws.{has_ended, has_risen}
use Rattle.runs.proofs.CallLaws as laws
use Rattle.runs.proofs.call.next_on.Goals as goal

pub returns-in_err-file : goal.returns-in_err-file
returns-in_err-file c =
    rw (err_is _ c.from_residual.ensures.1) (laws.next_stopped c.args.circuit.now c.args.run.now c.args.answer.now c.in_err-file.ensures.answer)

pub returns-in_err-check_room : goal.returns-in_err-check_room
returns-in_err-check_room c =
    rw (err_is _ c.from_residual-in_err-check_room.ensures.1)
    (laws.next_narrow _ c.in_ok-file.ensures.answer c.args.run.now c.args.answer.now c.in_err-check_room.ensures)

pub returns-then-run-sizes : goal.returns-then-run-sizes
returns-then-run-sizes c =
    rw c.at.ensures
    (laws.next_short _ c.in_ok-file.ensures.answer c.args.run.now c.args.answer.now c.in_ok-check_room.ensures c.if-run-sizes.true)

pub returns-in-Some : goal.returns-in-Some
returns-in-Some c =
    rw c.at-in-Some.ensures
    (laws.next_unfit _ c.in_ok-file.ensures.answer c.args.run.now c.if-run-sizes.false c.args.answer.now c.in_ok-check_room.ensures
    c.in-Some.unfit c.in-Some.ensures)

pub advance-requires : goal.advance-requires
advance-requires c =
    let read = c.in_ok-file.ensures.answer in
    let sized : length c.values_of-values.result ≡ 11 = search rules in (
      omega (arith, laws.few_here _ read _ c.in_ok-check_room.ensures),
      rw c.values_of-values.ensures (laws.next_candidate _ read c.args.run.now c.if-run-sizes.false c.in_default.ensures),
    )

pub returns-then-is_none : goal.returns-then-is_none
returns-then-is_none c =
    laws.next_ended _ c.in_ok-file.ensures.answer c.args.run.now c.if-run-sizes.false c.in_default.ensures c.args.answer.now c.in_ok-check_room.ensures
    (has_ended c.advance.result c.if-is_none.ensures (rw c.values_of-values.ensures at c.advance.ensures.rose))

pub returns : goal.returns
returns c =
    let R = has_risen c.advance.result c.if-is_none.ensures (rw c.values_of-values.ensures at c.advance.ensures.rose) in
    laws.next_found _ c.in_ok-file.ensures.answer c.args.run.now c.if-run-sizes.false c.in_default.ensures c.args.answer.now c.in_ok-check_room.ensures
    R.1 (rw c.in_ok-file.ensures.same at c.seek.ensures)

pub seek-requires : goal.seek-requires
seek-requires c =
    let read = c.in_ok-file.ensures.answer in
    let room = c.in_ok-check_room.ensures in
    let R = has_risen c.advance.result c.if-is_none.ensures (rw c.values_of-values.ensures at c.advance.ensures.rose) in
    let ready = laws.next_ready _ read c.args.run.now c.if-run-sizes.false c.in_default.ensures R.1 in
    (laws.few_here _ read _ room, laws.small_here _ read _ room, laws.room_here _ read _ room, ready)
