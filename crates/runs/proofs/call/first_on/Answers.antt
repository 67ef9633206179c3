-- `runs::call::first_on`: the refusals, then the search from the candidate of zeros.
use Rattle.circuit.proofs.AnswerLaws.{err_is}
use Rattle.runs.proofs.CallLaws as laws
use Rattle.runs.proofs.call.first_on.Goals as goal

pub returns-in_err-file : goal.returns-in_err-file
returns-in_err-file c =
    rw (err_is _ c.from_residual.ensures.1) (laws.first_stopped c.args.circuit.now c.args.answer.now c.in_err-file.ensures.answer)

pub returns-in_err-check_room : goal.returns-in_err-check_room
returns-in_err-check_room c =
    rw (err_is _ c.from_residual-in_err-check_room.ensures.1)
    (laws.first_narrow _ c.in_ok-file.ensures.answer c.args.answer.now c.in_err-check_room.ensures)

pub returns : goal.returns
returns c =
    laws.first_found _ c.in_ok-file.ensures.answer c.args.answer.now c.in_ok-check_room.ensures
    (rw (c.in_ok-file.ensures.same, c.values_of.ensures) at c.seek.ensures)

pub seek-requires : goal.seek-requires
seek-requires c =
    let read = c.in_ok-file.ensures.answer in
    let room = c.in_ok-check_room.ensures in
    (laws.few_here _ read _ room, laws.small_here _ read _ room, laws.room_here _ read _ room, rw c.values_of.ensures (laws.start_here _ read))
