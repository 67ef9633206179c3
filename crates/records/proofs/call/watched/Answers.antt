-- `records::call::watched`: the refusals, then what the search found, written where it is a pair.
use Rattle.std.proofs.Common.{sym, ◌∙◌}
use Rattle.circuit.proofs.AnswerLaws.{err_is}
use Rattle.records.proofs.CallLaws as laws
use Rattle.records.proofs.Watched.{placed}
use Rattle.records.proofs.call.watched.Goals as goal

pub returns-in_err-file : goal.returns-in_err-file
returns-in_err-file c = rw (err_is _ c.from_residual.ensures.1) (laws.stopped _ c.args.records.now c.args.window c.args.output.now c.in_err-file.ensures.answer)

pub returns-in_err-check_arguments : goal.returns-in_err-check_arguments
returns-in_err-check_arguments c =
    rw (err_is _ c.from_residual-in_err-check_arguments.ensures.1, ← c.in_ok-file.ensures.same)
    (laws.turned_back _ _ c.args.window _ c.in_ok-file.file.read c.in_err-check_arguments.ensures)

pub first_pair-pair-requires : goal.first_pair-pair-requires
first_pair-pair-requires c =
    let W = laws.whole_is (sym c.in_ok-check_arguments.ensures) in rw c.window_of.ensures (laws.window_small c.args.window W.most)

pub write_pair-requires-clause-placed : goal.write_pair-requires-clause-placed
write_pair-requires-clause-placed c =
    placed _ c.args.window _ c.in_ok-file.file.read c.in_ok-check_arguments.ensures c.window_of.ensures (sym c.in-Some.is ∙ c.first_pair-pair.ensures)

pub write_pair-requires-clause-room : goal.write_pair-requires-clause-room
write_pair-requires-clause-room c = let W = laws.whole_is (sym c.in_ok-check_arguments.ensures) in W.wide

pub returns-in-Some : goal.returns-in-Some
returns-in-Some c =
    rw (← c.in_ok-file.ensures.same)
    (laws.pair_seen _ _ c.args.window c.args.output.now c.in_ok-file.file.read c.in_ok-check_arguments.ensures c.window_of.ensures
    c.first_pair-pair.ensures c.in-Some.is c.write_pair.ensures)

pub returns-in_default : goal.returns-in_default
returns-in_default c =
    rw (← c.in_ok-file.ensures.same)
    (laws.none_seen _ _ c.args.window c.args.output.now c.in_ok-file.file.read c.in_ok-check_arguments.ensures c.window_of.ensures
    c.first_pair-pair.ensures c.in_default.is)
