use Rattle.std.proofs.Common.{arith}
use Rattle.circuit.proofs.AnswerLaws.{err_is}
use Rattle.circuit.proofs.Sized.{call_sized}
use Rattle.solver.proofs.SolveLaws as laws
use Rattle.solver.proofs.call.solved.Goals as goal

pub returns-in_err-tagged : goal.returns-in_err-tagged
returns-in_err-tagged c = rw (err_is _ c.from_residual.ensures.1) (laws.call_refused c.in_err-tagged.ensures.answer)

pub overflow_mul-file : goal.overflow_mul-file
overflow_mul-file c =
    let Z = call_sized c.in_ok-tagged.tagged.file.read in
    record { fits = omega (arith, Z.is_n, Z.formed.n_most) }

pub returns-then-output-derivation_size : goal.returns-then-output-derivation_size
returns-then-output-derivation_size c =
    let t = c.in_ok-tagged.tagged in
    let same = c.in_ok-tagged.ensures.same in
    rw (c.at.ensures, ← same.0, ← same.1) (laws.room_short (laws.taking t.file.read t.fits) (omega (arith, c.if-output-derivation_size.true, c.derivation_size.ensures)))

pub returns : goal.returns
returns c = let same = c.in_ok-tagged.ensures.same in rw (← same.0, ← same.1) c.solve_within-2.ensures

pub solve_within-requires-2-clause-enough : goal.solve_within-requires-2-clause-enough
solve_within-requires-2-clause-enough c = laws.most_places (call_sized c.in_ok-tagged.tagged.file.read)
