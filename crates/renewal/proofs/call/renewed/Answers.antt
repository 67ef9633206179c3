-- `renewal::call::renewed`: each way out is one law.
use Rattle.std.proofs.Common.{refl, arith}
use Rattle.std.proofs.lemmas.Result.{err_from_is_err_and}
use Rattle.circuit.specs.Bytes.{byte_at}
use Rattle.derivation.proofs.CallLaws.{walk_way, walk_noted}
use Rattle.renewal.specs.Inner.{Bytes}
use Rattle.renewal.proofs.CallLaws as laws
use Rattle.renewal.proofs.call.renewed.Goals as goal

pub returns-in_err-tagged : goal.returns-in_err-tagged
returns-in_err-tagged c =
    let p = err_from_is_err_and c.from_residual.result c.from_residual.ensures.1 in
    rw (p.1, p.2) (laws.call_refused _ _ _ _ c.in_err-tagged.ensures.answer)

pub returns-in_err-derivation : goal.returns-in_err-derivation
returns-in_err-derivation c =
    let t = c.in_ok-tagged.tagged in
    let same = c.in_ok-tagged.ensures.same in
    let p = err_from_is_err_and c.from_residual-in_err-derivation.result c.from_residual-in_err-derivation.ensures.1 in
    rw (p.1, p.2, ← same.0, ← same.1) (laws.head_refused _ _ t.file.read t.fits _ _ c.in_err-derivation.ensures.answer)

pub returns-in_err-walk_file : goal.returns-in_err-walk_file
returns-in_err-walk_file c =
    let t = c.in_ok-tagged.tagged in
    let same = c.in_ok-tagged.ensures.same in
    let p = err_from_is_err_and c.from_residual-in_err-walk_file.result c.from_residual-in_err-walk_file.ensures.1 in
    rw (p.1, p.2, ← same.0, ← same.1, ← c.in_ok-derivation.ensures.same)
    (laws.walk_refused _ _ t.file.read t.fits _ _ c.in_ok-derivation.derivation.framed
    (walk_way _ _ t.file.read c.start_with-standing.ensures c.in_err-walk_file.ensures))

pub returns-then-output-needed : goal.returns-then-output-needed
returns-then-output-needed c =
    let t = c.in_ok-tagged.tagged in
    let same = c.in_ok-tagged.ensures.same in
    rw (c.at.ensures, ← same.0, ← same.1, ← c.in_ok-derivation.ensures.same)
    (laws.room_refused _ _ t.file.read t.fits _ _ c.in_ok-derivation.derivation.framed
    (walk_way _ _ t.file.read c.start_with-standing.ensures c.in_ok-walk_file.ensures) c.if-output-needed.true)

pub returns : goal.returns
unfolding byte_at
returns c =
    let t = c.in_ok-tagged.tagged in
    let same = c.in_ok-tagged.ensures.same in
    let bytes : Bytes c.args.derivation.now = record { below = λ k h. omega (arith, c.type_inv.derivation k) } in
    rw (← same.0, ← same.1, ← c.in_ok-derivation.ensures.same, c.derivation_size.ensures)
    (laws.renews _ _ t.file.read t.fits _ _ c.in_ok-derivation.derivation.framed
    (walk_way _ _ t.file.read c.start_with-standing.ensures c.in_ok-walk_file.ensures) c.if-output-needed.false
    (rw c.in_ok-derivation.ensures.same bytes)
    (walk_noted _ _ t.file.read c.start_with-standing.ensures c.in_ok-walk_file.ensures _ refl) c.copy_steps-count.ensures)
