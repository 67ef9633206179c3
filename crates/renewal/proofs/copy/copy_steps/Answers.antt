-- `renewal::copy::copy_steps`: a step that is noted is passed over, another is copied.
use Rattle.std.proofs.Common.{arith, ◌∙◌, sym}
use borrow.Author.Tests.{not-true}
use Rattle.renewal.proofs.Copies as laws
use Rattle.renewal.proofs.copy.copy_steps.Goals as goal
use Rattle.renewal.proofs.copy.copy_steps.Goals.{then-is_kept, else-is_kept}

pub loop-k-init : goal.loop-k-init
loop-k-init c = (omega arith, λ b n. laws.copying_start _ _ _)

pub loop-k-preserved : goal.loop-k-preserved
loop-k-preserved c =
    let l = c.loop-k in
    elim c.if-is_kept.branch [
      | then-is_kept w ↦ (
        omega (arith, l.invariant.0, w.index-is),
        λ b n.
            rw (w.index-is, w.output-is)
            (laws.copying_next (l.invariant.1 b n) (not-true _ (sym c.is_kept.ensures ∙ w.if-is_kept.true)) b n
            (omega (arith, c.loop-k-test.true, c.count-k-end.ensures)) c.args.derivation.framed.sized w.copy_step.ensures),
      )
      | else-is_kept w ↦ (
        omega (arith, l.invariant.0, w.index-is),
        λ b n. rw (w.index-is, w.output-is) (laws.copying_noted (l.invariant.1 b n) (laws.told _ (sym c.is_kept.ensures ∙ w.if-is_kept.false))),
      )
    ]
