use Rattle.std.proofs.Common.{arith, ◌≡◌, ◌∙◌, sym, set, None}
use lib.Seq.{set_out}
use Rattle.rules.specs.Rows.{at}
use Rattle.solver.specs.Links.{unlinked, before_on, owner_on}
use Rattle.solver.proofs.InTable.{sized_in}
use Rattle.solver.proofs.LinkLaws as laws
use Rattle.solver.proofs.table.Table.forget.Goals as goal
use Rattle.solver.proofs.table.Table.forget.Goals.{then-owner-kept, else-owner-kept}

pub bounds-self-signal : goal.bounds-self-signal
bounds-self-signal g c = omega (arith, c.requires.1, (sized_in c.args.self.now).formed.n_most)

pub loop-next-init : goal.loop-next-init
unfolding at
loop-next-init g c =
    laws.walked_start c.args.self.now c.requires c.from-next.ensures

pub bounds-self-next : goal.bounds-self-next
bounds-self-next g c =
    laws.walked_inside c.args.self.now c.requires c.loop-next.invariant c.loop-next-test.true

pub loop-next-smaller : goal.loop-next-smaller
unfolding before_on unlinked
loop-next-smaller g c =
    laws.walked_falls c.args.self.now c.requires c.loop-next.invariant c.loop-next-test.true _ c.from-next-in-loop-next.ensures

pub loop-next-preserved : goal.loop-next-preserved
unfolding before_on owner_on unlinked
loop-next-preserved g c =
    let forgot : c.if-owner-kept.kept ≡ set c.loop-next.kept c.from-owner.result None
    = elim c.if-owner-kept.branch [
      | then-owner-kept w ↦ w.kept-is
      | else-owner-kept w ↦ w.kept-is ∙ sym (set_out _ _ _ w.if-owner-kept.false)
    ] in
    laws.walked_on c.args.self.now c.requires c.loop-next.invariant c.loop-next-test.true _ c.from-owner.ensures _
    c.from-next-in-loop-next.ensures forgot

pub returns : goal.returns
returns g c =
    laws.walked_end c.args.self.now c.requires c.loop-next.invariant (omega (arith, c.loop-next-test.false))
