use Rattle.std.proofs.Common.{arith, ◌≡◌, ◌∙◌, ◌-◌, length, length-take, length-drop, below_more}
use Rattle.solver.specs.Links.{unlinked}
use Rattle.solver.proofs.LinkLaws as laws
use Rattle.solver.proofs.links.own.Goals as goal

pub loop-link-preserved : goal.loop-link-preserved
unfolding unlinked
loop-link-preserved c =
    below_more _ _ (λ i h. laws.owner_other _ _ _ i (λ (z : i ≡ c.loop-link.link-index). omega arith) ∙ c.loop-link.invariant i h)
    (laws.owner_same _ _ _ (omega arith))

pub returns : goal.returns
returns c =
    let sized : length c.loop-link.link-items ≡ c.args.end - c.args.start
    = c.loop-link.auto.link-items ∙ simp (length-take, length-drop) (omega (arith, c.requires.1)) in
    laws.owned_part _ c.requires.0 c.requires.1 sized (λ i h. c.loop-link.invariant i (omega arith))
