-- `circuit::runs::first_unsatisfied`: a constraint that the values satisfy leads on, any other out.
use mathlib.Core.Path.{◌∙◌}
use native.Mathlib.Omega.{arith}
use Rattle.circuit.proofs.SearchLaws as laws
use Rattle.circuit.proofs.runs.first_unsatisfied.Goals as goal

pub loop-k-init : goal.loop-k-init
loop-k-init c = (laws.part_zero _, laws.search_start _ _)

pub returns-then-not-satisfied : goal.returns-then-not-satisfied
returns-then-not-satisfied c =
    laws.search_found _ _ _ _ c.loop-k.invariant.1 c.loop-k.auto.k c.loop-k-test.true
    (laws.satisfied_part _ _ _ _ _ _ c.loop-k.auto.k c.loop-k.invariant.0 c.satisfied.ensures ∙ c.if-not-satisfied.true)

pub loop-k-preserved : goal.loop-k-preserved
loop-k-preserved c = (
  laws.rest_next _ _ _ _ c.loop-k.auto.k c.loop-k.invariant.0 c.after_constraint-rest.ensures,
  laws.search_next _ _ _ _ c.loop-k.invariant.1 c.loop-k-test.true
      (laws.satisfied_part _ _ _ _ _ _ c.loop-k.auto.k c.loop-k.invariant.0 c.satisfied.ensures ∙ c.if-not-satisfied.false),
)

pub returns : goal.returns
returns c = laws.search_none _ _ _ _ c.loop-k.invariant.1 c.loop-k-test.false

pub returns-else-not-satisfied : goal.returns-else-not-satisfied
returns-else-not-satisfied c =
    laws.search_end _ _ _ _ c.loop-k.invariant.1 c.loop-k-test.true (omega arith)
    (laws.satisfied_part _ _ _ _ _ _ c.loop-k.auto.k c.loop-k.invariant.0 c.satisfied.ensures ∙ c.if-not-satisfied.false)
