use Rattle.std.proofs.Common.{arith, sym, ◌∙◌}
use Rattle.circuit.specs.Reader.{constraint_in}
use Rattle.solver.proofs.KeyWays as laws
use Rattle.solver.proofs.keys.root_key.Goals as goal

pub returns-in_err-target : goal.returns-in_err-target
unfolding constraint_in
returns-in_err-target c n P W l = rw c.from_residual.ensures (laws.root_unnamed _ P W l c.in_err-target.ensures)

pub returns-then-not-root_met : goal.returns-then-not-root_met
unfolding constraint_in
returns-then-not-root_met c n P W l =
    laws.root_unmet _ P W l c.in_ok-target.ensures (sym c.root_met.ensures ∙ c.if-not-root_met.true)

pub returns-then-bound_at-bound : goal.returns-then-bound_at-bound
unfolding constraint_in
returns-then-bound_at-bound c n P W l =
    laws.root_high _ P W l c.in_ok-target.ensures
    (omega (arith, c.if-bound_at-bound.true, c.bound_at.ensures, c.root_bound-bound.ensures))

pub returns : goal.returns
unfolding constraint_in
returns c n P W l =
    let bound = c.root_bound-bound.ensures in
    rw bound
    (laws.root_found _ P W l c.in_ok-target.ensures
    (sym c.root_met.ensures ∙ c.if-not-root_met.false)
    (omega (arith, c.if-bound_at-bound.false, c.bound_at.ensures, bound)))
