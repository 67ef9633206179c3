-- `solver::search::divisor_beside`: A where B is named, else B.
use borrow.Author.Tests.{eq-eqb, ne_eqb}
use Rattle.circuit.specs.Reader.{constraint_in}
use Rattle.solver.specs.Search.{factor}
use Rattle.solver.proofs.search.divisor_beside.Goals as goal

pub returns-then-forms-eq-IN_B : goal.returns-then-forms-eq-IN_B
unfolding factor constraint_in
returns-then-forms-eq-IN_B c = rw (eq-eqb c.args.forms 2 c.if-forms-eq-IN_B.true) c.divisor_of.ensures

pub returns-else-forms-eq-IN_B : goal.returns-else-forms-eq-IN_B
unfolding factor constraint_in
returns-else-forms-eq-IN_B c =
    rw (ne_eqb c.args.forms 2 c.if-forms-eq-IN_B.false) (rw c.after_form.ensures at c.divisor_of-else-forms-eq-IN_B.ensures)
