-- The first e entries are linked, and each is in the row that it was in.
use Rattle.solver.specs.Links.{Linked, SameOwners}
use Rattle.solver.proofs.links.link_entries.Given as goal

abbrev pub invariant-loop-e : goal.invariant-loop-e
invariant-loop-e l = Linked l.rows l.e l.lasts l.links × SameOwners l.initial.links l.links
