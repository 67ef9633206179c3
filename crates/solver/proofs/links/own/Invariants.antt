-- The links passed are noted.
use Rattle.std.proofs.Common.{ℕ, ◌≡◌, ◌<◌}
use Rattle.solver.specs.Links.{owner_on}
use Rattle.solver.proofs.links.own.Given as goal

abbrev pub invariant-loop-link : goal.invariant-loop-link
invariant-loop-link l = (i : ℕ) → i < l.link-index → owner_on l.link-items i ≡ l.k
