-- `derivation::walk::walk`: the rows that are made are kept, and the whole walk is what is left of it from step k on, with the notes of the steps before it.
use Rattle.std.proofs.Common.{ℕ}
use Rattle.rules.specs.Promise.{view}
use Rattle.derivation.specs.Inner.{problem_of, padded_by, Kept}
use Rattle.derivation.proofs.StepLaws.{Walking}
use Rattle.derivation.proofs.walk.walk.Given as goal

abbrev pub invariant-loop-k : goal.invariant-loop-k
invariant-loop-k l =
    let file = l.file in
    Kept file.bytes.now file.sizes l.constraints.offsets l.ends l.rows
    × ((first : ℕ → ℕ) → Walking (padded_by l.idle_steps) (problem_of file.bytes.now first) l.derivation (view file.sizes.p l.fn.standing) l.fn.notes l.notes l.k
    (view file.sizes.p l.outcome.next))
