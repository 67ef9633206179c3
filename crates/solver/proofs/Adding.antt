-- What a step that adds says of its fields.
use Prim.Native.Nat.{ℕ, ◌≤◌, ◌<◌}
use mathlib.Core.Path.{◌≡◌}
use mathlib.Core.Bool.{Bool, true, false}
use native.Mathlib.Omega.{arith}
use borrow.Author.Tests.{eqb-true}
use Rattle.circuit.specs.Circuit.{Circuit, WellFormed}
use Rattle.laws.specs.Problem.{Problem, Names, nothing, a_constraint, given}
use Rattle.laws.specs.Standing.{Standing}
use Rattle.laws.specs.Step.{Step, names_of, refers, within, inside, named, referred, constraints, references, in_range}
use Rattle.laws.proofs.Sum.{and_left, and_right}
use Rattle.laws.proofs.Turns.{within_says, adds_says, adds_target}
use Rattle.laws.proofs.Optimum.{fits_says}
use Rattle.solver.specs.Choice.{Adds}

-- some first bounds, where which ones doesn't matter
any : ℕ → ℕ
any s = 0

names_most : (q : Names) (P : Problem) (k : ℕ) → inside (named q P) k ≡ true → k ≤ P.m
names_most nothing P k e = omega (arith, eqb-true k 0 e)
names_most a_constraint P k e = (within_says P.m k e).1

refers_most : (b : Bool) (P : Problem) (r : ℕ) → inside (referred b P) r ≡ true → r ≤ P.n
refers_most false P r e = omega (arith, eqb-true r 0 e)
refers_most true P r e = (within_says P.n r e).1

-- the numbers of a step that is taken
pub record Fields (n : ℕ) (x : Step) : Type 0 where
  pub least : 1 ≤ x.target
  pub most : x.target ≤ n
  pub target : x.target < 65536
  pub constraint : x.constraint < 65536
  pub reference : x.reference < 65536

pub fields : {C : Circuit} → WellFormed C → (S : Standing) (x : Step) → Adds C S x → Fields C.n x
unfolding in_range
fields {C} W S x A =
    let P = given C any in
    let target = adds_target P S x (A any) in
    let ranged = (fits_says P S x (adds_says P S x (A any)).0).0 in
    let rest = and_right (within P.n x.target) _ ranged in
    let constraint = names_most (names_of x.kind) P x.constraint (and_left _ (inside (references x.kind P) x.reference) rest) in
    let reference = refers_most (refers x.kind) P x.reference (and_right (inside (constraints x.kind P) x.constraint) _ rest) in
    record {
      least = target.0;
      most = target.1;
      target = omega (arith, target.1, W.n_most);
      constraint = omega (arith, constraint, W.m_most);
      reference = omega (arith, reference, W.n_most);
    }
