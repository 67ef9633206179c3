-- What the functions inside the call leave. How the solver runs, not what it means.
use Rattle.std.specs.Prelude.{ℕ, ◌≡◌, List, length}
use Rattle.circuit.specs.Answer.{Answer}
use Rattle.solver.specs.Call.{Solved, solver_call, solver_output}

-- the call's answer, and what it leaves in the buffer that held `output`
pub record Solves (c h output : List ℕ) (r : Answer Solved) (left : List ℕ) : Type 0 where
  pub answer : r ≡ solver_call c h (length output)
  pub written : left ≡ solver_output c h output
