-- How the functions inside the call run: what they promise one another, not what the call means.
use Rattle.std.specs.Prelude.{ℕ, ◌<◌, ◌≡◌, List, length}
use Rattle.circuit.specs.Bytes.{byte_at}
use Rattle.circuit.specs.Answer.{Answer}
use Rattle.laws.specs.Step.{Step}
use Rattle.derivation.specs.Steps.{head_size}
use Rattle.derivation.specs.Encoded.{header_bytes, steps_bytes, stored}
use Rattle.renewal.specs.Call.{renewal_call, renewal_output}

-- the numbers of a list are bytes
pub record Bytes (d : List ℕ) : Type 0 where
  pub below : (k : ℕ) → k < length d → byte_at d k < 256

-- the steps are written, then the header before them, and counted
pub record Copied (xs : List Step) (output left : List ℕ) (count : ℕ) : Type 0 where
  pub counted : count ≡ length xs
  pub written : left ≡ stored (stored output head_size (steps_bytes xs)) 0 (header_bytes (length xs))

-- the call's answer, and what it leaves in the buffer that held `output`
pub record Renews (c h d output : List ℕ) (r : Answer ℕ) (left : List ℕ) : Type 0 where
  pub answer : r ≡ renewal_call c h d (length output)
  pub written : left ≡ renewal_output c h d output
