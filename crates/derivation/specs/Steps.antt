-- A derivation's steps, read from its bytes and taken one after the other: refusals 15 to 17 and 29, each step checked in full before the next.
use Rattle.std.specs.Prelude.{ℕ, zero, suc, ◌+◌, ◌*◌, Bool, cond, not, ◌||◌, List, [], ◌∷◌, eqb}
use Rattle.std.proofs.Math.Option.{Option, none, some}
use Rattle.circuit.specs.Bytes.{byte_at, u16_at}
use Rattle.circuit.specs.Answer.{Answer, refused, given, ask, and_then}
use Rattle.laws.specs.Problem.{Problem}
use Rattle.laws.specs.Standing.{Standing, start}
use Rattle.laws.specs.Step.{Kind, kinds, kind_number, Step, in_range, met, is_idle, after}

-- the first of the kinds that has a number
unfoldable pub numbered : List Kind → ℕ → Option Kind
numbered [] x = none
numbered (q ∷ qs) x = cond (eqb x (kind_number q)) (some q) (numbered qs x)

-- Rule 2.2: the kind with a number, by the table of kinds.
unfoldable pub kind_of : ℕ → Option Kind
kind_of x = numbered kinds x

-- Rule 2.1: the sizes of a derivation
abbrev pub head_size : ℕ
head_size = 7

abbrev pub step_size : ℕ
step_size = 7

abbrev pub steps_most : ℕ
steps_most = 4096

-- where step k starts, counted from 0; with k the number of steps, where the derivation ends
unfoldable pub step_start : ℕ → ℕ
step_start k = head_size + step_size * k

-- Rule 2.2: the fields of a step.
unfoldable pub step_at : Kind → List ℕ → ℕ → Step
step_at q d k =
    record {
      kind = q;
      target = u16_at d (step_start k + 1);
      constraint = u16_at d (step_start k + 3);
      reference = u16_at d (step_start k + 5);
    }

abbrev pub of_kind : Option Kind → List ℕ → ℕ → Option Step
of_kind none d k = none
of_kind (some q) d k = some (step_at q d k)

-- step k, where its kind is known
unfoldable pub read_step : List ℕ → ℕ → Option Step
read_step d k = of_kind (kind_of (byte_at d (step_start k))) d k

-- Rules 3.3 and 3.4: one step, refused with 15, 16, 17 or 29, or the standing that it gives. Where `padded` is true idle steps are let pass, as a
-- renewal does.
abbrev pub tried : Bool → Problem → Standing → Option Step → ℕ → Answer Standing
tried padded P S none place = refused 15 place
tried padded P S (some x) place =
    ask (in_range P x) 16 place (ask (met P S x) 17 place (ask (padded || not (is_idle P S x)) 29 place (given (after P S x))))

-- Rule 3.5: the steps from k (counted from 0) on, `left` of them, each taken on what the one before it gave.
unfoldable pub walk_from : Bool → Problem → List ℕ → ℕ → ℕ → Standing → Answer Standing
walk_from padded P d k zero S = given S
walk_from padded P d k (suc left) S = and_then (tried padded P S (read_step d k) (suc k)) (walk_from padded P d (suc k) left)

-- all steps, the first of them taken on the start
abbrev pub walked : Bool → Problem → List ℕ → Answer Standing
walked padded P d = walk_from padded P d 0 (u16_at d 5) (start P)

-- the same steps as a list, those of an unknown kind left out
abbrev pub listed : Option Step → List Step → List Step
listed none rest = rest
listed (some x) rest = x ∷ rest

unfoldable pub steps_from : List ℕ → ℕ → ℕ → List Step
steps_from d k zero = []
steps_from d k (suc left) = listed (read_step d k) (steps_from d (suc k) left)

-- the steps of a derivation
unfoldable pub steps_of : List ℕ → List Step
steps_of d = steps_from d 0 (u16_at d 5)
