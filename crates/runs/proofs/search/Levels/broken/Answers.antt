-- A constraint that holds leads on, any other out.
use Rattle.std.proofs.Common.{rules}
use Rattle.circuit.proofs.Sized.{call_sized}
use Rattle.runs.specs.declared.levels.Leveled.{Leveled}
use Rattle.runs.proofs.SearchLaws as laws
use Rattle.runs.proofs.search.Levels.broken.Goals as goal

-- what a slice has past its end
abbrev nothing : Leveled
nothing = record { level = 0; constraint = 0 }

pub returns-in_err-broken : goal.returns-in_err-broken
returns-in_err-broken c =
    let S = c.args.self.now in
    rw c.from_residual.ensures
    (laws.broken_nowhere (call_sized S.constraints.now.file.read) S.constraints.now.placed S.order.now S.starts S.ordered S.begun _ _ c.requires.0 S.few
    nothing (λ k l. search rules))

pub returns : goal.returns
returns c =
    let S = c.args.self.now in
    rw c.from.ensures
    (laws.broken_here (call_sized S.constraints.now.file.read) S.constraints.now.placed S.order.now S.starts S.ordered S.begun _ _ c.requires.0 S.few
    c.in_ok-broken.ensures.runs.2.0 nothing c.in_ok-broken.broken.now (search rules) (search rules) (search rules) (λ k l. search rules))
