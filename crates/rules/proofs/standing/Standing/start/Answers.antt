-- `rules::standing::Standing::start`: the constant, then the inputs that are marked, then none.
use Rattle.std.proofs.Common.{◌≡◌, ◌∙◌, rules, arith, replicate, ◌+◌, ◌-◌}
use Rattle.rules.proofs.Outcomes as laws
use Rattle.rules.proofs.standing.Standing.start.Goals as goal
use Rattle.rules.proofs.standing.Standing.start.Goals.{then-p-eq0, else-p-eq0}

pub returns : goal.returns
returns c =
    let inputs = c.min.result + 1 - 1 in
    let bounds_are : c.if-p-eq0.bounds ≡ replicate 257 (c.args.p - 1) =
    elim c.if-p-eq0.branch [
      | then-p-eq0 w ↦ w.bounds-is ∙ laws.start_zero _ 257 (omega arith)
      | else-p-eq0 w ↦ w.bounds-is
    ] in
    laws.start_view _ 257 inputs _ 257 _ _ bounds_are (omega (arith, c.min.ensures))
    (laws.start_filled inputs 256 c.fill.new.self (search rules))
