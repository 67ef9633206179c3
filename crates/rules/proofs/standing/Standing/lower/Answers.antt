-- `rules::standing::Standing::lower`: the bound is stored.
use Rattle.std.proofs.Common.{rules, ◌≡◌, ◌∙◌, sym, length, arith}
use Rattle.rules.proofs.Outcomes.{some_given, taken_lower}
use Rattle.rules.proofs.standing.Standing.lower.Goals as goal

pub returns-then-at-lt257 : goal.returns-then-at-lt257
returns-then-at-lt257 c p v met e h =
    let self = c.args.self.now in
    let sized : length self.bounds ≡ 257 = search rules in
    let given = some_given met v c.in_ok-most.most (sym c.in_ok-most.was ∙ e) in
    rw (given.0, given.1) (taken_lower p self.bounds self.marks self.nonzeros _ c.in_ok-most.most _ (omega arith) (omega arith))
