-- `rules::digits::prepare`: no reference separates where the bounds reach p, or coefficients are alike; else what was gathered.
use Rattle.std.proofs.Common.{refl, arith}
use Rattle.rules.proofs.RowDigits as laws
use Rattle.rules.proofs.digits.prepare.Goals as goal
use Rattle.rules.proofs.digits.prepare.Goals.{then-is_crowded-via-then-is_crowded, then-is_crowded-via-else-is_crowded+then-not-coefs_differ}

pub returns-then-is_crowded : goal.returns-then-is_crowded
returns-then-is_crowded c =
    elim c.then-is_crowded.branch [
      | then-is_crowded-via-then-is_crowded w ↦
          record { fails = λ n K P L r er. laws.fails_crowded L P _ _ r er _ refl (c.is_crowded.ensures w.if-is_crowded.true) }
      | then-is_crowded-via-else-is_crowded+then-not-coefs_differ w ↦
          record { fails = λ n K P L r er. laws.fails_alike L P _ _ r er _ refl (w.coefs_differ.ensures.1 w.if-not-coefs_differ.true) }
    ]

pub returns : goal.returns
returns c = laws.prepared _ _ _ _ (omega arith) (c.coefs_differ.ensures.0 c.if-not-coefs_differ.false) _ c.gather.ensures
