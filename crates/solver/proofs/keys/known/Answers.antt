use Rattle.std.proofs.Common.{arith, rules, None, length, ◌∙◌, ◌≡◌}
use Rattle.std.proofs.lemmas.List.{get_or_default}
use Rattle.solver.specs.Kept.{kept, sought}
use Rattle.solver.proofs.keys.known.Goals as goal

pub returns-in-Some : goal.returns-in-Some
returns-in-Some g c =
    let long : length c.args.kept.now ≡ 513 = search rules in
    kept (get_or_default c.args.kept.now c.args.k None _ (omega (arith, long, c.requires.place)) ∙ c.in-Some.is)

pub returns : goal.returns
returns g c =
    let long : length c.args.kept.now ≡ 513 = search rules in
    sought (get_or_default c.args.kept.now c.args.k None _ (omega (arith, long, c.requires.place)) ∙ c.in_default.is) c.find-found.ensures
