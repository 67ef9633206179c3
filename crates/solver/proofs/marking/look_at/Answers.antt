use Rattle.std.proofs.Common.{arith, rules, length, ◌≡◌}
use Rattle.solver.proofs.InTable.{sized_in, place_in}
use Rattle.solver.proofs.SweepLaws as laws
use Rattle.solver.proofs.marking.look_at.Goals as goal

pub known-requires : goal.known-requires
known-requires c = (omega arith, (place_in c.args.table.now c.requires.1, tt))

pub returns : goal.returns
returns c b M =
    let pre = c.requires in
    let T = c.args.table.now in
    let long : length c.args.kept.now ≡ 513 = search rules in
    laws.looked_by M _ pre.0 (omega (arith, pre.1, (sized_in T).is_m)) (omega (arith, long, place_in T pre.1)) _ c.known.ensures (λ q. q pre.0 pre.1 b)
