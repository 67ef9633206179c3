use Rattle.std.proofs.Common.{arith, rules, length, ◌≡◌}
use Rattle.solver.proofs.InTable.{sized_in, place_in}
use Rattle.solver.proofs.KeySearch as laws
use Rattle.solver.proofs.bounds.known_key.Goals as goal

pub known-requires : goal.known-requires
known-requires c = (omega arith, (place_in c.args.table.now c.requires.2, tt))

pub returns : goal.returns
returns c =
    let pre = c.requires in
    let T = c.args.table.now in
    let long : length c.args.keys.now ≡ 513 = search rules in
    laws.found_by _ _ _ _ c.known.ensures (omega (arith, long, place_in T pre.2)) (pre.0.each _ pre.1 (omega (arith, pre.2, (sized_in T).is_m))) (λ q. q pre.1 pre.2 pre.0.low)
