-- `rules::sums::Sums::total`: the sum over the places passed, which is below the limit.
use Rattle.std.proofs.Common.{arith, rules}
use Rattle.rules.proofs.SumLaws as laws
use Rattle.rules.proofs.sums.Sums.total.Goals as goal

pub loop-i-init : goal.loop-i-init
loop-i-init c = record { fits = omega arith; below = λ h. omega arith; is = laws.sum_start _ }

pub loop-i-preserved : goal.loop-i-preserved
loop-i-preserved c =
    record {
      fits = omega arith;
      below = λ h. omega arith;
      is = laws.sum_on _ _ _ _ c.loop-i.invariant.is c.term-total.ensures.0;
    }

pub returns-then-from-total : goal.returns-then-from-total
returns-then-from-total c =
    let over = laws.sum_over _ c.loop-i.i _ c.loop-i.total _ c.args.limit c.loop-i.invariant.is c.term-total.ensures.0 c.loop-i-test.true (omega arith) in
    search (rules, over)

pub returns : goal.returns
returns c =
    let S = c.in_ok-scale.ensures in
    record {
      target = S.target;
      below = c.loop-i.invariant.below (omega (arith, S.target.before));
      is = laws.sum_whole _ _ _ _ c.loop-i.invariant.is (omega arith);
    }
