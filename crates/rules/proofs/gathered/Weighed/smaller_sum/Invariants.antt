-- `rules::gathered::Weighed::smaller_sum`: the sum of the products passed whose weights are smaller.
use Rattle.std.proofs.Common.{◌≡◌, length}
use Rattle.laws.specs.Sum.{sum}
use Rattle.rules.specs.View.{coef_in}
use Rattle.rules.specs.Weights.{smaller_at}
use Rattle.rules.proofs.gathered.Weighed.smaller_sum.Given as goal

abbrev pub invariant-loop-weight : goal.invariant-loop-weight
invariant-loop-weight l = l.below ≡ sum (length l.yielded) (smaller_at (coef_in l.self.weights.now) (coef_in l.self.products.now) l.w)
