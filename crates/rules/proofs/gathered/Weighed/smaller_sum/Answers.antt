-- `rules::gathered::Weighed::smaller_sum`: the sum of the products passed whose weights are smaller.
use Rattle.std.proofs.Common.{arith, rules, ◌≡◌, ◌<◌, ◌+◌, [], ◌∷◌, ◌++◌, length, length-append}
use Rattle.std.proofs.lemmas.Slice.Zip.{zip_turn}
use Rattle.rules.specs.View.{coef_in}
use Rattle.rules.proofs.SumLaws.{sum_start}
use Rattle.rules.proofs.DigitsLaws as laws
use Rattle.rules.proofs.gathered.Weighed.smaller_sum.Goals as goal
use Rattle.rules.proofs.gathered.Weighed.smaller_sum.Goals.{In-Some}

-- weight and product stand at the place that is reached
here : (c : In-Some) → (length c.loop-weight.yielded < length c.args.self.now.weights.now)
    × (c.in-Some.weight.now ≡ coef_in c.args.self.now.weights.now (length c.loop-weight.yielded))
    × (c.in-Some.product.now ≡ coef_in c.args.self.now.products.now (length c.loop-weight.yielded))
unfolding coef_in
here c =
    let held = c.args.self.now in
    let its = c.loop-weight in
    let t =
    zip_turn held.weights.now held.products.now its.yielded c.into_iter-weight-iterator.result its.weight-iterator c.next.new.self _ (search rules) (search rules)
    its.yielded_by _ c.in-Some.is c.next.ensures.steps in
    (t.0, t.2 0, t.3 0)

pub loop-weight-init : goal.loop-weight-init
loop-weight-init c = sum_start _

pub overflow_add-below : goal.overflow_add-below
overflow_add-below c =
    let h = here (goal.at.overflow_add-below c).In-Some in
    omega
    (arith, laws.smaller_room _ _ _ _ _ _ _ _ _ h.0 c.loop-weight.invariant h.1 h.2 c.smaller-below.ensures, c.args.self.now.fits)

pub loop-weight-preserved : goal.loop-weight-preserved
loop-weight-preserved c =
    let h = here (goal.at.loop-weight-preserved c).In-Some in
    let on : length (c.loop-weight.yielded ++ (c.in-Some.weight, c.in-Some.product) ∷ []) ≡ length c.loop-weight.yielded + 1 = simp length-append in
    rw on (laws.smaller_on _ _ _ _ _ _ _ _ c.loop-weight.invariant h.1 h.2 c.smaller-below.ensures)
