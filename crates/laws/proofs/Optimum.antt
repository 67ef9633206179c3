-- OPTIMUM: a standing where no met step adds anything is not exceeded by any derivation of met steps, idle or not, from a standing below it.
use mathlib.Core.Path.{◌≡◌, ap}
use mathlib.Core.Bool.{true, false, not}
use mathlib.Core.List.{List, [], ◌∷◌}
use Rattle.laws.specs.Problem.{Problem}
use Rattle.laws.specs.Standing.{Standing}
use Rattle.laws.specs.Step.{Step, in_range, met, fits, change, adds, after, replay, each, formerly}
use Rattle.laws.specs.Sound.{AtLeast, Closed}
use Rattle.laws.proofs.Sum.{and_left, and_right, and_both, true_by, true_or_false}
use Rattle.laws.proofs.Order.{at_least_trans, apply_idle}
use Rattle.laws.proofs.Monotone.{met_mono, after_mono}

pub fits_says : (P : Problem) (S : Standing) (x : Step) → fits P S x ≡ true → (in_range P x ≡ true) × (met P S x ≡ true)
unfolding fits
fits_says P S x e = (and_left _ _ e, and_right (in_range P x) _ e)

pub fits_holds : (P : Problem) (S : Standing) (x : Step) → in_range P x ≡ true → met P S x ≡ true → fits P S x ≡ true
unfolding fits
fits_holds P S x e g = and_both _ _ e g

-- what fits and doesn't add is idle
pub closed_idle : (P : Problem) (S : Standing) (x : Step) → adds P S x ≡ false → fits P S x ≡ true → AtLeast (after P S x) S
unfolding after adds
closed_idle P S x a f =
    apply_idle (change P S x) S x.target
    (true_by _ (λ e. true_or_false _ (and_both (fits P S x) _ f (ap not e)) a))

pub optimum : {P : Problem} {S S' : Standing}
    → Closed P S' → AtLeast S S' → (xs : List Step) → formerly P S xs ≡ true → AtLeast (replay P S xs) S'
unfolding each replay
optimum {S = S} c g [] e = g
optimum {P} {S} {S'} c g (x ∷ xs) e =
    let rest = formerly P (after P S x) xs in
    let f = fits_says P S x (and_left (fits P S x) rest e) in
    let still = fits_holds P S' x f.0 (met_mono P g x f.1) in
    optimum {S = after P S x} c (at_least_trans (after_mono P g x) (closed_idle P S' x (c.closed x) still)) xs (and_right (fits P S x) rest e)
