-- `derivation::kinds::kind_of`: each number by the table.
use Rattle.std.proofs.Common.{rules, ◌≡◌, ◌∙◌, refl, ℕ, Bool, List, [], ◌∷◌, find, nat_eq, None, Some, Option}
use Rattle.std.specs.Option.{option_map}
use Rattle.std.proofs.lemmas.Iterator.Search.{find_from_yields_List}
use Rattle.std.proofs.lemmas.Iterator.{YieldsList-from_slice}
use Rattle.std.proofs.lemmas.Iterator.Consumers.{YieldsList-from_copied}
use borrow.Author.Tests.{tests}
use Rattle.rules.specs.declared.standing.Kind.{Kind}
use Rattle.rules.specs.declared.standing.Kind.TheVariants.{Root, Sum, Zero, Product, Digits, Nonzero, Quotient}
use Rattle.rules.specs.Promise as promise
use Rattle.laws.specs.Step.{kind_number}
use Rattle.derivation.specs.Steps.{kind_of, numbered}
use Rattle.derivation.proofs.kinds.kind_of.Goals as goal

-- the copies that the search is handed are the kinds themselves
copied_same : (r : Option Kind) → r ≡ option_map (λ (k : Kind). k) r
copied_same None = refl
copied_same (Some k) = refl

-- the list that it goes through
table : List Kind
table = Root ∷ Sum ∷ Zero ∷ Product ∷ Digits ∷ Nonzero ∷ Quotient ∷ []

-- the test that it asks
has_number : ℕ → Kind → Bool
has_number x k = nat_eq x (kind_number (promise.kind_of k))

pub returns : goal.returns
unfolding kind_of numbered table has_number
returns c =
    let e : c.find.result ≡ find (has_number c.args.number) table =
    copied_same c.find.result
    ∙ find_from_yields_List (has_number c.args.number) _ _ c.find.result c.find.ensures.ran
    (YieldsList-from_copied (YieldsList-from_slice table cc)) (λ x b q k. search (rules, tests)) in
    rw e (search rules)
