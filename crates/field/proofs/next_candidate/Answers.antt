-- Where the least product is above q, no place is left; else the first is found, or none.
use Rattle.field.proofs.Divisors.{next_above, next_found, next_none}
use Rattle.field.proofs.next_candidate.Goals as goal

pub returns-then-q-least_product : goal.returns-then-q-least_product
returns-then-q-least_product c = next_above c.requires.0 c.requires.1 _ c.least_product.ensures c.if-q-least_product.true

pub returns-in-Some : goal.returns-in-Some
returns-in-Some c = next_found c.requires.0 c.requires.1 _ c.in-Some.ensures

pub returns-in-None : goal.returns-in-None
returns-in-None c = next_none c.requires.0 c.requires.1 c.in-None.ensures
