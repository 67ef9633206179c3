-- `derivation::marks::all_marked`: all of a range of outputs.
use Rattle.std.proofs.Common.{rules, arith, refl, ◌+◌, ◌∙◌, ℕ}
use Rattle.std.proofs.lemmas.Iterator.{YieldsList-from_range}
use Rattle.std.proofs.lemmas.Iterator.Search.{all_from_yields_List}
use Rattle.rules.specs.View.{mark_in}
use Rattle.derivation.proofs.MarkLaws.{outputs_marked}
use Rattle.derivation.proofs.marks.all_marked.Goals as goal

pub returns : goal.returns
returns c =
    all_from_yields_List (λ (j : ℕ). mark_in c.args.marks.now (c.args.i + j + 1)) _ _ c.all.result c.all.ensures.ran
    (YieldsList-from_range 0 c.args.o c.args.o refl (omega arith)) (λ x b q k. search rules)
    ∙ outputs_marked _ _ _
