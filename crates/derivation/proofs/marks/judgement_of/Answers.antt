-- `derivation::marks::judgement_of`: the count, the verdict and what is shown, each by its clause.
use Rattle.std.proofs.Common.{rules, arith, ◌≡◌, length}
use Rattle.circuit.proofs.Sized.{call_sized}
use Rattle.tags.proofs.SheetLaws.{sheet_fitting}
use Rattle.rules.specs.View.{view_of}
use Rattle.derivation.proofs.CallLaws.{few_signals}
use Rattle.derivation.proofs.marks.judgement_of.Goals as goal

pub returns : goal.returns
unfolding view_of
returns c =
    let t = c.args.tagged.now in
    let long : length c.args.last.now.bounds ≡ 257 = search rules in
    rw (c.count_marks.ensures, c.verdict_of.ensures, c.shown_of.ensures.fitting (sheet_fitting t.file.sizes t.sheet.now _ t.fits) (omega (arith, few_signals _ _ (call_sized c.args.tagged.now.file.read))))
