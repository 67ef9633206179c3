-- `derivation::marks::write_marks`: none are written at the start, and then one more each time.
use Rattle.std.proofs.Common.{rules}
use Rattle.rules.specs.View.{mark_in}
use Rattle.derivation.proofs.MarkLaws as laws
use Rattle.derivation.proofs.marks.write_marks.Goals as goal

pub loop-s-init : goal.loop-s-init
loop-s-init c = laws.none_written _ _

pub loop-s-preserved : goal.loop-s-preserved
unfolding mark_in
loop-s-preserved c = laws.marks_stored _ _ _ _ (search rules) c.loop-s.invariant _ (search rules)
