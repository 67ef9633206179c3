-- `rules::digits::Digits::gather`: the digits passed are gathered.
use Rattle.std.proofs.Common.{refl, arith, length-set}
use Rattle.rules.specs.Rows.{entry_at, nothing}
use Rattle.rules.proofs.AddedLaws as added
use Rattle.rules.proofs.digits.Digits.gather.Goals as goal
use Rattle.rules.proofs.digits.Digits.gather.Goals.{then-live_bound-ne0+else-count-eq-DIGITS_MOST, else-live_bound-ne0}

pub returns : goal.returns
returns c = added.gathered_whole _ _ _ _ _ _ (omega arith) c.loop-entry.invariant.gathered

pub returns-then-count-eq-DIGITS_MOST : goal.returns-then-count-eq-DIGITS_MOST
unfolding entry_at nothing
returns-then-count-eq-DIGITS_MOST c =
    let before = c.loop-entry.invariant in
    added.gathered_many _ _ _ _ _ c.loop-entry-test.true _ before.gathered _ c.live_bound.ensures c.if-live_bound-ne0.true before.wide
    c.if-count-eq-DIGITS_MOST.true

pub loop-entry-init : goal.loop-entry-init
loop-entry-init c = record { wide = refl; gathered = added.gathered_start _ _ _ c.args.self.row.now _ }

pub loop-entry-preserved : goal.loop-entry-preserved
unfolding entry_at nothing
loop-entry-preserved c =
    let before = c.loop-entry.invariant in
    elim c.if-live_bound-ne0.branch [
      | then-live_bound-ne0+else-count-eq-DIGITS_MOST w ↦
          rw (w.entries-is, w.count-is)
          record {
            wide = simp length-set before.wide;
            gathered = added.gathered_on _ _ _ _ _ c.loop-entry-test.true _ before.gathered _ c.live_bound.ensures w.if-live_bound-ne0.true before.wide
                (omega (arith, before.gathered.room));
          }
      | else-live_bound-ne0 w ↦
          rw (w.entries-is, w.count-is)
          record {
            wide = before.wide;
            gathered = added.gathered_skip _ _ _ _ _ c.loop-entry-test.true _ before.gathered _ c.live_bound.ensures w.if-live_bound-ne0.false;
          }
    ]
