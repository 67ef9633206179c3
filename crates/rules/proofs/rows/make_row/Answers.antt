use Rattle.std.proofs.Common.{arith}
use Rattle.rules.specs.Rows.{at}
use Rattle.rules.proofs.MakingLaws as laws
use Rattle.rules.proofs.rows.make_row.Goals as goal
use Rattle.rules.proofs.rows.make_row.Goals.{then-ends-place-via-then-ends-place}
use Rattle.rules.proofs.rows.make_row.Goals.{then-ends-place-via-else-ends-place+then-sizes-gt-SIGNALS_MOST}
use Rattle.rules.proofs.rows.make_row.Goals.{then-ends-place-via-else-ends-place+else-sizes-gt-SIGNALS_MOST+then-k-gt-CONSTRAINTS_MOST}

-- what holds of a circuit rules out the early ways out, but that of a row made before
pub returns-then-ends-place : goal.returns-then-ends-place
returns-then-ends-place c Z O R l h A =
    elim c.then-ends-place.branch [
      | then-ends-place-via-then-ends-place w ↦ absurd (omega (arith, w.if-ends-place.true, R.ends_room))
      | then-ends-place-via-else-ends-place+then-sizes-gt-SIGNALS_MOST w ↦
          absurd (omega (arith, w.if-sizes-gt-SIGNALS_MOST.true, Z.is_n, Z.formed.n_most))
      | then-ends-place-via-else-ends-place+else-sizes-gt-SIGNALS_MOST+then-k-gt-CONSTRAINTS_MOST w ↦
          absurd (omega (arith, w.if-k-gt-CONSTRAINTS_MOST.true, Z.is_m, Z.formed.m_most))
    ]

pub returns-then-ends-place-ne0 : goal.returns-then-ends-place-ne0
unfolding at
returns-then-ends-place-ne0 c Z O R l h A = laws.made_before _ Z O R l h A c.if-ends-place-ne0.true

pub returns : goal.returns
unfolding at
returns c Z O R l h A =
    let put = c.put_row-end in
    laws.row_made _ Z O R l h A c.if-ends-place-ne0.false _ c.part_of-part.ensures _ c.start_of-start.ensures.0 _ _ put.auto.rows put.ensures.1
