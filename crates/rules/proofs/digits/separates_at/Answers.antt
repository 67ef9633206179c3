-- `rules::digits::separates_at`: not where there is no coefficient, or p is reached; else as all stand out.
use Rattle.std.proofs.Common.{rules, ◌≡◌, ◌<◌, ap, sym, ◌∙◌, arith}
use borrow.Author.Tests.{le-ltb}
use Rattle.field.specs.Inverse as field
use Rattle.rules.specs.Rows.{coef_on, entry_at, nothing}
use Rattle.rules.specs.Added.{digits_of}
use Rattle.rules.proofs.AddedLaws as added
use Rattle.rules.proofs.RowDigits as laws
use Rattle.rules.proofs.digits.separates_at.Goals as goal
use Rattle.rules.proofs.digits.separates_at.Goals.{then-p-eq0-via-then-p-eq0, then-p-eq0-via-else-p-eq0+then-coef-eq0}

pub returns-then-added-from : goal.returns-then-added-from
unfolding coef_on entry_at nothing
returns-then-added-from c D h =
    let is : c.map_or-coef.result ≡ coef_on c.args.row.now c.args.i = search rules in
    let short : c.add_up-added.result.total < c.args.p = omega arith in
    let few : c.gathered.result.now ≡ digits_of c.args.p c.args.bounds.now c.args.marks.now c.args.row.now =
    added.gathered_is D.gathered c.gathered.ensures in
    laws.tells_by _ _ _ _ _ h _ is c.if-coef-eq0.false _
    (λ n K r P L coef er.
    c.stand_out.ensures _ _ _ _ P L D.differ
    (rw (few, added.digits_again c.args.p c.args.bounds.now c.args.marks.now c.args.row.now) at (c.add_up-added.ensures.held short))
    (omega (
      arith,
      short,
      added.adds_below _ _ _ c.add_up-added.ensures.taken short,
      added.gathered_sum c.args.p c.args.bounds.now c.args.marks.now c.inverse-scale.result c.args.row.now c.gathered.result.now few,
    ))
    (c.inverse-scale.ensures.algorithm ∙ ap (field.inverse _) coef) er)

pub returns-else-added-from : goal.returns-else-added-from
unfolding coef_on entry_at nothing
returns-else-added-from c D h =
    let is : c.map_or-coef.result ≡ coef_on c.args.row.now c.args.i = search rules in
    let few : c.gathered.result.now ≡ digits_of c.args.p c.args.bounds.now c.args.marks.now c.args.row.now =
    added.gathered_is D.gathered c.gathered.ensures in
    laws.tells_by _ _ _ _ _ h _ is c.if-coef-eq0.false _
    (λ n K r P L coef er.
    le-ltb _ _ c.if-added-from.false
    ∙ sym (laws.fails_total L P _ _ _ er _ (c.inverse-scale.ensures.algorithm ∙ ap (field.inverse _) coef)
    (omega (
      arith,
      added.adds_over _ _ _ c.add_up-added.ensures.taken (omega arith),
      added.gathered_sum c.args.p c.args.bounds.now c.args.marks.now c.inverse-scale.result c.args.row.now c.gathered.result.now few,
    ))))

pub stand_out-requires : goal.stand_out-requires
stand_out-requires c =
    (omega arith, added.kept_total _ _ _ _ _ _ c.add_up-added.ensures.taken _ c.add_up-added.ensures.held (omega arith))

pub returns-then-p-eq0 : goal.returns-then-p-eq0
unfolding coef_on entry_at nothing
returns-then-p-eq0 c D h n K P L =
    let is : c.map_or-coef.result ≡ coef_on c.args.row.now c.args.i = search rules in
    elim c.then-p-eq0.branch [
      | then-p-eq0-via-then-p-eq0 w ↦ absurd (omega (arith, P.above, w.if-p-eq0.true))
      | then-p-eq0-via-else-p-eq0+then-coef-eq0 w ↦ laws.tells_absent _ _ _ _ _ h _ is w.if-coef-eq0.true n K P L
    ]
