-- `rules::added::add_up`: the fewest numbers that reach p, or all, are taken; what is kept is the digits'.
use Rattle.std.proofs.Common.{arith, rules, ◌≡◌, refl, sym, ◌∙◌}
use Rattle.rules.specs.View.{bound_in}
use Rattle.rules.specs.Rows.{entry_at, nothing}
use Rattle.rules.specs.Added.{weight_by}
use Rattle.rules.proofs.AddedLaws as laws
use Rattle.rules.proofs.RowDigits as rows
use Rattle.rules.proofs.added.add_up.Goals as goal
use Rattle.rules.proofs.added.add_up.Goals.{then-is_live+then-bound-ne0+else-from-total, then-digit_count-lt-DIGITS_MOST, else-digit_count-lt-DIGITS_MOST}
use Rattle.rules.proofs.added.add_up.Goals.{then-is_live+else-bound-ne0, else-is_live}

pub returns-then-from-total-clause-taken : goal.returns-then-from-total-clause-taken
unfolding entry_at nothing weight_by
returns-then-from-total-clause-taken c =
    laws.reached_adds _ _ _ _ _ _ c.loop-entry-test.true _ _ _ _ c.loop-entry.invariant.passed (sym c.is_live.ensures ∙ c.if-is_live.true)
    c.loop-entry.invariant.short (λ z. c.if-bound-ne0.true (c.bound_at-bound.ensures ∙ z)) _ _ c.weight_of-weight.ensures.0
    (laws.share_made _ _ _ _ _ _ _ c.weight_of-weight.ensures.0 c.bound_at-bound.ensures c.product-term.ensures.0) _ refl refl (omega arith)

pub returns-after-loop-entry-clause-taken : goal.returns-after-loop-entry-clause-taken
returns-after-loop-entry-clause-taken c = laws.passed_adds _ _ _ _ _ _ _ _ c.loop-entry.invariant.passed (omega arith)

pub returns-then-p-eq0-clause-taken : goal.returns-then-p-eq0-clause-taken
returns-then-p-eq0-clause-taken c = laws.none_adds _ _ _ _ _ _ refl refl c.if-p-eq0.true

pub returns-then-from-total-clause-form : goal.returns-then-from-total-clause-form
returns-then-from-total-clause-form c n K pos L = rw (rows.numbers_are L pos _ _ _) at (returns-then-from-total-clause-taken c)

pub returns-after-loop-entry-clause-form : goal.returns-after-loop-entry-clause-form
returns-after-loop-entry-clause-form c n K pos L = rw (rows.numbers_are L pos _ _ _) at (returns-after-loop-entry-clause-taken c)

pub returns-after-loop-entry-clause-held : goal.returns-after-loop-entry-clause-held
returns-after-loop-entry-clause-held c l = laws.passed_kept _ _ _ _ _ _ _ _ c.loop-entry.invariant.passed (omega arith) l

pub loop-entry-init : goal.loop-entry-init
loop-entry-init c =
    record { short = omega arith; taken_few = omega arith; digits_few = omega arith; passed = laws.passed_start _ _ _ _ _ _ (search rules) (search rules) }

pub overflow_add-taken : goal.overflow_add-taken
overflow_add-taken c = omega arith

pub overflow_add-total : goal.overflow_add-total
overflow_add-total c = omega arith

pub overflow_add-digit_count : goal.overflow_add-digit_count
overflow_add-digit_count c = omega arith

pub loop-entry-preserved : goal.loop-entry-preserved
unfolding entry_at nothing weight_by
loop-entry-preserved c =
    let before = c.loop-entry.invariant in
    elim c.if-is_live.branch [
      | then-is_live+then-bound-ne0+else-from-total w ↦
          let on = sym c.is_live.ensures ∙ w.if-is_live.true in
          let some : bound_in c.args.p c.args.bounds.now (entry_at c.args.row.now c.loop-entry.entry-index).signal ≡ 0 → ⊥ =
          λ z. w.if-bound-ne0.true (w.bound_at-bound.ensures ∙ z) in
          let term = laws.share_made c.args.p c.args.bounds.now c.args.scale (entry_at c.args.row.now c.loop-entry.entry-index) _ _ _
          w.weight_of-weight.ensures.0 w.bound_at-bound.ensures w.product-term.ensures.0 in
          elim w.if-digit_count-lt-DIGITS_MOST.branch [
            | then-digit_count-lt-DIGITS_MOST w' ↦
                rw (w.total-is, w.taken-is, w.digit_count-is, w.room-is, w'.room-is)
                record {
                  short = omega arith;
                  taken_few = omega arith;
                  digits_few = omega arith;
                  passed = laws.passed_digit _ _ _ _ _ _ c.loop-entry-test.true _ _ _ _ before.passed on before.short some _ _
                      w.weight_of-weight.ensures.0 term w'.if-digit_count-lt-DIGITS_MOST.true;
                }
            | else-digit_count-lt-DIGITS_MOST w' ↦
                rw (w.total-is, w.taken-is, w.digit_count-is, w.room-is, w'.room-is)
                record {
                  short = omega arith;
                  taken_few = omega arith;
                  digits_few = omega arith;
                  passed = laws.passed_full _ _ _ _ _ _ c.loop-entry-test.true _ _ _ _ before.passed on before.short some _ _
                      w.weight_of-weight.ensures.0 term (omega arith);
                }
          ]
      | then-is_live+else-bound-ne0 w ↦
          rw (w.total-is, w.taken-is, w.digit_count-is, w.room-is)
          record {
            short = before.short;
            taken_few = omega arith;
            digits_few = omega arith;
            passed = laws.passed_zero _ _ _ _ _ _ c.loop-entry-test.true _ _ _ _ before.passed (sym c.is_live.ensures ∙ w.if-is_live.true) before.short
                (sym w.bound_at-bound.ensures ∙ w.if-bound-ne0.false);
          }
      | else-is_live w ↦
          rw (w.total-is, w.taken-is, w.digit_count-is, w.room-is)
          record {
            short = before.short;
            taken_few = omega arith;
            digits_few = omega arith;
            passed = laws.passed_dead _ _ _ _ _ _ c.loop-entry-test.true _ _ _ _ before.passed (sym c.is_live.ensures ∙ w.if-is_live.false);
          }
    ]
