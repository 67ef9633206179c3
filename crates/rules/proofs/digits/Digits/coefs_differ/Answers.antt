-- `rules::digits::Digits::coefs_differ`: the coefficients of the unmarked entries passed differ, and the range holds them.
use Rattle.std.proofs.Common.{refl, sym, ◌∙◌, arith}
use Rattle.laws.proofs.Sum.{true_or_false}
use Rattle.rules.specs.Rows.{coef_on, entry_at, nothing}
use Rattle.rules.specs.Live.{live_on}
use Rattle.rules.proofs.WeightLaws as laws
use Rattle.rules.proofs.digits.Digits.coefs_differ.Goals as goal
use Rattle.rules.proofs.digits.Digits.coefs_differ.Goals.{then-is_live+else-is_taken, else-is_live}

pub loop-i-init : goal.loop-i-init
loop-i-init c = record { differ = laws.differ_start _ _; between = laws.between_start _ _ _ _ }

pub is_taken-requires : goal.is_taken-requires
is_taken-requires c = laws.before_between _ _ _ (omega arith) _ _ c.loop-i.invariant.between

pub returns-then-is_taken : goal.returns-then-is_taken
unfolding coef_on live_on entry_at nothing
returns-then-is_taken c = (
  λ e. true_or_false _ e refl,
  λ e. laws.differ_clash _ _ _ _ _ c.loop-i-test.true refl (sym c.is_live.ensures ∙ c.if-is_live.true)
      (laws.before_like _ _ _ (omega arith) _ (sym c.is_taken.ensures ∙ c.if-is_taken.true)),
)

pub loop-i-preserved : goal.loop-i-preserved
unfolding coef_on live_on entry_at nothing
loop-i-preserved c =
    let before = c.loop-i.invariant in
    elim c.if-is_live.branch [
      | then-is_live+else-is_taken w ↦
          rw (w.least-is, w.most-is)
          record {
            differ = laws.differ_on _ _ _ before.differ _ refl
                (laws.before_unlike _ _ _ (omega arith) _ (sym w.is_taken.ensures ∙ w.if-is_taken.false));
            between = laws.between_on _ _ _ _ _ before.between _ _ _ refl w.min-least.ensures w.max-most.ensures;
          }
      | else-is_live w ↦
          let dead = sym c.is_live.ensures ∙ w.if-is_live.false in
          rw (w.least-is, w.most-is)
          record { differ = laws.differ_skip _ _ _ before.differ dead; between = laws.between_skip _ _ _ _ _ before.between dead }
    ]

pub returns : goal.returns
returns c = (λ e. record { alone = λ s l. c.loop-i.invariant.differ.alone s (omega arith) }, λ e. true_or_false _ refl e)
