-- `rules::sums::Sums::highest`: the place with the highest bound is still to come, or found.
use Rattle.std.proofs.Common.{◌≢◌, sym, ◌∙◌, arith, get_or}
use Rattle.rules.specs.Rows.{entries, coef_on, bound_on, signal_on, entry_at, nothing}
use Rattle.rules.specs.Steps.{Target}
use Rattle.rules.proofs.SumLaws as laws
use Rattle.rules.proofs.sums.Sums.highest.Goals as goal
use Rattle.rules.proofs.sums.Sums.highest.Goals.{then-entry-ne0+then-top-bound, then-entry-ne0+else-top-bound+then-bound-top+else-largest-bound}
use Rattle.rules.proofs.sums.Sums.highest.Goals.{then-entry-ne0+else-top-bound+else-bound-top, else-entry-ne0}

pub loop-i-init : goal.loop-i-init
loop-i-init c = record { within = tt; seen = laws.seen_start }

-- the largest bound stands twice
pub returns-then-largest-bound-clause-found : goal.returns-then-largest-bound-clause-found
unfolding coef_on bound_on signal_on entry_at nothing
returns-then-largest-bound-clause-found c =
    let target : Target (coef_on c.args.self.row.now) (entries c.args.self.row.now) c.loop-i.i =
    record { least = omega arith; before = omega arith; present = c.if-entry-ne0.true } in
    laws.seen_full c.loop-i.invariant.seen target (sym c.bound-bound.ensures ∙ c.if-bound-top.true)
    (rw c.bound-bound.ensures at c.if-largest-bound.true)

pub loop-i-preserved : goal.loop-i-preserved
unfolding coef_on bound_on signal_on entry_at nothing
loop-i-preserved c =
    elim c.if-entry-ne0.branch [
      | then-entry-ne0+then-top-bound w ↦
          rw (w.found-is, w.top-is, w.bound-bound.ensures)
          record {
            within = c.loop-i-test.true;
            seen = laws.seen_new c.loop-i.invariant.seen (target w.if-entry-ne0.true) (rw w.bound-bound.ensures at w.if-top-bound.true);
          }
      | then-entry-ne0+else-top-bound+then-bound-top+else-largest-bound w ↦
          rw (w.found-is, w.top-is)
          record {
            within = tt;
            seen = laws.seen_tied c.loop-i.invariant.seen (target w.if-entry-ne0.true) (sym w.bound-bound.ensures ∙ w.if-bound-top.true);
          }
      | then-entry-ne0+else-top-bound+else-bound-top w ↦
          rw (w.found-is, w.top-is)
          record {
            within = c.loop-i.invariant.within;
            seen = laws.seen_same c.loop-i.invariant.seen (λ d. omega (arith, w.bound-bound.ensures));
          }
      | else-entry-ne0 w ↦
          rw (w.found-is, w.top-is)
          record {
            within = c.loop-i.invariant.within;
            seen = laws.seen_same c.loop-i.invariant.seen (λ d. absurd (d w.if-entry-ne0.false));
          }
    ]
  where
    target : (get_or c.args.self.row.now c.loop-i.i nothing).coefficient ≢ 0
        → Target (coef_on c.args.self.row.now) (entries c.args.self.row.now) c.loop-i.i
    target d = record { least = omega arith; before = omega arith; present = d }

pub returns-clause-found : goal.returns-clause-found
returns-clause-found c e H below = laws.seen_end c.loop-i.invariant.seen c.loop-i-test.false e H
