-- `rules::digits::Digits::coefs_differ`: the coefficients of the unmarked entries passed differ, and the range holds them.
use Rattle.rules.specs.Rows.{coef_on}
use Rattle.rules.specs.Live.{live_on, Differ, Between}
use Rattle.rules.proofs.digits.Digits.coefs_differ.Given as goal

abbrev pub invariant-loop-i : goal.invariant-loop-i
invariant-loop-i l = record {
  differ : Differ (coef_on l.self.row.now) (live_on l.self.marks.now l.self.row.now) l.i;
  between : Between (coef_on l.self.row.now) (live_on l.self.marks.now l.self.row.now) l.i l.least l.most;
}
