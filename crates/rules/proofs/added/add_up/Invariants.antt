-- `rules::added::add_up`: the entries passed have been added up, and p isn't reached.
use Rattle.std.proofs.Common.{◌<◌, ◌≤◌}
use Rattle.rules.proofs.AddedLaws.{Passed}
use Rattle.rules.proofs.added.add_up.Given as goal

abbrev pub invariant-loop-entry : goal.invariant-loop-entry
invariant-loop-entry l = record {
  short : l.total < l.p;
  taken_few : l.taken ≤ l.entry-index;
  digits_few : l.digit_count ≤ l.entry-index;
  passed : Passed l.p l.bounds l.marks l.scale l.row l.entry-index l.total l.taken l.digit_count l.room;
}
