-- `rules::digits::Digits::gather`: the digits passed are gathered.
use Rattle.std.proofs.Common.{◌≡◌, length, take}
use Rattle.rules.specs.Added.{digits_of}
use Rattle.rules.specs.Weights.{Gathered}
use Rattle.rules.proofs.digits.Digits.gather.Given as goal

abbrev pub invariant-loop-entry : goal.invariant-loop-entry
invariant-loop-entry l = record {
  wide : length l.entries ≡ 31;
  gathered : Gathered (digits_of l.self.p l.self.bounds.now l.self.marks.now (take l.entry-index l.self.row.now))
      (record { entries = l.entries; count = l.count });
}
