-- `runs::levels::start`: the partition point of the test "below this level".
use Rattle.std.proofs.Common.{rules, nat_lt}
use Rattle.std.proofs.lemmas.List.Sorted.{IsPartitionPoint-from_clause, IsPartitionedBy-ltb}
use Rattle.runs.specs.declared.levels.Leveled.{Leveled}
use Rattle.runs.proofs.LevelLaws as laws
use Rattle.runs.proofs.levels.start.Goals as goal

pub returns : goal.returns
returns c =
    let order = c.args.order.now in
    let level = c.args.level in
    let sorted = IsPartitionedBy-ltb (λ (x : Leveled). x.level) order level c.requires in
    record {
      inside = c.partition_point.ensures.bound;
      parted =
          laws.parted_by order level _
          (IsPartitionPoint-from_clause (λ (x : Leveled). nat_lt x.level level) order _ c.partition_point.ensures.partitioned sorted (λ a r q h. search rules));
    }
