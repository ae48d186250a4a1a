use Rattle.std.proofs.Common.{leb, rules}
use Rattle.std.proofs.lemmas.List.Sorted.{IsPartitionPoint-from_clause, IsPartitionedBy-leb}
use Rattle.mappings.proofs.Lists.{ends_rise, IsFirstAfter-from_partition}
use Rattle.mappings.proofs.list.first_after.Goals as goal

-- the ends of the mappings rise, so those up to the page come first
pub returns : goal.returns
returns c =
    let list = c.args.list.now in
    let page = c.args.page in
    IsFirstAfter-from_partition list page _ c.partition_point.ensures.bound
    (IsPartitionPoint-from_clause (λ m. leb m.end page) list _ c.partition_point.ensures.partitioned
    (IsPartitionedBy-leb (λ m. m.end) list page (ends_rise 0 list c.requires)) (λ a r f called. search rules))
