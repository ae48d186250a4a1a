use Rattle.std.proofs.Common.{◌+◌, ltb, rules}
use Rattle.std.proofs.lemmas.List.Sorted.{IsPartitionPoint-from_clause, IsPartitionedBy-ltb}
use Rattle.mappings.proofs.Lists.{firsts_rise, IsMeeting-from_searches}
use Rattle.mappings.proofs.list.meeting.Goals as goal

-- the first pages of the mappings rise, too
pub returns : goal.returns
returns c =
    let list = c.args.list.now in
    let range = c.args.range in
    let end = range.first + range.count in
    IsMeeting-from_searches list range.first end _ _ _ c.first_after-from.ensures c.partition_point-to.ensures.bound
    (IsPartitionPoint-from_clause (λ m. ltb m.first end) list _ c.partition_point-to.ensures.partitioned
    (IsPartitionedBy-ltb (λ m. m.first) list end (firsts_rise 0 list c.requires)) (λ a r f called. search rules))
    c.max.ensures
