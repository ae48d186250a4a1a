use Rattle.std.proofs.Common.{◌+◌, rules}
use Rattle.mappings.proofs.Changes.{split_room, split_room_twice, IsSplit-split_at, IsOrdered-split_at}
use Rattle.mappings.proofs.list.split_ends.Goals as goal

pub split-requires-clause-room : goal.split-requires-clause-room
split-requires-clause-room g c =
    let list = c.args.list.now.items in
    let room = c.requires.room in
    let fits = split_room list c.args.range.first c.args.range.count c.requires.kept.ordered in
    search rules

pub split-requires-2-clause-ordered : goal.split-requires-2-clause-ordered
split-requires-2-clause-ordered g c = rw c.split.ensures.items
    (IsOrdered-split_at (c.args.range.first + c.args.range.count) 0 c.args.list.now.items c.requires.kept.ordered)

pub split-requires-2-clause-room : goal.split-requires-2-clause-room
split-requires-2-clause-room g c =
    let list = c.args.list.now.items in
    let room = c.requires.room in
    let fits = split_room_twice list c.args.range.first c.args.range.count c.requires.kept.ordered in
    rw c.split.ensures.items (search rules)

pub returns : goal.returns
returns g c = rw (c.split-2.ensures.items, c.split.ensures.items) (IsSplit-split_at c.args.list.now.items
    c.args.range.first c.args.range.count c.requires.kept.ordered c.requires.kept.merged)
