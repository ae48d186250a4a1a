use Rattle.spaces.proofs.Rooms.{room_of_same, room_mapped}
use Rattle.spaces.proofs.space.Space.map.Goals as goal

-- room was made for the mapping, and then for its entries
pub invariant_of-self-2 : goal.invariant_of-self-2
invariant_of-self-2 g c =
    let room = room_of_same c.self.inside.table c.self.inside.mappings c.reserve_one.new.self c.self.invariant
    c.reserve_one.ensures.places in
    room_mapped c.args.range.first c.args.range.count c.args.place c.self.inside.table c.grow.new.self
    c.reserve_one.new.self c.add.new.self room c.in_ok-grow.ensures.ok c.in-Ok.ensures.added
