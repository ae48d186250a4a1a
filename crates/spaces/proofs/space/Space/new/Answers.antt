use Rattle.spaces.proofs.Rooms.{room_of_none}
use Rattle.spaces.proofs.space.Space.new.Goals as goal

pub invariant_of-result : goal.invariant_of-result
invariant_of-result g c = room_of_none c.in_ok-table.table c.new-mappings.result c.new-mappings.ensures
