use Rattle.std.proofs.Common.{ap}
use Rattle.page_table.specs.Table.{TableState}
use Rattle.spaces.proofs.Rooms.{room_unmapped}
use Rattle.spaces.proofs.space.Space.unmap.Goals as goal

pub invariant_of-self : goal.invariant_of-self
invariant_of-self g c =
    room_unmapped c.self.inside.table c.clear.new.self c.self.inside.mappings c.remove.new.self c.self.invariant
    (ap (λ (t : TableState). t.grown) c.clear.ensures) c.args.range.first c.args.range.count c.in-Ok.ensures.removed
