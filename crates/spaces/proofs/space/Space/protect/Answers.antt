use Rattle.std.proofs.Common.{ap, refl}
use Rattle.page_table.specs.Table.{TableState}
use Rattle.spaces.proofs.Rooms.{room_protected}
use Rattle.spaces.proofs.space.Space.protect.Goals as goal

pub invariant_of-self : goal.invariant_of-self
invariant_of-self g c =
    room_protected c.self.inside.table c.make_read_only.new.self c.self.inside.mappings c.protect.new.self
    c.self.invariant (ap (λ (t : TableState). t.grown) c.make_read_only.ensures) c.args.range.first c.args.range.count
    c.args.rights c.in-Ok.ensures.protected

pub invariant_of-self-else-not-may_write : goal.invariant_of-self-else-not-may_write
invariant_of-self-else-not-may_write g c =
    room_protected c.self.inside.table c.self.inside.table c.self.inside.mappings c.protect.new.self c.self.invariant
    refl c.args.range.first c.args.range.count c.args.rights c.in-Ok.ensures.protected
