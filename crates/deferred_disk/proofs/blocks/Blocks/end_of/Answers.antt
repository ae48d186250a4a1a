use Rattle.std.proofs.Common.{length, ap, arith}
use Rattle.std.specs.Prelude.{nat_eq}
use Rattle.std.specs.HashMap.{get}
use Rattle.deferred_disk.specs.inside.Blocks.{Known}
use Rattle.deferred_disk.proofs.Rooms.{length-all_rooms}
use Rattle.deferred_disk.proofs.blocks.Blocks.end_of.Goals as goal

pub overflow_add-result : goal.overflow_add-result
overflow_add-result g c =
    let blocks = c.self.inside in
    omega (
      arith,
      c.requires,
      c.self.invariant.1,
      length-all_rooms (get nat_eq blocks.rooms) c.self.invariant.0 blocks.count,
      ap (λ (k : Known). length k.bytes) c.self.view_is,
    )
