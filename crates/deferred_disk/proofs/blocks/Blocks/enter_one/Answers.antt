use Rattle.std.proofs.Common.{◌≡◌, ◌≤◌, ◌+◌, ◌*◌, length, ◌∙◌, ap, arith}
use Rattle.std.specs.Prelude.{nat_eq}
use Rattle.std.specs.HashMap.{get}
use Rattle.device.specs.Device.{written}
use Rattle.deferred_disk.specs.Deferred.{with_known}
use Rattle.deferred_disk.specs.inside.Blocks.{Known, Enters}
use Rattle.deferred_disk.proofs.Rooms.{length-all_rooms, whole_with_run, bytes_with_run, flags_with_run}
use Rattle.deferred_disk.proofs.blocks.Blocks.enter_one.Goals.{After-enter_room}
use Rattle.deferred_disk.proofs.blocks.Blocks.enter_one.Goals as goal

pub enter_room-requires-clause-fits : goal.enter_room-requires-clause-fits
enter_room-requires-clause-fits g c =
    omega (
      arith,
      c.requires.fits,
      length-all_rooms (get nat_eq c.self.inside.rooms) c.self.invariant.0 c.self.inside.count,
      ap (λ (k : Known). length k.bytes) c.self.view_is,
      c.self.invariant.1,
    )

-- it is a block of the disk
inside : (g : _) (c : After-enter_room g) → c.args.block + 1 ≤ c.self.inside.count
inside g c =
    omega (
      arith,
      c.requires.fits,
      length-all_rooms (get nat_eq c.self.inside.rooms) c.self.invariant.0 c.self.inside.count,
      ap (λ (k : Known). length k.bytes) c.self.view_is,
    )

-- what the blocks were, and what they are
entered : (g : _) (c : After-enter_room g)
    → Enters (get nat_eq c.self.inside.rooms) (get nat_eq c.enter_room.new.rooms) c.args.block 1 c.args.run.value.items
entered g c = record {
  inside = c.enter_room.ensures.inside;
  outside = λ block apart. c.enter_room.ensures.outside block apart ∙ c.reserve.ensures.entries.2 block;
}

pub invariant_of-self-2 : goal.invariant_of-self-2
invariant_of-self-2 g c = (
  whole_with_run (get nat_eq c.self.inside.rooms) (get nat_eq c.enter_room.new.rooms) c.args.block 1
      c.self.inside.count c.args.run.value.items (entered g c) c.self.invariant.0 c.requires.whole (inside g c),
  c.self.invariant.1,
)

pub returns-clause-bytes : goal.returns-clause-bytes
returns-clause-bytes g c =
    bytes_with_run (get nat_eq c.self.inside.rooms) (get nat_eq c.enter_room.new.rooms) c.args.block 1
    c.self.inside.count c.args.run.value.items (entered g c) c.self.invariant.0 c.requires.whole (inside g c)
    ∙ ap (λ (k : Known). written k.bytes (4096 * c.args.block) c.args.run.value.items) c.self.view_is

pub returns-clause-flags : goal.returns-clause-flags
returns-clause-flags g c =
    flags_with_run (get nat_eq c.self.inside.rooms) (get nat_eq c.enter_room.new.rooms) c.args.block 1
    c.self.inside.count c.args.run.value.items (entered g c) c.self.invariant.0 c.requires.whole (inside g c)
    ∙ ap (λ (k : Known). with_known k.flags c.args.block (c.args.block + 1)) c.self.view_is
