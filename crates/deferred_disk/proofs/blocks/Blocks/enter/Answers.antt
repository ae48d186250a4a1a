use Rattle.std.proofs.Common.{◌≡◌, ◌≤◌, ◌+◌, ◌*◌, ◌/◌, length, ◌∙◌, ap, arith}
use Rattle.std.specs.Prelude.{nat_eq}
use Rattle.std.specs.HashMap.{get}
use Rattle.device.specs.Device.{written}
use Rattle.deferred_disk.specs.Deferred.{with_known}
use Rattle.deferred_disk.specs.inside.Blocks.{Known, flags_of, Enters}
use Rattle.deferred_disk.proofs.Rooms.{length-all_rooms, whole_with_run, bytes_with_run, flags_with_run}
use Rattle.deferred_disk.proofs.blocks.Blocks.enter.Goals.{After-enter_rooms}
use Rattle.deferred_disk.proofs.blocks.Blocks.enter.Goals as goal

pub enter_rooms-requires-clause-fits : goal.enter_rooms-requires-clause-fits
enter_rooms-requires-clause-fits g c =
    let blocks = c.self.inside in
    omega (
      arith,
      c.in_ok-shares.ensures.count,
      c.len-count.ensures,
      ap (λ v. length v.items) c.deref.ensures,
      c.requires.fits,
      length-all_rooms (get nat_eq blocks.rooms) c.self.invariant.0 blocks.count,
      ap (λ (k : Known). length k.bytes) c.self.view_is,
      c.self.invariant.1,
    )

-- how many blocks the run has
counted : (g : _) (c : After-enter_rooms g)
    → length c.in_ok-shares.shares.items ≡ length c.args.run.now.value.items / 4096
counted g c =
    omega (arith, c.in_ok-shares.ensures.count, c.len-count.ensures, ap (λ v. length v.items) c.deref.ensures)

-- they are blocks of the disk
inside : (g : _) (c : After-enter_rooms g)
    → c.args.from + length c.in_ok-shares.shares.items ≤ c.self.inside.count
inside g c =
    let blocks = c.self.inside in
    omega (
      arith,
      counted g c,
      c.requires.whole,
      c.requires.fits,
      length-all_rooms (get nat_eq blocks.rooms) c.self.invariant.0 blocks.count,
      ap (λ (k : Known). length k.bytes) c.self.view_is,
    )

size : (g : _) (c : After-enter_rooms g)
    → length c.args.run.now.value.items ≡ 4096 * length c.in_ok-shares.shares.items
size g c = omega (arith, counted g c, c.requires.whole)

-- what the blocks were, and what they are
entered : (g : _) (c : After-enter_rooms g)
    → Enters (get nat_eq c.self.inside.rooms) (get nat_eq c.enter_rooms.new.rooms) c.args.from
    (length c.in_ok-shares.shares.items) c.args.run.now.value.items
entered g c = record {
  inside = c.enter_rooms.ensures.inside;
  outside = λ block apart. c.enter_rooms.ensures.outside block apart ∙ c.reserve.ensures.entries.2 block;
}

pub invariant_of-self-2 : goal.invariant_of-self-2
invariant_of-self-2 g c = (
  whole_with_run (get nat_eq c.self.inside.rooms) (get nat_eq c.enter_rooms.new.rooms) c.args.from
      (length c.in_ok-shares.shares.items) c.self.inside.count c.args.run.now.value.items (entered g c)
      c.self.invariant.0 (size g c) (inside g c),
  c.self.invariant.1,
)

pub returns-clause-bytes : goal.returns-clause-bytes
returns-clause-bytes g c =
    bytes_with_run (get nat_eq c.self.inside.rooms) (get nat_eq c.enter_rooms.new.rooms) c.args.from
    (length c.in_ok-shares.shares.items) c.self.inside.count c.args.run.now.value.items (entered g c)
    c.self.invariant.0 (size g c) (inside g c)
    ∙ ap (λ (k : Known). written k.bytes (4096 * c.args.from) c.args.run.now.value.items) c.self.view_is

pub returns-clause-flags : goal.returns-clause-flags
returns-clause-flags g c =
    flags_with_run (get nat_eq c.self.inside.rooms) (get nat_eq c.enter_rooms.new.rooms) c.args.from
    (length c.in_ok-shares.shares.items) c.self.inside.count c.args.run.now.value.items (entered g c)
    c.self.invariant.0 (size g c) (inside g c)
    ∙ ap (λ n. with_known (flags_of (get nat_eq c.self.inside.rooms) c.self.inside.count) c.args.from (c.args.from + n))
    (counted g c)
    ∙ ap (λ (k : Known). with_known k.flags c.args.from (c.args.from + length c.args.run.now.value.items / 4096))
    c.self.view_is
