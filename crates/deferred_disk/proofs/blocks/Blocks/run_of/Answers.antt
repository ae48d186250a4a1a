use Rattle.std.proofs.Common.{ℕ, ◌*◌, List, ◌++◌, length, ◌∙◌, ap, arith}
use Rattle.std.specs.Prelude.{nat_eq, slice_range}
use Rattle.std.specs.HashMap.{get}
use Rattle.deferred_disk.specs.inside.Blocks.{Known}
use Rattle.deferred_disk.proofs.Rooms.{length-flags_of, length-all_rooms, part_more}
use Rattle.deferred_disk.proofs.blocks.Blocks.run_of.Goals as goal

pub overflow_mul-to : goal.overflow_mul-to
overflow_mul-to g c =
    let blocks = c.self.inside in
    omega (
      arith,
      c.requires.to,
      c.self.invariant.1,
      length-flags_of (get nat_eq blocks.rooms) blocks.count,
      ap (λ (k : Known). length k.flags) c.self.view_is,
    )

pub loop-block-preserved : goal.loop-block-preserved
loop-block-preserved g c =
    let blocks = c.self.inside in
    let bytes = c.args.self.now.bytes in
    let block = c.loop-block.block in
    let first = slice_range bytes (4096 * c.args.from) (4096 * block) in
    c.in_ok-extend_from_slice.ensures.items
    ∙ ap (λ (l : List ℕ). l ++ c.room_or_blank.result.now) c.loop-block.invariant
    ∙ ap (λ (l : List ℕ). first ++ l) c.room_or_blank.ensures
    ∙ part_more bytes c.args.from block c.loop-block.auto.block (omega (
      arith,
      c.loop-block-test.true,
      c.requires.to,
      length-flags_of (get nat_eq blocks.rooms) blocks.count,
      length-all_rooms (get nat_eq blocks.rooms) c.self.invariant.0 blocks.count,
      ap (λ (k : Known). length k.flags) c.self.view_is,
      ap (λ (k : Known). length k.bytes) c.self.view_is,
    ))
