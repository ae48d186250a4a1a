use Rattle.std.proofs.Common.{◌≤◌, ◌+◌, ◌*◌, length, sym, ◌∙◌, ap, arith}
use Rattle.std.specs.Prelude.{nat_eq, slice_range}
use Rattle.std.specs.HashMap.{get}
use Rattle.deferred_disk.specs.inside.Blocks.{Known}
use Rattle.deferred_disk.proofs.Deferring.{scan_on}
use Rattle.deferred_disk.proofs.Rooms.{length-all_rooms, copied_more, copied_all, length-copied}
use Rattle.deferred_disk.proofs.blocks.Blocks.read.Goals as goal

pub copy_part-requires-clause-start : goal.copy_part-requires-clause-start
copy_part-requires-clause-start g c =
    let blocks = c.self.inside in
    omega (
      arith,
      c.loop-block-test.true,
      c.div_ceil-block-end.ensures,
      c.end_of-end.ensures,
      c.requires,
      c.self.invariant.1,
      length-all_rooms (get nat_eq blocks.rooms) c.self.invariant.0 blocks.count,
      ap (λ (k : Known). length k.bytes) c.self.view_is,
    )

pub loop-block-preserved : goal.loop-block-preserved
loop-block-preserved g c =
    let blocks = c.self.inside in
    let bytes = c.args.self.now.bytes in
    let so_far = c.loop-block.invariant in
    let block = c.loop-block.block in
    let at = c.args.at in
    let long = ap (λ (k : Known). length k.bytes) c.self.view_is in
    let size = length-all_rooms (get nat_eq blocks.rooms) c.self.invariant.0 blocks.count in
    let fits : at + length c.loop-block.buffer ≤ length bytes = omega (arith, so_far.1, c.requires) in
    let inside : 4096 * block + 4096 ≤ length bytes =
    omega (arith, c.loop-block-test.true, c.div_ceil-block-end.ensures, c.end_of-end.ensures, c.requires, long, size) in
    let begins : 4096 * block ≤ at + length c.loop-block.buffer =
    omega (arith, so_far.1, c.loop-block-test.true, c.div_ceil-block-end.ensures, c.end_of-end.ensures) in
    let ends : at ≤ 4096 * block + 4096 = omega (arith, c.loop-block.auto.block) in (
      so_far.0 ∙ scan_on c.args.self.now.flags block c.div_ceil-block-end.result c.loop-block-test.true
          (sym c.in-Some.ensures.known),
      length-copied bytes c.in-Some.bytes.now c.loop-block.buffer _ at block fits c.in-Some.ensures.bytes inside
          begins ends c.copy_part.ensures ∙ so_far.1,
      copied_more bytes c.in-Some.bytes.now c.loop-block.buffer _ at block fits c.in-Some.ensures.bytes inside
          begins ends c.copy_part.ensures so_far.2,
    )

pub returns-clause-bytes : goal.returns-clause-bytes
returns-clause-bytes g c = λ none.
    let so_far = c.loop-block.invariant in
    let bytes = c.args.self.now.bytes in
    let at = c.args.at in
    copied_all bytes c.loop-block.buffer at (omega (arith, so_far.1, c.requires))
    (λ i lt. so_far.2 i lt (omega (
      arith,
      lt,
      so_far.1,
      c.loop-block-test.false,
      c.div_ceil-block-end.ensures,
      c.end_of-end.ensures,
    )))
    ∙ ap (λ n. slice_range bytes at (at + n)) so_far.1
