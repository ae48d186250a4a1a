use Rattle.std.proofs.Common.{◌<◌, length, arith}
use Rattle.volume_reading.proofs.ChainBlocks.{used_more, used_within}
use Rattle.volume_reading.proofs.used.blocks_in.Goals as goal

pub overflow_add-used-in-loop-i : goal.overflow_add-used-in-loop-i
overflow_add-used-in-loop-i g c =
    let found = c.args.found.now in
    let low : c.loop-i.i < length found.commits.items = omega (arith, c.loop-i-test.true, c.len-i-end.ensures) in
    let within = used_within c.args.log.now found.start.position found.commits.items c.index-commit.result.now
    c.loop-i.i c.requires.found.placed low c.index-commit.ensures in
    omega (
      arith,
      within,
      c.loop-i.invariant,
      c.from.ensures,
      c.len.ensures,
      c.requires.found.room,
      c.ring-ring.ensures.log.few_ring,
    )

pub loop-i-preserved : goal.loop-i-preserved
loop-i-preserved g c =
    let found = c.args.found.now in
    let low : c.loop-i.i < length found.commits.items = omega (arith, c.loop-i-test.true, c.len-i-end.ensures) in
    let more = used_more c.args.log.now found.start.position found.commits.items c.index-commit.result.now
    c.loop-i.i c.requires.found.placed low c.index-commit.ensures in
    omega (arith, more, c.loop-i.invariant, c.from.ensures, c.len.ensures)
