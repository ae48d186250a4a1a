use Rattle.std.proofs.Common.{◌<◌, ◌∙◌, length, sym, ap, arith}
use Rattle.log_codec.specs.Chain.{logged_or, records_position}
use Rattle.log_recovery.specs.Reading.{logged_of}
use Rattle.log_opening.proofs.Public.{placed_at}
use Rattle.volume_reading.proofs.Newest.{newest_more}
use Rattle.volume_reading.proofs.log_pages.newest_block.Goals as goal

pub record_or-block-requires-clause-logged : goal.record_or-block-requires-clause-logged
record_or-block-requires-clause-logged g c =
    let found = c.args.found.now in
    (placed_at c.args.log.now found.start.position found.commits.items c.index.result.now c.loop-i.i
    c.requires.found.placed (omega (arith, c.loop-i-test.true, c.len-i-end.ensures)) c.index.ensures).2

pub record_or-block-requires-clause-head : goal.record_or-block-requires-clause-head
record_or-block-requires-clause-head g c =
    let found = c.args.found.now in
    (placed_at c.args.log.now found.start.position found.commits.items c.index.result.now c.loop-i.i
    c.requires.found.placed (omega (arith, c.loop-i-test.true, c.len-i-end.ensures)) c.index.ensures).1

pub loop-i-preserved : goal.loop-i-preserved
loop-i-preserved g c =
    let log = c.args.log.now in
    let found = c.args.found.now in
    let commit = c.index.result.now in
    let low : c.loop-i.i < length found.commits.items = omega (arith, c.loop-i-test.true, c.len-i-end.ensures) in
    record {
      value = c.record_or-block.ensures.value
          ∙ ap (λ b. logged_or log.ring b (records_position commit.position (logged_of commit)) commit.homes.items
          c.args.home) c.loop-i.invariant.value
          ∙ sym (newest_more log found.start.position found.commits.items commit c.loop-i.i c.args.home
          c.requires.found.placed low c.index.ensures);
      within = c.record_or-block.ensures.within;
    }
