use Rattle.std.proofs.Common.{◌+◌, refl, arith}
use Rattle.volume_codec.proofs.Rows.{rows_of-more, rows_more, homes_more, total_pages-more, total_pages-part}
use Rattle.volume_codec.proofs.super_block.table.Goals as goal

pub overflow_cast-home : goal.overflow_cast-home
overflow_cast-home g c =
    let i = c.loop-file.file-index in
    let more = total_pages-more c.args.files.now i _ _ (omega arith) c.pages_of.ensures.value in
    omega (arith, more, total_pages-part c.args.files.now (i + 1), c.requires.few)

pub overflow_add-home : goal.overflow_add-home
overflow_add-home g c =
    let i = c.loop-file.file-index in
    let more = total_pages-more c.args.files.now i _ _ (omega arith) c.pages_of.ensures.value in
    omega (arith, more, total_pages-part c.args.files.now (i + 1), c.requires.few, c.loop-file.invariant.next)

pub loop-file-preserved : goal.loop-file-preserved
loop-file-preserved g c =
    let i = c.loop-file.file-index in
    let named = c.in_ok-from_str.ensures.ok in
    let last = rows_of-more c.loop-file.table c.in_ok-from_str.field-0 _ _ c.args.files.now i _
    (omega arith) c.requires.distinct c.loop-file.invariant.rows named c.in_ok-insert.ensures.entries in
    record {
      rows = rows_more _ _ _ _ c.args.files.now i _ (omega arith) last c.loop-file.invariant.rows named refl;
      homes = homes_more _ _ _ _ c.args.files.now i _ _
          (omega arith) last c.loop-file.invariant.homes named c.loop-file.invariant.next;
      next = omega (
        arith,
        total_pages-more c.args.files.now i _ _ (omega arith) c.pages_of.ensures.value,
        c.loop-file.invariant.next,
      );
    }
