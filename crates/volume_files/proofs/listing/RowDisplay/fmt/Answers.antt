use Rattle.std.proofs.Common.{rules, ◌<◌, length, get_or}
use Rattle.std.proofs.Output.{has_written_append, has_written_of_eq}
use Rattle.std.specs.Fmt.{HasWritten}
use Rattle.volume_files.specs.Dump.{offset_text}
use Rattle.volume_files.proofs.DumpRows.{written_byte, row_more}
use Rattle.volume_files.proofs.listing.RowDisplay.fmt.Goals as goal

pub loop-byte-preserved : goal.loop-byte-preserved
loop-byte-preserved g c = λ plain.
    let below : c.loop-byte.byte-index < length c.args.self.now.bytes.now = search rules in
    let small : get_or c.args.self.now.bytes.now c.loop-byte.byte-index 0 < 256 = search rules in
    let before = c.loop-byte.invariant plain in
    let still = before.plain in
    let wrote : HasWritten g.W.Write.write_str_gives c.loop-byte.f (written_byte
    (get_or c.args.self.now.bytes.now c.loop-byte.byte-index 0)) c.write-in-loop-byte.new.self = search rules in
    has_written_of_eq _ _ _ _ _
    (row_more (offset_text c.args.self.now.at) c.args.self.now.bytes.now c.loop-byte.byte-index below small)
    (has_written_append _ _ _ _ _ _ before wrote)
