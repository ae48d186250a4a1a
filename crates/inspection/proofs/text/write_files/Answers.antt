use Rattle.std.proofs.Common.{refl, slice_index}
use Rattle.inspection.specs.Text.{file_line, file_lines}
use Rattle.inspection.proofs.Writing.{line_more}
use Rattle.inspection.proofs.text.write_files.Goals as goal

pub loop-file-preserved : goal.loop-file-preserved
loop-file-preserved g c =
    let lengths = c.args.lengths.now in
    let file = c.loop-file.file in
    line_more (file_lines c.args.table.now lengths) (file_line c.args.table.now file (slice_index lengths file)) _ _ _
    file refl c.loop-file.invariant c.in_ok-write_file.ensures
