use Rattle.std.proofs.Common.{refl, slice_index}
use Rattle.inspection.specs.LogText.{log_file_line, log_file_lines}
use Rattle.inspection.proofs.Writing.{line_more}
use Rattle.inspection.proofs.log_text.write_log_files.Goals as goal

pub loop-file-preserved : goal.loop-file-preserved
loop-file-preserved g c =
    let v = c.args.table.now in
    let lengths = c.args.lengths.now in
    let file = c.loop-file.file in
    line_more (log_file_lines v lengths) (log_file_line v file (slice_index lengths file)) _ _ _ file refl
    c.loop-file.invariant c.in_ok-write_log_file.ensures
