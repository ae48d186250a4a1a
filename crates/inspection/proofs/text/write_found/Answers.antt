use Rattle.std.proofs.Common.{rules, ◌++◌, length}
use Rattle.std.specs.Io.KnownBytes.{Appends}
use Rattle.inspection.specs.Text.{volume_line, file_lines, journal_lines, calls_line}
use Rattle.volume_reading.proofs.Public.{appends_both}
use Rattle.inspection.proofs.Writing.{appends_all}
use Rattle.inspection.proofs.text.write_found.Goals as goal

pub returns : goal.returns
returns g c =
    let contents = g.W.Write.contents in
    let found = c.args.found.now in
    let a = volume_line found.table in
    let b = file_lines found.table found.lengths.items (length found.table.files) in
    let d = journal_lines found.table found.journals.items in
    let files : Appends (contents c.write_volume.new.out) (contents c.write_files.new.out) b = search rules in
    let journals : Appends (contents c.write_files.new.out) (contents c.write_journals.new.out) d = search rules in
    appends_all _ _ _ _ (a ++ b) d (calls_line found.calls) c.write_calls.result
    (appends_both (contents c.args.out.now) _ _ a b c.in_ok-write_volume.ensures files) journals c.write_calls.ensures
