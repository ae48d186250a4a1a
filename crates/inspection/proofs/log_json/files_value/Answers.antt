use Rattle.std.proofs.Common.{rules, refl, ◌≡◌, ◌++◌, ◌∷◌, [], slice_index}
use Rattle.inspection.specs.LogJson.{log_file_data, log_files_data}
use Rattle.inspection.proofs.Writing.{counted_more}
use Rattle.inspection.proofs.log_json.files_value.Goals as goal

pub loop-file-preserved : goal.loop-file-preserved
loop-file-preserved g c =
    let v = c.args.table.now in
    let lengths = c.args.lengths.now in
    let file = c.loop-file.file in
    let value = c.in_ok-value.value in
    let pushed : c.push.new.self.items ≡ c.loop-file.files.items ++ value ∷ [] = search rules in
    counted_more (log_files_data v lengths) (log_file_data v file (slice_index lengths file)) c.loop-file.files.items
    c.push.new.self.items file value refl pushed c.in_ok-value.ensures c.loop-file.invariant
