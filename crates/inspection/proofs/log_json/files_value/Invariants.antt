use Rattle.std.proofs.Common.{◌≡◌, map}
use Rattle.serde_json.specs.View.{view}
use Rattle.inspection.specs.LogJson.{log_files_data}
use Rattle.inspection.proofs.log_json.files_value.Given as goal

abbrev pub invariant-loop-file : goal.invariant-loop-file
invariant-loop-file g l = map view l.files.items ≡ log_files_data l.table l.lengths l.file
