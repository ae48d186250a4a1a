use Rattle.std.proofs.Common.{◌≡◌, map}
use Rattle.serde_json.specs.View.{view}
use Rattle.inspection.specs.Json.{files_data}
use Rattle.inspection.proofs.json.files_value.Given as goal

abbrev pub invariant-loop-file : goal.invariant-loop-file
invariant-loop-file g l = map view l.files.items ≡ files_data l.making.table.now l.lengths l.file
