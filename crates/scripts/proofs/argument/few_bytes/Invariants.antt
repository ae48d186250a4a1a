use Rattle.std.proofs.Common.{◌≡◌, length, map, take, Some}
use Rattle.serde_json.specs.View.{view}
use Rattle.scripts.specs.Arguments.{byte_of, all_of}
use Rattle.scripts.proofs.argument.few_bytes.Given as goal

abbrev pub invariant-loop-i : goal.invariant-loop-i
invariant-loop-i l = (length l.bytes ≡ 8) × (all_of byte_of (map view (take l.i l.items)) ≡ Some (take l.i l.bytes))
