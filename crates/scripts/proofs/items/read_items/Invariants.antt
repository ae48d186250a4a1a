use Rattle.std.proofs.Common.{◌≡◌, map, take, Some}
use Rattle.serde_json.specs.View.{view}
use Rattle.scripts.specs.Arguments.{all_of}
use Rattle.scripts.proofs.items.read_items.Given as goal

abbrev pub invariant-loop-i : goal.invariant-loop-i
invariant-loop-i g l = all_of g.T.Item.item_of (map view (take l.i l.values)) ≡ Some l.items.items
