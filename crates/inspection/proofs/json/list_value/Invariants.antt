use Rattle.std.proofs.Common.{◌≡◌, map, take}
use Rattle.serde_json.specs.View.{view}
use Rattle.inspection.proofs.json.list_value.Given as goal

abbrev pub invariant-loop-item : goal.invariant-loop-item
invariant-loop-item g l =
    map view l.values.items ≡ map (λ item. g.I.Item.json item l.making.table.now) (take l.item-index l.items)
