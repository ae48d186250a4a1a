use Rattle.std.proofs.Common.{rules, ◌≡◌, ◌++◌, ◌∷◌, [], ap, ◌∙◌}
use Rattle.serde_json.specs.Data.{Data}
use Rattle.inspection.proofs.Writing.{value_more}
use Rattle.inspection.proofs.json.list_value.Goals as goal

pub loop-item-preserved : goal.loop-item-preserved
loop-item-preserved g c =
    let value = c.in_ok-value.value in
    let item = c.item-item.result in
    let json : g.row.I.Denot → Data = λ x. g.I.Item.json x c.args.making.table.now in
    let pushed : c.push.new.self.items ≡ c.loop-item.values.items ++ value ∷ [] = search rules in
    value_more json c.loop-item.values.items c.push.new.self.items c.args.items.now
    c.loop-item.item-index item value c.loop-item-test.true pushed
    (c.in_ok-value.ensures ∙ ap json c.item-item.is) c.loop-item.invariant
