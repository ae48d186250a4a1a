use Rattle.std.proofs.Common.{rules, ◌<◌, length, get_or}
use Rattle.std.specs.Io.KnownBytes.{Appends}
use Rattle.inspection.specs.Text.{home_text}
use Rattle.inspection.proofs.Writing.{item_more}
use Rattle.inspection.proofs.text.write_homes.Goals as goal

pub loop-home-preserved : goal.loop-home-preserved
loop-home-preserved g c =
    let contents = g.W.Write.contents in
    let homes = c.args.homes.now in
    let i = c.loop-home.home-index in
    let below : i < length homes = search rules in
    let wrote : Appends (contents c.loop-home.out) (contents c.write_home.new.out)
    (home_text c.args.table.now (get_or homes i 0)) = search rules in
    item_more (home_text c.args.table.now) _ (contents c.loop-home.out)
    (contents c.write_home.new.out) homes i 0 below c.loop-home.invariant wrote
