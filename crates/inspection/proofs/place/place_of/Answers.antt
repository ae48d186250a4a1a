use Rattle.std.proofs.Common.{rules, ◌-◌, ◌<◌, ◌∙◌}
use Rattle.volume_codec.specs.Super.{first_home_of}
use Rattle.inspection.proofs.Places.{place_down}
use Rattle.inspection.proofs.place.place_of.Goals as goal

pub loop-file-preserved : goal.loop-file-preserved
loop-file-preserved g c =
    let n = c.loop-file.file in
    let some : 0 < n = search rules in
    let less : c.args.home < first_home_of c.args.table.now (n - 1) = search rules in
    c.loop-file.invariant ∙ place_down c.args.table.now c.args.home n some less
