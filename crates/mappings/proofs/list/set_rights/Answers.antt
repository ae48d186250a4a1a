use Rattle.std.proofs.Common.{◌<◌, length, arith}
use Rattle.std.proofs.lemmas.List.{get_or_default}
use Rattle.std.proofs.lemmas.List.Edits.{map_over_more}
use Rattle.mappings.specs.inside.Edits.{given_rights}
use Rattle.mappings.proofs.list.set_rights.Goals as goal

-- one more mapping has changed
pub loop-mapping-preserved : goal.loop-mapping-preserved
loop-mapping-preserved c =
    let list = c.loop-mapping.list in
    let i = c.loop-mapping.mapping-index in
    let within : i < length list = omega arith in
    rw c.with_rights.ensures (map_over_more (given_rights c.args.rights) c.args.list.now list i _
    c.loop-mapping-test.true c.loop-mapping.invariant (get_or_default list i _ _ within))
