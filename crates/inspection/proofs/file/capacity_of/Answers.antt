use Rattle.std.proofs.Common.{sym}
use Rattle.std.proofs.lemmas.Option.{get_or_from_slice_get}
use Rattle.volume_codec.specs.Super.{capacities_in}
use Rattle.inspection.proofs.file.capacity_of.Goals as goal

pub returns : goal.returns
returns g c =
    sym (get_or_from_slice_get (capacities_in c.args.table.now) c.args.file c.capacity.result 0 c.capacity.ensures)
