use Rattle.std.proofs.Common.{ap}
use Rattle.std.specs.Prelude.{nat_eq}
use Rattle.std.specs.HashMap.{get}
use Rattle.std.specs.Map.{lookup}
use Rattle.deferred_disk.proofs.Rooms.{flags_where_none, whole_where_none, length-all_rooms}
use Rattle.deferred_disk.proofs.blocks.Blocks.new.Goals as goal

pub returns-clause-flags : goal.returns-clause-flags
returns-clause-flags g c =
    flags_where_none (get nat_eq c.new.result) (λ block. ap (lookup (nat_eq block)) c.new.ensures.empty) c.args.count

pub returns-clause-bytes : goal.returns-clause-bytes
returns-clause-bytes g c =
    length-all_rooms (get nat_eq c.new.result)
    (whole_where_none (get nat_eq c.new.result) (λ block. ap (lookup (nat_eq block)) c.new.ensures.empty)) c.args.count
