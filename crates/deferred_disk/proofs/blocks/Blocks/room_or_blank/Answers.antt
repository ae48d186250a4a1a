use Rattle.std.proofs.Common.{sym}
use Rattle.deferred_disk.specs.inside.Blocks.{blank_room}
use Rattle.deferred_disk.proofs.blocks.Blocks.room_or_blank.Goals as goal

pub returns-in-None : goal.returns-in-None
unfolding blank_room
returns-in-None g c = sym (c.in-None.ensures.blank c.requires)
