use Rattle.std.proofs.Common.{◌≡◌, take}
use Rattle.std.specs.Option.{option_copied}
use Rattle.kept_blocks.specs.Blocks.{newest_in}
use Rattle.pager.proofs.pager.newest.Given as goal

abbrev pub invariant-loop-blocks : goal.invariant-loop-blocks
invariant-loop-blocks g l = option_copied l.found ≡ newest_in (take l.blocks-index l.records) l.home
