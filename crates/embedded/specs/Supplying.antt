-- Blocks that a host supplies, and blocks that it needn't keep, for any block numbers.
use Rattle.std.specs.Prelude.{ℕ, ◌+◌, ◌*◌, nat_le, Bool, not, ◌&&◌, if◌then◌else◌, List, length, take}
use Rattle.deferred_disk.specs.Deferred.{Deferred, as_memory, after_supply, one_reaches}
use Rattle.device.specs.Memory.{seen_of}
use Rattle.volume_codec.specs.Layout.{first_file_home}
use Rattle.pager.specs.State.{PagerState}

-- whether the disk contains the block
abbrev pub is_of_disk : Deferred → ℕ → Bool
is_of_disk disk block = nat_le (4096 * block + 4096) (length (seen_of (as_memory disk)))

-- The disk after a block was supplied. A block past the disk's end changes nothing.
abbrev pub with_supplied : Deferred → ℕ → List ℕ → Deferred
with_supplied disk block bytes = if is_of_disk disk block then after_supply disk block bytes else disk

-- whether the disk contains the block, and no waiting call writes to it
abbrev pub is_free : Deferred → ℕ → Bool
is_free disk block = is_of_disk disk block && not (one_reaches (take disk.waiting disk.changes) block)

-- whether the block is free in this sense, and belongs to a file
abbrev pub may_forget : PagerState Deferred → ℕ → Bool
may_forget pager block =
    nat_le (first_file_home pager.table.layout pager.table.slots) block && is_free pager.device block
