use Rattle.std.proofs.Common.{◌≡◌, ◌<◌, ℕ, ◌+◌, ◌-◌, ◌*◌, length, get_or}
use Rattle.deferred_disk.specs.Deferred.{first_unknown}
use Rattle.deferred_disk.proofs.blocks.Blocks.read.Given as goal

-- none of the blocks so far is unknown, and their bytes are copied
abbrev pub invariant-loop-block : goal.invariant-loop-block
invariant-loop-block g l =
    (first_unknown l.self.flags l.initial.block (l.block-end - l.initial.block)
    ≡ first_unknown l.self.flags l.block (l.block-end - l.block))
    × (length l.buffer ≡ length l.fn.buffer)
    × ((i : ℕ) → i < length l.buffer → l.at + i < 4096 * l.block
    → get_or l.buffer i 0 ≡ get_or l.self.bytes (l.at + i) 0)
