use Rattle.std.proofs.Common.{◌≡◌, ◌+◌, ◌≤◌, List, ℕ, length, take, slice_range}
use Rattle.device.specs.Memory.{content_after}
use Rattle.device.specs.inside.Logged.{changes_of}
use Rattle.device.specs.inside.Replay.{AreWithin}
use Rattle.device.proofs.overlay.patch_all.Given as goal

abbrev pub invariant-loop-entry : goal.invariant-loop-entry
invariant-loop-entry g l =
    (first : List ℕ) → l.at + length l.fn.buffer ≤ length first → AreWithin (length first) (changes_of l.log)
    → l.fn.buffer ≡ slice_range first l.at (l.at + length l.fn.buffer)
    → l.buffer ≡ slice_range (content_after first (changes_of (take l.entry-index l.log))) l.at
    (l.at + length l.fn.buffer)
