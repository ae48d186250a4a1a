use Rattle.std.proofs.Common.{◌≡◌, false, take}
use Rattle.deferred_disk.specs.Deferred.{one_reaches}
use Rattle.deferred_disk.specs.inside.Waiting.{changes_of}
use Rattle.deferred_disk.proofs.waiting.one_writes_to.Given as goal

-- no call so far writes to the block
abbrev pub invariant-loop-entry : goal.invariant-loop-entry
invariant-loop-entry g l = one_reaches (changes_of (take l.entry-index l.calls)) l.block ≡ false
