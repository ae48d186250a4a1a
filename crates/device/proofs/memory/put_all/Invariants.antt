use Rattle.std.proofs.Common.{◌≡◌, take}
use Rattle.device.specs.inside.Logged.{changes_of}
use Rattle.device.specs.inside.Replay.{with_choice}
use Rattle.device.proofs.memory.put_all.Given as goal

abbrev pub invariant-loop-entry : goal.invariant-loop-entry
invariant-loop-entry g l = l.content ≡ with_choice (changes_of (take l.entry-index l.log)) l.choice l.fn.content
