use Rattle.std.proofs.Common.{◌≡◌, drop, false}
use Rattle.crash_table.specs.inside.Kept.{unmarked_after}
use Rattle.crash_table.proofs.make.has_unmarked.Given as goal

abbrev pub invariant-loop-reply : goal.invariant-loop-reply
invariant-loop-reply l = unmarked_after l.has (drop l.reply-index l.replies) ≡ unmarked_after false l.replies
