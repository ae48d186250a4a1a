-- What each reply means for stores and marks. Each reply is listed, so that a new reply needs its own line.
use Rattle.machine.specs.declared.act.Outcome.{Outcome}
use Rattle.machine.specs.declared.act.Outcome.TheVariants as outcomes
use Rattle.machine.specs.declared.act.Reply.{Reply}
use Rattle.machine.specs.declared.act.Reply.TheVariants.{Bytes, Stored, Filled, Evicted, Switched, Idled, Woken}
use Rattle.machine.specs.declared.act.Reply.TheVariants.{Fixed, Space, Destroyed, Mapped, Begun, Fine, Unmapped}
use Rattle.machine.specs.declared.act.Reply.TheVariants.{Protected, Resized, Reclaimed, Kept, Marked, Acked}
use Rattle.machine.specs.declared.act.Reply.TheVariants.{Resumed, Going, Committed, Done, Nothing, Refused}

-- A store, or a change of a length, is not yet in a mark. A mark that was made, or that is durable, has its number. A
-- refusal has its reason.
abbrev pub outcome_of : Reply → Outcome
outcome_of (Bytes bytes) = outcomes.Other
outcome_of Stored = outcomes.Unmarked
outcome_of Filled = outcomes.Other
outcome_of Evicted = outcomes.Other
outcome_of Switched = outcomes.Other
outcome_of Idled = outcomes.Other
outcome_of Woken = outcomes.Other
outcome_of Fixed = outcomes.Other
outcome_of (Space space) = outcomes.Other
outcome_of Destroyed = outcomes.Other
outcome_of Mapped = outcomes.Other
outcome_of Begun = outcomes.Other
outcome_of Fine = outcomes.Other
outcome_of Unmapped = outcomes.Other
outcome_of Protected = outcomes.Other
outcome_of Resized = outcomes.Unmarked
outcome_of Reclaimed = outcomes.Other
outcome_of Kept = outcomes.Other
outcome_of (Marked mark) = outcomes.Marked mark
outcome_of Acked = outcomes.Other
outcome_of Resumed = outcomes.Other
outcome_of Going = outcomes.Other
outcome_of (Committed mark) = outcomes.Committed mark
outcome_of (Done mark) = outcomes.Other
outcome_of Nothing = outcomes.Nothing
outcome_of (Refused refusal) = outcomes.Refused refusal
