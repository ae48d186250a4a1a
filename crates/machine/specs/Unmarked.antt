-- Whether something was stored, or a length set, that is not in a mark yet. It can be read off the replies.
use Rattle.std.specs.Prelude.{Bool, true, false, Option, Some, None, unwrap_or}
use Rattle.machine.specs.declared.act.Reply.{Reply}
use Rattle.machine.specs.declared.act.Reply.TheVariants.{Stored, Resized, Marked}

-- What a reply decides about that: there is something, there is nothing, or neither.
abbrev pub decides : Reply → Option Bool
decides Stored = Some true
decides Resized = Some true
decides (Marked number) = Some false
decides reply = None

-- Whether there is something after a reply, if `before` is the answer before it.
abbrev pub unmarked_by : Bool → Reply → Bool
unmarked_by before reply = unwrap_or (decides reply) before
