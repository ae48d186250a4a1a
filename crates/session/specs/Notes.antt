-- The notes of a session about the steps that it made.
use Rattle.std.specs.Prelude.{Bool, true, false, List, [], ◌∷◌}
use Rattle.page_entry.specs.declared.refusal.Refusal.TheVariants.{Device}
use Rattle.machine.specs.declared.act.Reply.{Reply}
use Rattle.machine.specs.declared.act.Reply.TheVariants.{Refused}
use Rattle.machine.specs.Unmarked.{unmarked_by}
use Rattle.session.specs.declared.notes.Notes.{Notes}

-- whether a step was refused because the device failed, after one more reply
abbrev pub failed_by : Bool → Reply → Bool
failed_by before (Refused Device) = true
failed_by before _ = before

abbrev pub noted_after : Notes → Reply → Notes
noted_after before reply = record {
  has_unmarked = unmarked_by before.has_unmarked reply;
  has_failed = failed_by before.has_failed reply;
}

-- the notes after all these replies
abbrev pub noted_all : Notes → List Reply → Notes
noted_all before [] = before
noted_all before (reply ∷ replies) = noted_all (noted_after before reply) replies
