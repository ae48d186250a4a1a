use Rattle.std.proofs.Common.{◌≤◌, ◌-◌}
use Rattle.spaces.specs.inside.Slots.{NotesSlots}
use Rattle.spaces.proofs.spaces.note_slots.Given as goal

-- the slots so far are noted
abbrev pub invariant-spaces : goal.invariant-spaces
invariant-spaces g l = (l.next ≤ 4096) × NotesSlots l.slots l.next l.fn.notes l.notes

abbrev pub decreases-spaces : goal.decreases-spaces
decreases-spaces g l = 4096 - l.next
