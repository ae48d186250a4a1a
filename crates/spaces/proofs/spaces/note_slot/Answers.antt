use Rattle.spaces.proofs.spaces.note_slot.Goals as goal

pub returns-in-Some : goal.returns-in-Some
returns-in-Some g c = rw c.in-Some.is c.note_dirty.ensures
