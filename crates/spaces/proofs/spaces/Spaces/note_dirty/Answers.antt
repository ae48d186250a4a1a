use Rattle.std.proofs.Common.{List, Option, length, sym, ap, subst, arith}
use Rattle.spaces.specs.Spaces.{SpacesState}
use Rattle.spaces.specs.inside.Slots.{SpaceState, AreBelow, AreInUse, NotesSlots}
use Rattle.spaces.proofs.Noted.{AreBelow-slots, noted_spaces}
use Rattle.spaces.proofs.spaces.Spaces.note_dirty.Goals as goal

pub note_slots-requires-clause-few : goal.note_slots-requires-clause-few
note_slots-requires-clause-few g c = omega (arith, c.self.invariant.0.few, ap length c.deref.ensures.value)

pub note_slots-requires-clause-used : goal.note_slots-requires-clause-used
note_slots-requires-clause-used g c = subst (λ (l : List (Option SpaceState)). AreInUse l c.self.inside.in_use)
    (sym c.deref.ensures.value) c.self.invariant.1

pub note_slots-requires-clause-below : goal.note_slots-requires-clause-below
note_slots-requires-clause-below g c =
    subst (λ (l : List (Option SpaceState)). AreBelow l (length c.args.notes.now)) (sym c.deref.ensures.value)
    (AreBelow-slots c.self.inside.slots.items c.args.self.now (ap (λ (s : SpacesState). s.map) c.self.view_is)
    (length c.args.notes.now) c.requires)

pub returns-clause-noted : goal.returns-clause-noted
returns-clause-noted g c =
    noted_spaces c.self.inside.slots.items c.args.self.now
    (ap (λ (s : SpacesState). s.map) c.self.view_is) c.args.notes.now c.note_slots.new.notes
    (subst (λ (l : List (Option SpaceState)). NotesSlots l (length l) c.args.notes.now c.note_slots.new.notes)
    c.deref.ensures.value c.note_slots.ensures)
