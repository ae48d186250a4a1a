use Rattle.std.proofs.Common.{Some, sym, ap, ◌∙◌, subst}
use Rattle.std.specs.FinMap as maps
use Rattle.spaces.specs.inside.Slots.{SpaceState, NotesSlot}
use Rattle.spaces.proofs.Noted.{NotesSlot-some}
use Rattle.spaces.proofs.space.Space.note_dirty.Goals as goal

pub note_dirty-requires : goal.note_dirty-requires
note_dirty-requires g c = λ page entry there.
    c.requires page entry (ap (λ (s : SpaceState). maps.get s.entries page) (sym c.self.view_is) ∙ there)

pub returns : goal.returns
returns g c =
    subst (λ (s : SpaceState). NotesSlot (Some s) c.args.notes.now c.note_dirty.new.notes) c.self.view_is
    (NotesSlot-some _ c.args.notes.now c.note_dirty.new.notes c.note_dirty.ensures.size c.note_dirty.ensures.noted)
