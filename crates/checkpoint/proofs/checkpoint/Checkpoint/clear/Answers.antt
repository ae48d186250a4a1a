use Rattle.std.proofs.Common.{ap, ◌∙◌, arith}
use Rattle.std.proofs.lemmas.List.{with_items_is}
use Rattle.checkpoint.specs.Checkpoint.{CheckpointState, IsMappingOf}
use Rattle.checkpoint.proofs.BackingLaws.{AreBacked-frozen}
use Rattle.checkpoint.proofs.SpacesLaws.{AreBacked-cleared}
use Rattle.checkpoint.proofs.Dirtiness.{NotesTaken-noted, NotesTaken-none, clean_mapping}
use Rattle.checkpoint.proofs.checkpoint.Checkpoint.clear.Goals as goal

pub returns-clause-clean : goal.returns-clause-clean
returns-clause-clean g c = λ memory frame backed distinct holds clean.
    NotesTaken-none c.args.spaces.now.map (IsMappingOf c.args.spaces.now.map c.args.page) c.args.self.now _
    (NotesTaken-noted c.args.spaces.now.map (IsMappingOf c.args.spaces.now.map c.args.page) c.args.self.now _
    c.deref_mut.result.now c.note_page.new.notes c.note_page.ensures
    (c.deref_mut.ensures.value ∙ ap (λ (s : CheckpointState). s.notes) c.self.view_is)
    (with_items_is c.self.inside.notes c.note_page.new.notes
    (omega (arith, c.note_page.ensures.same_length, c.deref_mut.ensures.len)))
    (ap (λ (s : CheckpointState). s.frozen) c.self.view_is))
    (clean_mapping memory c.args.self.now c.args.spaces.now.map c.args.page frame backed distinct holds clean)

pub returns-clause-backed : goal.returns-clause-backed
returns-clause-backed g c = λ memory backed.
    AreBacked-frozen memory c.args.self.now _ c.clear_entries_of.new.self.map
    (ap (λ (s : CheckpointState). s.frozen) c.self.view_is)
    (AreBacked-cleared memory c.args.self.now c.args.spaces.now.map c.clear_entries_of.new.self.map c.args.page
    c.clear_entries_of.ensures.entries backed)
