use Rattle.std.proofs.Common.{◌≡◌, List, Bool, ap, ◌∙◌}
use Rattle.page_table.specs.Table.{is_marked}
use Rattle.spaces.specs.Spaces.{Spaces, EditsEntries, entry_at}
use Rattle.spaces.specs.Changes.{protected_where}
use Rattle.checkpoint.specs.Checkpoint.{CheckpointState, ProtectsNoted, without_notes}
use Rattle.checkpoint.proofs.BackingLaws.{AreBacked-frozen}
use Rattle.checkpoint.proofs.ReleaseLaws.{AreBacked-protected}
use Rattle.checkpoint.proofs.checkpoint.Checkpoint.protect_all.Goals as goal

protects : (c : CheckpointState) (notes : List Bool) (old new : Spaces) → notes ≡ c.notes
    → EditsEntries (λ pcid page entry. protected_where (is_marked notes) entry) old new
    → ProtectsNoted c old new
protects c notes old new same edits = record {
  same_spaces = edits.same_spaces;
  same_places = edits.same_places;
  entries = λ pcid page.
      edits.entries pcid page ∙ ap (λ ns. protected_where (is_marked ns) (entry_at old pcid page)) same;
}

pub returns-clause-backed : goal.returns-clause-backed
returns-clause-backed g c = λ memory before freezes pages gathers distinct backed.
    AreBacked-frozen memory (without_notes c.args.self.now) _ c.protect_frames.new.self.map
    (ap (λ (s : CheckpointState). s.frozen) c.self.view_is)
    (AreBacked-protected c.args.spaces.now.map c.protect_frames.new.self.map memory before c.args.self.now freezes pages
    gathers distinct
    (protects c.args.self.now c.deref.result.now c.args.spaces.now.map c.protect_frames.new.self.map
    (c.deref.ensures.value ∙ ap (λ (s : CheckpointState). s.notes) c.self.view_is) c.protect_frames.ensures.entries)
    backed)
