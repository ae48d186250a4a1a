use Rattle.std.proofs.Common.{◌≡◌, cond, length, refl, sym, ap, subst, ◌∙◌, arith}
use Rattle.std.specs.List.{list_any}
use Rattle.std.specs.Vec.{with_items}
use Rattle.std.proofs.lemmas.Bool.{false≢true, cond-true, cond-false}
use Rattle.std.proofs.lemmas.List.{with_items_is}
use Rattle.checkpoint.specs.Checkpoint.{CheckpointState, same_page}
use Rattle.checkpoint.specs.inside.Notes.{AreNoted, AreNotedPages, IsAnyPage}
use Rattle.checkpoint.proofs.Gathering.{Gathers-noted}
use Rattle.checkpoint.proofs.BackingLaws.{HasNotes-backed}
use Rattle.checkpoint.proofs.checkpoint.Checkpoint.gather.Goals as goal
use Rattle.checkpoint.proofs.checkpoint.Checkpoint.gather.Goals.{then-freezes, else-freezes}

pub note_all-requires : goal.note_all-requires
note_all-requires g c =
    let old_notes : c.deref_mut.result.now ≡ c.args.self.now.notes =
    c.deref_mut.ensures.value
    ∙ ap (λ (s : CheckpointState). s.notes) c.self.view_is in
    HasNotes-backed c.args.frames.now c.args.self.now c.args.spaces.now.map (length c.deref_mut.result.now)
    (ap length old_notes ∙ c.requires.sized) c.requires.backed

pub returns-clause-gathered : goal.returns-clause-gathered
returns-clause-gathered g c =
    let notes = c.note_all.new.notes in
    let pages = c.list_noted.new.pages.items in
    let old_notes : c.deref_mut.result.now ≡ c.args.self.now.notes =
    c.deref_mut.ensures.value
    ∙ ap (λ (s : CheckpointState). s.notes) c.self.view_is in
    let same : (with_items c.self.inside.notes notes).items ≡ notes =
    with_items_is c.self.inside.notes notes (omega (arith, c.note_all.ensures.same_length, c.deref_mut.ensures.len)) in
    let count : c.len-count.result ≡ length pages = omega (arith, c.len-count.ensures, c.list_noted.new.pages.ok.0) in
    let so_many : c.if-freezes.self ≡ cond c.args.freezes 0 (length pages) = elim c.if-freezes.branch [
      | then-freezes w ↦ w.self-is ∙ sym (cond-true c.args.freezes 0 (length pages) w.if-freezes.true)
      | else-freezes w ↦ w.self-is ∙ count ∙ sym (cond-false c.args.freezes 0 (length pages) w.if-freezes.false)
    ] in (
      pages,
      sym count,
      Gathers-noted c.args.spaces.now.map c.args.frames.now c.args.self.now _ c.args.freezes pages
          c.if-freezes.self notes
          (subst (λ old. AreNoted c.args.spaces.now.map IsAnyPage old notes) old_notes c.note_all.ensures)
          (subst (λ ns. AreNotedPages c.args.frames.now ns pages)
          (c.deref.ensures.value ∙ same) c.list_noted.ensures.listed)
          same refl so_many,
    )

pub returns-clause-copies : goal.returns-clause-copies
returns-clause-copies g c = λ none are copy frame there.
    absurd (false≢true (sym (ap (list_any (same_page frame.page)) none) ∙ are copy frame there))
