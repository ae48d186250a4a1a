use Rattle.std.proofs.Common.{arith}
use Rattle.checkpoint.proofs.BackingLaws.{Holds-within}
use Rattle.checkpoint.proofs.Added.{NotesPages-none, NotesPages-more}
use Rattle.checkpoint.proofs.resizing.note_pages.Goals as goal
use Rattle.checkpoint.proofs.resizing.note_pages.Goals.{in-Some, in_default}

pub loop-page-preserved : goal.loop-page-preserved
loop-page-preserved g c =
    let memory = c.args.frames.now in
    let file = c.args.file in
    let page = c.loop-page.page in
    elim c.match-find.branch [
      | in-Some w ↦
          let holds = w.in-Some.ensures.found in
          rw w.notes-is
          (NotesPages-more memory file c.args.first page c.args.notes.now c.loop-page.notes w.in-Some.frame
          (λ k it. c.find.ensures.are.one_frame k w.in-Some.frame _ it holds) c.loop-page.auto.page holds
          (omega (arith, Holds-within memory w.in-Some.frame _ holds, c.requires.sized, c.loop-page.auto.notes))
          c.loop-page.invariant)
      | in_default w ↦
          rw w.notes-is (NotesPages-none memory file c.args.first page c.args.notes.now c.loop-page.notes
          w.in_default.ensures.none c.loop-page.invariant)
    ]
