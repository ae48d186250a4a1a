use Rattle.checkpoint.specs.inside.Resized.{NotesPages}
use Rattle.checkpoint.proofs.resizing.note_pages.Given as goal

abbrev pub invariant-loop-page : goal.invariant-loop-page
invariant-loop-page g l = NotesPages l.frames l.file l.first l.page l.initial.notes l.notes
