use Rattle.std.proofs.Common.{refl, arith}
use Rattle.checkpoint.proofs.Added.{AddsPages-start, NotesPages-start}
use Rattle.checkpoint.proofs.Resized.{none_from_end, same_room, PagesResized-parts, are_added-grown}
use Rattle.checkpoint.proofs.Resized.{are_touched-grown, are_added-none, are_touched-none}
use Rattle.checkpoint.proofs.resizing.resize_pages.Goals as goal

pub add_pages-requires-clause-none : goal.add_pages-requires-clause-none
add_pages-requires-clause-none g c =
    none_from_end c.args.file c.args.old c.args.to c.min.result c.args.frames.now c.drop_past.new.frames
    c.cut_file.new.frames c.args.notes.now c.drop_past.new.notes c.requires.inside c.drop_past.ensures.dropped
    c.cut_file.ensures c.pages_in.result c.pages_in.ensures

pub add_pages-requires-clause-room : goal.add_pages-requires-clause-room
add_pages-requires-clause-room g c =
    let same = same_room c.args.file c.args.old c.args.to c.min.result c.args.frames.now c.drop_past.new.frames
    c.cut_file.new.frames c.args.notes.now c.drop_past.new.notes c.requires.inside c.drop_past.ensures.dropped
    c.cut_file.ensures c.if-old-to.true in
    omega (arith, c.requires.room, same, c.pages_in.ensures, c.pages_in-end.ensures)

pub returns-then-old-to-clause-resized : goal.returns-then-old-to-clause-resized
returns-then-old-to-clause-resized g c = λ checkpoint notes backed.
    PagesResized-parts c.args.spaces.now.map c.drop_past.new.spaces.map checkpoint c.args.file c.args.old c.args.to
    c.min.result c.args.frames.now c.drop_past.new.frames c.cut_file.new.frames c.add_pages.new.frames
    c.args.notes.now c.drop_past.new.notes c.note_pages.new.notes _ _ _ notes c.requires.inside c.requires.noted
    (c.drop_past.ensures.cleared checkpoint backed) c.drop_past.ensures.before c.min.ensures c.drop_past.ensures.dropped
    c.cut_file.ensures c.add_pages.ensures c.note_pages.ensures
    c.count-grown.ensures.are.one_frame
    (are_added-grown c.args.old c.args.to _ _ c.pages_in.ensures c.pages_in-end.ensures)
    (are_touched-grown c.args.old c.args.to _ _ c.if-old-to.true refl c.pages_in-end.ensures)

pub returns-else-old-to-clause-resized : goal.returns-else-old-to-clause-resized
returns-else-old-to-clause-resized g c = λ checkpoint notes backed.
    PagesResized-parts c.args.spaces.now.map c.drop_past.new.spaces.map checkpoint c.args.file c.args.old c.args.to
    c.min.result c.args.frames.now c.drop_past.new.frames c.cut_file.new.frames c.cut_file.new.frames
    c.args.notes.now c.drop_past.new.notes c.drop_past.new.notes 0 0 0 notes c.requires.inside c.requires.noted
    (c.drop_past.ensures.cleared checkpoint backed) c.drop_past.ensures.before c.min.ensures c.drop_past.ensures.dropped
    c.cut_file.ensures
    (AddsPages-start c.args.file 0 c.cut_file.new.frames)
    (NotesPages-start c.cut_file.new.frames c.args.file 0 c.drop_past.new.notes)
    c.count-count.ensures.are.one_frame
    (are_added-none c.args.old c.args.to c.if-old-to.false) (are_touched-none c.args.old c.args.to c.if-old-to.false)
