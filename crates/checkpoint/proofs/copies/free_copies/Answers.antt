use Rattle.std.proofs.Common.{sym, ap, ◌∙◌, get_or}
use Rattle.page_entry.specs.declared.numbers.FilePage.{FilePage}
use Rattle.checkpoint.specs.Checkpoint.{without_copy_of}
use Rattle.checkpoint.proofs.FreedCopies.{without_copies_of-more}
use Rattle.checkpoint.proofs.copies.free_copies.Goals as goal

pub loop-page-preserved : goal.loop-page-preserved
loop-page-preserved g c =
    let none : FilePage = record { file = 0; page = 0 } in
    let pages = c.args.pages.now in
    let i = c.loop-page.page-index in
    c.free_copy.ensures
    ∙ ap (λ memory. without_copy_of memory (get_or pages i none)) c.loop-page.invariant
    ∙ sym (without_copies_of-more c.args.frames.now pages i none c.loop-page-test.true)
