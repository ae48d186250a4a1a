use Rattle.std.proofs.Common.{ap, ◌∙◌, arith}
use Rattle.page_entry.specs.Entry.{bits_of, entry_of}
use Rattle.page_table.specs.inside.Changes.{changed_by, changed_bits}
use Rattle.page_table.proofs.PageEdits.{EditsPages-next, EditsPages-all, changed-zero}
use Rattle.page_table.proofs.leaves.change_pages.Goals as goal

pub pages-preserved : goal.pages-preserved
pages-preserved c =
    let inv = c.pages.invariant in
    let found = c.in-Some.ensures in
    let low = inv.low in
    let from = found.low in
    let upto = found.high in
    record {
      low = omega arith;
      high = λ some. omega arith;
      done = EditsPages-next (changed_bits c.args.change)
          (changed-zero c.args.change) c.args.range.now.start c.pages.start c.min-end.result c.in-Some.page
          c.bits.result c.args.words.now c.pages.words c.set_page.new.words low inv.done found
          (c.bits.ensures.bits ∙ ap bits_of
          (c.changed-entry.ensures ∙ ap (changed_by c.args.change) (c.of_bits.ensures ∙ ap entry_of c.walk.ensures)))
          c.set_page.ensures.edits;
      marks = c.set_page.ensures.marks;
    }

pub returns-clause-edits : goal.returns-clause-edits
returns-clause-edits c =
    let inv = c.pages.invariant in
    EditsPages-all (changed_bits c.args.change) (changed-zero c.args.change) c.args.range.now.start c.pages.start
    c.min-end.result c.args.range.now.end c.args.words.now c.pages.words inv.low inv.done c.in_default.ensures
    (omega (arith, c.min-end.ensures)) inv.high
