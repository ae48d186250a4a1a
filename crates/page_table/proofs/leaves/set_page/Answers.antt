use Rattle.std.proofs.Common.{◌≡◌, ◌≤◌, ◌<◌, ◌+◌, ◌-◌, ◌*◌, ℕ, false, sym, ◌∙◌, arith}
use Rattle.page_table.specs.Bits.{is_set}
use Rattle.page_table.proofs.PageEdits.{EditsPages-set}
use Rattle.page_table.proofs.Marked.{HasMarks-set}
use Rattle.page_table.proofs.Choices.{not_zero, some_used, none_set}
use Rattle.page_table.proofs.leaves.set_page.Goals as goal
use Rattle.page_table.proofs.leaves.set_page.Goals.{then-entry-ne0, else-entry-ne0}

pub returns-clause-edits : goal.returns-clause-edits
returns-clause-edits c = EditsPages-set c.args.words.now c.args.page c.args.entry c.walk-node.result c.requires.table
    c.requires.leaf c.requires.entry c.walk-node.ensures

-- where the node isn't in use, no word of it is marked
unused : (c : goal.After-slice_known-5-1) → c.if-entry-ne0.used ≡ false → (i : ℕ)
    → (c.walk-node.result - 1) * 512 ≤ i → i < (c.walk-node.result - 1 + 1) * 512
    → is_set c.mark.new.mask i ≡ false
unused c none =
    elim c.if-entry-ne0.branch [
      | then-entry-ne0 w ↦ absurd (some_used c.args.entry c.if-entry-ne0.used w.used-is w.if-entry-ne0.true none)
      | else-entry-ne0 w ↦
          none_set c.mark.new.mask ((c.walk-node.result - 1) * 512) ((c.walk-node.result - 1 + 1) * 512)
          w.first_set.result w.first_set.ensures (sym w.is_some-used.ensures ∙ sym w.used-is ∙ none)
    ]

pub returns-clause-marks : goal.returns-clause-marks
returns-clause-marks c =
    HasMarks-set c.args.words.now _ c.args.present.now c.mark.new.mask c.args.in_use.now c.mark-2.new.mask c.args.page
    (c.walk-node.result - 1) c.args.entry c.requires.table c.requires.marks c.requires.leaf
    (omega (arith, c.walk-node.ensures))
    (returns-clause-edits c) _ c.if-entry-ne0.used (not_zero c.args.entry) c.mark.ensures c.mark-2.ensures (unused c)
