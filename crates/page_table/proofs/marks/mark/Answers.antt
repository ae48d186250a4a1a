use Rattle.page_table.proofs.Marking.{Marks-set, Marks-cleared}
use Rattle.page_table.proofs.marks.mark.Goals as goal
use Rattle.page_table.proofs.marks.mark.Goals.{then-set, else-set}

pub returns : goal.returns
returns c =
    elim c.if-set.branch [
      | then-set w ↦ rw (w.mask-is, w.if-set.true) (Marks-set c.args.mask.now c.args.place c.requires)
      | else-set w ↦ rw (w.mask-is, w.if-set.false) (Marks-cleared c.args.mask.now c.args.place c.requires)
    ]
