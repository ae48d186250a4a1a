use Rattle.std.proofs.Common.{◌∙◌, sym}
use Rattle.journal.specs.WriteOut.{next_record}
use Rattle.journal.proofs.Joined.{of_lone, record_none}
use Rattle.journal.proofs.write_outs.WriteOuts.next_record.Goals as goal

pub returns : goal.returns
returns g c =
    c.next_record.ensures.place
    ∙ sym (of_lone next_record c.self.inside.geometry c.self.inside.next c.self.inside.queued.items c.self.inside.broken
    c.args.self.now c.in_ok-at.at c.index.result.now c.self.view_is c.if-self.false c.index.ensures
    c.in_ok-at.ensures.lone)

pub returns-in_err-at : goal.returns-in_err-at
returns-in_err-at g c = c.from_residual.ensures ∙ sym (record_none c.args.self.now c.in_err-at.ensures.joint)
