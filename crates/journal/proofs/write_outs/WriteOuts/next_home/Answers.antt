use Rattle.std.proofs.Common.{◌∙◌, sym}
use Rattle.journal.specs.WriteOut.{next_home}
use Rattle.journal.proofs.Joined.{of_lone, home_none}
use Rattle.journal.proofs.write_outs.WriteOuts.next_home.Goals as goal

pub returns : goal.returns
returns g c =
    c.next_home.ensures
    ∙ sym (of_lone next_home c.self.inside.geometry c.self.inside.next c.self.inside.queued.items c.self.inside.broken
    c.args.self.now c.in_ok-at.at c.index.result.now c.self.view_is c.if-self.false c.index.ensures
    c.in_ok-at.ensures.lone)

pub returns-in_err-at : goal.returns-in_err-at
returns-in_err-at g c = c.from_residual.ensures ∙ sym (home_none c.args.self.now c.in_err-at.ensures.joint)
