use Rattle.std.proofs.Common.{subst, sym, ◌∙◌}
use Rattle.std.specs.Prelude.{⊤, Result}
use Rattle.log_pager.specs.declared.fault.PagerFault.{PagerFault}
use Rattle.log_room.specs.inside.Leading.{CommitsPut}
use Rattle.log_room.proofs.Leading.{nothing_stepped}
use Rattle.log_room.proofs.Checked.{commit_none, commit_read}
use Rattle.log_room.proofs.room.commit_put.Goals as goal

pub returns-then-staged-eq0-clause-commits : goal.returns-then-staged-eq0-clause-commits
returns-then-staged-eq0-clause-commits g c =
    commit_none g.D.Device g.met.D.Device.now_is_since c.args.pager.now
    (nothing_stepped g.D.Device g.met.D.Device.since_now c.args.pager.now)
    (sym c.staged.ensures ∙ c.if-staged-eq0.true)

pub returns-in-Ok-clause-commits : goal.returns-in-Ok-clause-commits
returns-in-Ok-clause-commits g c =
    commit_read g.D.Device g.met.D.Device.now_is_since c.check_end.result
    (subst (λ (r : Result ⊤ PagerFault). CommitsPut g.D.Device c.args.pager.now r c.pager_commit.new.pager) c.in-Ok.is
    c.pager_commit.ensures) c.check_end.ensures
