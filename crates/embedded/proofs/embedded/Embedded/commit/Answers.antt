use Rattle.std.proofs.Common.{◌∙◌, ap}
use Rattle.deferred_disk.specs.Deferred.{Deferred, carried_moment, recorded_calls}
use Rattle.embedded.specs.Embedded.{EmbeddedState, made_calls}
use Rattle.embedded.proofs.Leading.{Any, leads_commit, leads_refused}
use Rattle.embedded.proofs.Serving.{serves_on, serves_marked}
use Rattle.embedded.proofs.embedded.Embedded.commit.Goals as goal

pub invariant_of-self : goal.invariant_of-self
invariant_of-self g c = serves_on c.self.inside.pager c.commit.new.pager _ _ _ Any
    (leads_refused c.self.inside.pager c.in_err-mark.ensures.refused) c.self.invariant

pub returns-in_err-mark-clause-carried : goal.returns-in_err-mark-clause-carried
returns-in_err-mark-clause-carried g c = (leads_refused c.self.inside.pager c.in_err-mark.ensures.refused).carried
    ∙ ap (λ (e : EmbeddedState). carried_moment e.pager.device) c.self.view_is

pub invariant_of-self-2 : goal.invariant_of-self-2
invariant_of-self-2 g c =
    let inside = c.self.inside in
    serves_marked inside.pager c.commit.new.pager inside.due inside.committed inside.acknowledged c.in_ok-mark.mark
    c.recorded-due.result c.made_calls-made.result c.confirmed-acknowledged.result c.in_ok-mark.ensures.commits
    (c.recorded-due.ensures ∙ ap (λ (d : Deferred). recorded_calls d) c.device.ensures)
    (c.made_calls-made.ensures ∙ ap (λ (d : Deferred). made_calls d) c.device-2.ensures)
    c.confirmed-acknowledged.ensures c.self.invariant

pub returns-clause-carried : goal.returns-clause-carried
returns-clause-carried g c =
    (leads_commit c.in_ok-mark.mark c.self.inside.pager c.commit.new.pager c.in_ok-mark.ensures.commits).carried
    ∙ ap (λ (e : EmbeddedState). carried_moment e.pager.device) c.self.view_is
