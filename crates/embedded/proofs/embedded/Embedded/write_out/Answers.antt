use Rattle.std.proofs.Common.{◌∙◌, ap}
use Rattle.deferred_disk.specs.Deferred.{carried_moment}
use Rattle.embedded.specs.Embedded.{EmbeddedState}
use Rattle.embedded.proofs.Leading.{Any, leads_some}
use Rattle.embedded.proofs.Serving.{serves_on}
use Rattle.embedded.proofs.embedded.Embedded.write_out.Goals as goal

pub invariant_of-self : goal.invariant_of-self
invariant_of-self g c = serves_on c.self.inside.pager c.write_out.new.pager _ _ _ Any
    (leads_some c.args.most _ _ c.write_out.result c.write_out.ensures.steps c.write_out.ensures.refused)
    c.self.invariant

pub returns-clause-carried : goal.returns-clause-carried
returns-clause-carried g c =
    (leads_some c.args.most c.self.inside.pager c.write_out.new.pager c.write_out.result c.write_out.ensures.steps
    c.write_out.ensures.refused).carried
    ∙ ap (λ (e : EmbeddedState). carried_moment e.pager.device) c.self.view_is
