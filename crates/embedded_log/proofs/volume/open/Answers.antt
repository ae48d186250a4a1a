use Rattle.std.proofs.Common.{sym, subst}
use Rattle.page_entry.specs.declared.refusal.Refusal.TheVariants.{Device}
use Rattle.embedded_log.specs.Opening.{RefusesEmbeddedLog}
use Rattle.embedded_log.proofs.Lacking.{refuses_lacking_log}
use Rattle.embedded_log.proofs.Serving.{serves_opened}
use Rattle.embedded_log.proofs.volume.open.Goals as goal

pub invariant_of-result : goal.invariant_of-result
invariant_of-result g c = serves_opened c.args.disk c.in-Ok.files c.in-Ok.ensures.opened c.in-Ok.ensures.over
    c.in-Ok.ensures.fresh c.in-Ok.ensures.counted.honest.0

pub returns-in-Ok-Some-clause-refused : goal.returns-in-Ok-Some-clause-refused
returns-in-Ok-Some-clause-refused g c =
    subst (λ d. RefusesEmbeddedLog c.args.disk Device d) (sym c.after_lack.ensures)
    (refuses_lacking_log c.args.disk c.in-Ok-Some.block)
