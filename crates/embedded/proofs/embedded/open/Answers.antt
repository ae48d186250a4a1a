use Rattle.embedded.specs.declared.reading.Unread.TheVariants.{Refused}
use Rattle.embedded.proofs.First.{refused_else}
use Rattle.embedded.proofs.Serving.{serves_opened}
use Rattle.embedded.proofs.embedded.open.Goals as goal

pub invariant_of-result : goal.invariant_of-result
invariant_of-result g c = serves_opened c.args.disk c.in-Ok-open.pager _ c.opened_as_recovered.ensures.files
    c.in-Ok-open.ensures.opens c.in-Ok-open.ensures.fresh c.in-Ok-open.ensures.well_formed

pub returns-in-Err-open-clause-untouched : goal.returns-in-Err-open-clause-untouched
returns-in-Err-open-clause-untouched g c = λ well is.
    absurd (refused_else c.args.disk (c.in-Ok.ensures.some well) well (Refused c.in-Err-open.refusal) c.in-Err-open.disk
    c.in-Err-open.ensures.refused is)
