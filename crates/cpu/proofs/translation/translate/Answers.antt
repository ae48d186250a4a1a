use Rattle.shootdown.proofs.Public.{is_there_below, Coheres-without_page}
use Rattle.cpu.proofs.translation.translate.Goals as goal

-- the walk changed nothing, and the page's entry was dropped
pub returns-in-Err-clause-coherent : goal.returns-in-Err-clause-coherent
returns-in-Err-clause-coherent g c = λ coheres.
    let s = c.args.shootdown.now in
    let kept = c.in-Err.ensures.err in
    rw (c.drop_page.ensures.dropped, kept.2, kept.1)
    (Coheres-without_page s c.args.p _ c.args.page (is_there_below s c.args.p c.requires) c.args.spaces.now.map coheres)
