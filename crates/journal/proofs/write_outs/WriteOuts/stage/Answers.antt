use Rattle.std.proofs.Common.{◌<◌, Some, length, ap, ◌∙◌, sym, subst, arith}
use Rattle.std.specs.Option.{option_and_then}
use Rattle.journal.specs.WriteOut.{next_stage}
use Rattle.journal.specs.WriteOuts.{current}
use Rattle.journal.specs.inside.Room.{write_outs_in, IsCurrent}
use Rattle.journal.proofs.Rooms.{at_place, length-write_outs}
use Rattle.journal.proofs.write_outs.WriteOuts.stage.Goals as goal

pub returns : goal.returns
returns g c =
    let queued = c.self.inside.queued.items in
    let w = c.index.result.now.write_out in
    let is : IsCurrent (write_outs_in queued) c.in_ok-at.at =
    subst (λ o. IsCurrent o.batches c.in_ok-at.at) (sym c.self.view_is) c.in_ok-at.ensures.some in
    let lt : c.in_ok-at.at < length queued = omega (arith, is.within, length-write_outs queued) in
    c.stage.ensures
    ∙ sym (ap (option_and_then next_stage)
    (is.current w ∙ ap Some (at_place queued c.in_ok-at.at c.index.result.now lt c.index.ensures w)))
    ∙ ap (λ o. option_and_then next_stage (current o.batches)) c.self.view_is
