use Rattle.std.proofs.Common.{◌≡◌, ◌<◌, suc, not, length, ap, ◌∙◌, sym, arith}
use Rattle.journal.specs.WriteOut.{has_committed}
use Rattle.journal.specs.WriteOuts.{has_uncommitted}
use Rattle.journal.specs.inside.Room.{write_outs_in}
use Rattle.journal.proofs.Rooms.{newest_tells, at_place, length-write_outs}
use Rattle.journal.proofs.write_outs.WriteOuts.has_uncommitted.Goals as goal

pub returns-in-Some : goal.returns-in-Some
returns-in-Some g c =
    let queued = c.self.inside.queued.items in
    let w = c.index.result.now.write_out in
    let size = c.self.inside.queued.ok.0 in
    let end : suc c.in-Some.last ≡ length (write_outs_in queued) =
    omega (arith, c.in-Some.ensures, c.len.ensures, size, length-write_outs queued) in
    let lt : c.in-Some.last < length queued = omega (arith, end, length-write_outs queued) in
    ap not (c.is_committed.ensures
    ∙ ap has_committed (sym (at_place queued c.in-Some.last c.index.result.now lt c.index.ensures w)))
    ∙ sym (newest_tells (write_outs_in queued) c.in-Some.last w end c.self.invariant.sound.ordered)
    ∙ ap (λ o. has_uncommitted o.batches) c.self.view_is
