use Rattle.std.proofs.Common.{sym, ◌∙◌, ap}
use Rattle.deferred_disk.specs.Deferred.{waits_behind}
use Rattle.deferred_disk.proofs.Deferring.{waits_at}
use Rattle.deferred_disk.proofs.deferred.DeferredDisk.call.Goals as goal

pub returns : goal.returns
returns g c =
    c.lend_at.ensures
    ∙ sym (waits_at c.self.inside.log.items c.self.inside.past.changes c.args.others c.self.invariant.0.waits)
    ∙ ap (waits_behind c.args.others) c.self.view_is
