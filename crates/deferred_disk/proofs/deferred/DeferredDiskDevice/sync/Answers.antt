use Rattle.std.proofs.Common.{refl, sym, ◌∙◌, ap}
use Rattle.deferred_disk.specs.Deferred.{after_sync}
use Rattle.device.specs.Memory.DiskChange.{sync}
use Rattle.deferred_disk.proofs.Deferring.{same_deferred, one_more}
use Rattle.device.proofs.Public.{on_ok}
use Rattle.deferred_disk.proofs.deferred.DeferredDiskDevice.sync.Goals as goal

pub returns-clause-recorded : goal.returns-clause-recorded
returns-clause-recorded g c =
    let past = c.with_sync-self-inside.ensures in
    let more = on_ok c.keep_sync.result (sym c.is_err.ensures.value ∙ c.if-is_err.false) c.keep_sync.ensures.ok in
    same_deferred past.0 past.1
    (one_more c.self.inside.log.items c.keep_sync.new.log.items sync more) refl past.2 refl c.raise.ensures refl
    ∙ ap after_sync c.self.view_is
