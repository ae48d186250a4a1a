use Rattle.std.proofs.Common.{◌∷◌, ◌∙◌, ap}
use Rattle.device.specs.Memory.DiskChange.{sync}
use Rattle.deferred_disk.specs.inside.Waiting.{changes_of}
use Rattle.deferred_disk.proofs.Waits.{changes_of-push}
use Rattle.deferred_disk.proofs.waiting.keep_sync.Goals as goal

pub returns-clause-ok : goal.returns-clause-ok
returns-clause-ok g c =
    ap changes_of c.keep.ensures ∙ changes_of-push c.reserve.new.self.items _
    ∙ ap (λ l. sync ∷ changes_of l) c.in_ok-reserve.ensures.items
