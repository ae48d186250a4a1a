use Rattle.std.proofs.Common.{List, ℕ, ◌∷◌, ◌∙◌, ap}
use Rattle.device.specs.Memory.DiskChange.{write}
use Rattle.deferred_disk.specs.inside.Waiting.{changes_of}
use Rattle.deferred_disk.proofs.Waits.{changes_of-push}
use Rattle.deferred_disk.proofs.waiting.keep_write.Goals as goal

pub returns-clause-log : goal.returns-clause-log
returns-clause-log g c =
    ap changes_of c.keep.ensures ∙ changes_of-push c.reserve.new.self.items _
    ∙ ap (λ (l : List ℕ). write c.args.at l ∷ changes_of c.reserve.new.self.items) c.in_ok-written.ensures.part
    ∙ ap (λ l. write c.args.at c.args.bytes.now ∷ changes_of l) c.in_ok-reserve.ensures.items
