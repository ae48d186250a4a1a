use Rattle.std.proofs.Common.{List, ℕ, ◌∷◌, ◌∙◌, ap}
use Rattle.device.specs.inside.Logged.{changes_of}
use Rattle.device.specs.Memory.DiskChange.{write}
use Rattle.device.proofs.Replay.{changes_of-push}
use Rattle.device.proofs.log.log_write.Goals as goal

pub returns-clause-ok : goal.returns-clause-ok
returns-clause-ok g c =
    ap changes_of c.in_ok-push.ensures.items ∙ changes_of-push c.args.log.now.items _
    ∙ ap (λ (l : List ℕ). write c.args.at l ∷ changes_of c.args.log.now.items) c.in_ok-from_slice.ensures.items
