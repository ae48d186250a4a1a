use Rattle.std.proofs.Common.{◌∙◌, ap}
use Rattle.device.specs.inside.Logged.{changes_of}
use Rattle.device.proofs.Replay.{changes_of-push}
use Rattle.device.proofs.log.log_sync.Goals as goal

pub returns-clause-ok : goal.returns-clause-ok
returns-clause-ok g c = ap changes_of c.in_ok-push.ensures.items ∙ changes_of-push c.args.log.now.items _
