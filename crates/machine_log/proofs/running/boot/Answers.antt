use Rattle.std.proofs.Common.{subst}
use Rattle.machine_log.specs.inside.Standing.{Stands}
use Rattle.machine_log.proofs.running.boot.Goals as goal

pub returns-in-Ok-clause-stands : goal.returns-in-Ok-clause-stands
returns-in-Ok-clause-stands g c = subst (Stands g.D.Device) c.device.ensures c.crashes_alike.ensures.since
