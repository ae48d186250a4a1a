use Rattle.std.proofs.Common.{subst}
use Rattle.machine_log.specs.inside.Standing.{Stands}
use Rattle.machine_log.proofs.running.make_step.Goals as goal

pub returns : goal.returns
returns g c = record {
  taken = c.enter-reply.ensures.taken;
  stands = subst (Stands g.D.Device) c.device.ensures c.crashes_alike.ensures.since;
}
