use Rattle.std.proofs.Common.{arith}
use Rattle.inspection.proofs.LogHealthy.{clean_log, unclean_log}
use Rattle.inspection.proofs.log_health.examine_log.Goals as goal

pub returns-then-len-eq0-clause-health : goal.returns-then-len-eq0-clause-health
returns-then-len-eq0-clause-health g c = λ honest.
    clean_log (g.D.Device.seen c.args.device.now) c.in-Ok.found (c.in-Ok.ensures.found honest)
    (omega (arith, c.len.ensures, c.if-len-eq0.true))

pub returns-in-Ok-clause-health : goal.returns-in-Ok-clause-health
returns-in-Ok-clause-health g c = λ honest.
    unclean_log (g.D.Device.seen c.args.device.now) c.in-Ok.found (c.in-Ok.ensures.found honest)
    (omega (arith, c.len.ensures, c.if-len-eq0.false))
