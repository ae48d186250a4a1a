use Rattle.std.proofs.Common.{subst}
use Rattle.machine_log.specs.Disk.{LogDiskValue}
use Rattle.machine_log.proofs.Trait.{ReadLeaves, read_time}
use Rattle.machine_log.proofs.Working.{works_counted}
use Rattle.machine_log.proofs.disk.LogDiskDevice.read.Goals as goal

pub returns-clause-time : goal.returns-clause-time
returns-clause-time g c =
    subst (λ (d : LogDiskValue _). ReadLeaves g.D.Device d c.count-outcome.new.self) c.self.view_is
    (read_time g.D.Device c.self.inside.disk c.fetch-outcome.new.self c.count-outcome.new.self _ _
    c.count-outcome.ensures.counted c.is_timed.ensures c.is_timed-2.ensures c.fetch-outcome.ensures.on)

pub invariant_of-self : goal.invariant_of-self
invariant_of-self g c = works_counted g.D.Device c.fetch-outcome.new.self c.count-outcome.new.self _
    c.unless_failed-outcome.result c.count-outcome.ensures.counted c.unless_failed-outcome.ensures.works
