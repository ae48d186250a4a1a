use Rattle.std.proofs.Common.{◌≡◌, subst, sym}
use Rattle.std.specs.Prelude.{Result, OnOk}
use Rattle.device.specs.Device.{Only}
use Rattle.device.specs.Memory.{may_leave_of, seen_of}
use Rattle.machine_log.specs.Disk.{LogDiskValue}
use Rattle.machine_log.proofs.Trait.{ReadLeaves, sync_time}
use Rattle.machine_log.proofs.Working.{sync_durable, works_counted}
use Rattle.machine_log.proofs.disk.LogDiskDevice.sync.Goals as goal

pub returns-clause-time : goal.returns-clause-time
returns-clause-time g c =
    subst (λ (d : LogDiskValue _). ReadLeaves g.D.Device d c.count-outcome.new.self) c.self.view_is
    (sync_time g.D.Device c.self.inside.disk c.settle-outcome.new.self c.count-outcome.new.self _ _
    c.count-outcome.ensures.counted c.is_timed.ensures c.is_timed-2.ensures c.settle-outcome.ensures)

pub invariant_of-self : goal.invariant_of-self
invariant_of-self g c = works_counted g.D.Device c.settle-outcome.new.self c.count-outcome.new.self _
    c.unless_failed-outcome.result c.count-outcome.ensures.counted c.unless_failed-outcome.ensures.works

pub returns-clause-durable : goal.returns-clause-durable
returns-clause-durable g c = λ honest.
    let result = c.count-outcome.result in
    subst (λ (d : LogDiskValue _). OnOk result (Only (may_leave_of c.count-outcome.new.self.memory) (seen_of d.memory)))
    c.self.view_is (sync_durable g.D.Device c.self.inside.disk c.settle-outcome.new.self c.count-outcome.new.self _ _
    c.settle-outcome.result result c.count-outcome.ensures.counted
    (subst (λ (r : Result _ _). OnOk r (r ≡ c.settle-outcome.result)) (sym c.count-outcome.ensures.same)
    c.unless_failed-outcome.ensures.same) c.settle-outcome.ensures)
