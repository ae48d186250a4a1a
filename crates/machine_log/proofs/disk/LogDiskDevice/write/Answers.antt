use Rattle.std.proofs.Common.{◌+◌, ◌≤◌, length, sym, subst}
use Rattle.device.specs.Memory.{seen_of}
use Rattle.machine_log.specs.Disk.{LogDiskValue}
use Rattle.machine_log.proofs.Trait.{WriteKeeps, WriteLeaves, WriteLeft, write_keeps, write_left, write_time}
use Rattle.machine_log.proofs.Working.{works_counted}
use Rattle.machine_log.proofs.disk.LogDiskDevice.write.Goals as goal

pub returns-clause-time : goal.returns-clause-time
returns-clause-time g c =
    let fits = subst (λ (d : LogDiskValue _). c.args.at + length c.args.bytes.now ≤ length (seen_of d.memory))
    (sym c.self.view_is) c.requires in
    subst (λ (d : LogDiskValue _). WriteLeaves g.D.Device d c.count-outcome.new.self c.args.at c.args.bytes.now)
    c.self.view_is
    (write_time g.D.Device c.self.inside.disk c.store-outcome.new.self c.count-outcome.new.self _ _
    c.count-outcome.ensures.counted c.is_timed.ensures c.is_timed-2.ensures c.args.at c.args.bytes.now fits
    c.store-outcome.ensures)

pub returns-clause-left : goal.returns-clause-left
returns-clause-left g c =
    let fits = subst (λ (d : LogDiskValue _). c.args.at + length c.args.bytes.now ≤ length (seen_of d.memory))
    (sym c.self.view_is) c.requires in
    subst (λ (d : LogDiskValue _). WriteLeft d c.count-outcome.new.self c.args.at c.args.bytes.now) c.self.view_is
    (write_left g.D.Device c.self.inside.disk c.store-outcome.new.self c.count-outcome.new.self _ _
    c.count-outcome.ensures.counted c.is_timed.ensures c.is_timed-2.ensures c.args.at c.args.bytes.now fits
    c.store-outcome.ensures)

pub returns-clause-keeps : goal.returns-clause-keeps
returns-clause-keeps g c = λ honest.
    let fits = subst (λ (d : LogDiskValue _). c.args.at + length c.args.bytes.now ≤ length (seen_of d.memory))
    (sym c.self.view_is) c.requires in
    subst (λ (d : LogDiskValue _). WriteKeeps d c.count-outcome.new.self) c.self.view_is
    (write_keeps g.D.Device c.self.inside.disk c.store-outcome.new.self c.count-outcome.new.self _ _
    c.count-outcome.ensures.counted c.is_timed.ensures c.is_timed-2.ensures c.args.at c.args.bytes.now fits
    c.store-outcome.ensures)

pub invariant_of-self : goal.invariant_of-self
invariant_of-self g c = works_counted g.D.Device c.store-outcome.new.self c.count-outcome.new.self _
    c.unless_failed-outcome.result c.count-outcome.ensures.counted c.unless_failed-outcome.ensures.works
