use Rattle.std.proofs.Common.{ℕ, List, subst, sym, arith}
use Rattle.device.specs.Memory.{may_leave_of}
use Rattle.log_codec.specs.declared.sealing.Sealing.{Sealing}
use Rattle.log_volume.specs.Super.{log_of}
use Rattle.log_commits.specs.Told.{TellsTornBy}
use Rattle.machine_log.specs.Disk.{LogDiskValue}
use Rattle.machine_log.specs.Laws.{StandsForOne}
use Rattle.machine_log.specs.Made.{IsCommitOf, IsTold}
use Rattle.machine_log.specs.inside.Times.{since_now}
use Rattle.machine_log.proofs.disk.LogDisk.crashes_alike.Goals as goal

pub returns-clause-now : goal.returns-clause-now
returns-clause-now g c =
    let below = g.D.Device in
    subst (λ (d : LogDiskValue _). below.is_honest d.device → (list : List ℕ) → below.may_leave d.device list
    → IsTold d list → StandsForOne (may_leave_of d.memory) list) c.self.view_is
    (λ honest list left told.
    let disk = c.self.inside.disk in
    let since = g.met.D.Device.now_is_since disk.device (below.moment disk.device) list (omega arith) left in
    let stood = c.crashes_alike.ensures honest disk list since told in
    (stood.0, since_now below.moment disk stood.0 stood.1, stood.2))

pub returns-clause-byte : goal.returns-clause-byte
returns-clause-byte g c = λ byte list.
    let disk = c.args.self.now in
    subst (λ (s : Sealing). TellsTornBy s (IsCommitOf disk) (log_of disk.volume) disk.log_start.number list) (sym byte)
    tt
