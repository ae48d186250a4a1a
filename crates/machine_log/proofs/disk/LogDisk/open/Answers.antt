use Rattle.std.proofs.Common.{Ok, subst, sym, ◌∙◌}
use Rattle.device.specs.Device.{Only}
use Rattle.device.specs.Memory.{may_leave_of, seen_of}
use Rattle.machine_log.specs.Disk.{LogDiskValue}
use Rattle.machine_log.specs.Opening.{HasOpenedDisk, IsCountedDisk, shown_bytes}
use Rattle.machine_log.proofs.OpenedDisk.{only_there, counted_disk}
use Rattle.machine_log.proofs.disk.LogDisk.open.Goals as goal

pub over-requires-clause-opened : goal.over-requires-clause-opened
over-requires-clause-opened g c = λ honest.
    let before = c.in-Ok.ensures.counted.honest.0 honest in
    let is = c.in-Ok.ensures.opened before in
    record {
      super_block = is.opened.around.super_block ∙ is.super_block.spelled;
      log = is.opened.log;
      synced = is.opened.synced;
      selected = c.in-Ok.ensures.second before;
    }

pub returns-clause-opened : goal.returns-clause-opened
returns-clause-opened g c = λ honest.
    subst (λ (disk : LogDiskValue g.row.D.Denot). HasOpenedDisk g.D.Device c.args.device disk)
    (sym c.over.ensures.value)
    (record {
      lengths = c.in-Ok.opened.lengths.items;
      opened = c.in-Ok.ensures.opened honest;
    })

pub returns-clause-files : goal.returns-clause-files
returns-clause-files g c = λ honest files to.
    let is = c.in-Ok.ensures.opened honest in
    c.over.ensures.files (c.in-Ok.ensures.counted.honest.1 honest) (g.D.Device.seen c.args.device) files
    is.super_block is.opened.recovers to

pub returns-clause-synced : goal.returns-clause-synced
returns-clause-synced g c =
    subst (λ (disk : LogDiskValue g.row.D.Denot). Only (may_leave_of disk.memory) (seen_of disk.memory))
    (sym c.over.ensures.value)
    (only_there (shown_bytes c.in-Ok.opened.table c.in-Ok-shown_table.table
    (g.D.Device.seen c.open_log_volume.new.device)))

pub returns-clause-counted : goal.returns-clause-counted
returns-clause-counted g c =
    subst (λ (disk : LogDiskValue g.row.D.Denot).
    IsCountedDisk g.D.Device c.args.device (Ok disk) disk.device) (sym c.over.ensures.value)
    (counted_disk g.D.Device c.args.device c.open_log_volume.new.device c.in-Ok.opened _ c.in-Ok.ensures.counted)
