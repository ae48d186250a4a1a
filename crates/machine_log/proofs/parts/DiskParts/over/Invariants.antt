use Rattle.machine_log.specs.Opening.{shown_bytes}
use Rattle.machine_log.proofs.parts.DiskParts.over.Given as goal

abbrev pub ghost-begin : goal.ghost-begin
ghost-begin g a = (
  shown_bytes a._volume.now a._table.now (g.D.Device.seen a._device.now),
  g.D.Device.moment a._device.now,
)
