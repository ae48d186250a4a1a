use Rattle.machine_log.proofs.parts.DiskParts.settle.Given as goal

abbrev pub ghost-with_sync : goal.ghost-with_sync
ghost-with_sync g a = g.D.Device.moment a._device.now
