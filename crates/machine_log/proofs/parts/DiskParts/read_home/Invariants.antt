use Rattle.machine_log.proofs.parts.DiskParts.read_home.Given as goal

abbrev pub ghost-with_calls : goal.ghost-with_calls
ghost-with_calls g a = g.D.Device.moment a._device.now
