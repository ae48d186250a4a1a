use Rattle.machine_log.proofs.parts.DiskParts.write_block.Given as goal

abbrev pub ghost-with_write : goal.ghost-with_write
ghost-with_write g a = g.D.Device.moment a._device.now
