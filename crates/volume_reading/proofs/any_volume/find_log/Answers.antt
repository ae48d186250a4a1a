use Rattle.volume_reading.proofs.Volumes.{only_read, by_log, by_fault}
use Rattle.volume_reading.proofs.any_volume.find_log.Goals as goal

pub returns-in-Err-clause-refused : goal.returns-in-Err-clause-refused
returns-in-Err-clause-refused g c = λ honest.
    by_log (g.D.Device.seen c.args.device.now) c.in-Err.refusal (c.requires.other honest)
    (c.in-Err.ensures.refused honest)

pub returns-in-Err-clause-read : goal.returns-in-Err-clause-read
returns-in-Err-clause-read g c = only_read _ _ _ c.in-Err.ensures.read

pub returns-in-Err-clause-counted : goal.returns-in-Err-clause-counted
returns-in-Err-clause-counted g c = by_fault _ _ c.in-Err.refusal c.in-Err.ensures.faults

pub returns-in-Ok-clause-read : goal.returns-in-Ok-clause-read
returns-in-Ok-clause-read g c = only_read _ _ _ c.in-Ok.ensures.read

pub returns-in-Ok-clause-sound : goal.returns-in-Ok-clause-sound
returns-in-Ok-clause-sound g c = record { log = c.in-Ok.ensures.log; lengths = c.in-Ok.ensures.lengths }
