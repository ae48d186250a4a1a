use Rattle.std.proofs.Common.{refl}
use denote.Param.Send.{sendable}
use Rattle.commands.proofs.Crossing.{disk_send}
use Rattle.commands.proofs.threading.trace_log.Goals as goal

pub trace_disk-requires-send-D : goal.trace_disk-requires-send-D
trace_disk-requires-send-D g c κs within = search (disk_send, sendable)

pub returns-in-Ok-trace_disk-clause-ran : goal.returns-in-Ok-trace_disk-clause-ran
returns-in-Ok-trace_disk-clause-ran g c = rw c.ran_on_device.ensures (record {
  shown = c.in-Ok.disk;
  last = c.in-Ok-trace_disk.ran.device;
  is_shown = record {
    opened = c.in-Ok.ensures.opened;
    fresh = c.in-Ok.ensures.fresh;
    table = c.in-Ok.ensures.shown;
  };
  ran = c.in-Ok-trace_disk.ensures.ran;
  ended = refl;
  within = λ honest. c.crashes_alike.ensures.since honest c.in-Ok.disk;
  later = c.crashes_alike.ensures.now;
})

pub returns-in-Ok-trace_disk-clause-programs : goal.returns-in-Ok-trace_disk-clause-programs
returns-in-Ok-trace_disk-clause-programs g c = rw c.ran_on_device.ensures c.in-Ok-trace_disk.ensures.programs
