-- A disk whose writes and syncs wait for a host, as a device of a pager.
use Rattle.device.specs.declared.device.Device.{Ghosts}
use Rattle.deferred_disk.specs.Deferred.{Deferred, as_memory, carried_moment, IsSuppliedWell}
use Rattle.device.specs.Memory.{seen_of, may_leave_of, moment_of, left_since_of}

-- A disk of deferred calls, as a pager sees it. Reads and crashes are those of the disk in memory that made the calls.
-- The disk is honest as long as the host supplies each block as the disk has it.
abbrev pub deferred_disk : Ghosts Deferred
deferred_disk = record {
  seen = λ disk. seen_of (as_memory disk);
  may_leave = λ disk. may_leave_of (as_memory disk);
  moment = λ disk. moment_of (as_memory disk);
  left_since = λ disk. left_since_of (as_memory disk);
  calls_made = λ disk. disk.calls;
  faults_met = λ disk. disk.faults;
  carried = carried_moment;
  is_honest = IsSuppliedWell;
}
