-- How the waiting calls of a disk are made on a device.
use Rattle.std.specs.Prelude.{◌≡◌, ◌↔◌, ℕ, ◌+◌, ◌^◌, ◌<◌, ◌≤◌, Bool, if◌then◌else◌, length}
use Rattle.device.specs.Count.{raised}
use Rattle.device.specs.Device.{LeavesOnly}
use Rattle.device.specs.Memory.{left_since_of}
use Rattle.deferred_disk.specs.Deferred.{Deferred, as_memory, carried_moment, with_waiting, IsBehind}
use Rattle.device.specs.declared.device.Device.{Ghosts}

-- The waiting calls of a disk were made on a device, in order: all of them, or up to the first that failed. Afterwards
-- `left` calls still wait.
pub record CarriedOut {D : Type 0} (device : Ghosts D) (old : D) (disk : Deferred) (done : Bool) (new : D)
    (left : ℕ) : Type 0 where
  pub fewer : left ≤ disk.waiting
  -- An honest device that was behind the disk still is. Once no call waits, both have the same bytes. A crash of the
  -- device may then leave only what a crash of the disk may.
  pub stays_behind : IsBehind device.is_honest device.seen device.may_leave old disk
      → IsBehind device.is_honest device.seen device.may_leave new (with_waiting disk left)
  -- A crash of the device since `old` leaves what a crash of the disk might have left since its oldest waiting call.
  pub time : IsBehind device.is_honest device.seen device.may_leave old disk
      → LeavesOnly device.moment device.left_since old new (left_since_of (as_memory disk) (carried_moment disk))
  pub honest : device.is_honest new ↔ device.is_honest old
  pub same_length : length (device.seen new) ≡ length (device.seen old)
  -- the number of calls that were made, and the number that failed
  pub calls : device.calls_made old + disk.waiting < 2 ^ 64
      → device.calls_made new + left ≡ device.calls_made old + disk.waiting + (if done then 0 else 1)
  pub faults : device.faults_met new ≡ (if done then device.faults_met old else raised (device.faults_met old))
