-- The disk over a volume with a log.
use Rattle.std.specs.Prelude.{◌≡◌, ℕ, ◌+◌, ◌*◌, ◌≤◌, List, ◌∷◌}
use Rattle.std.specs.List.{AllByRecursion}
use Rattle.device.specs.declared.device.Device.{Ghosts}
use Rattle.device.specs.Memory.{Recorded, left_since_of, may_leave_of, moment_of, seen_of}
use Rattle.volume_codec.specs.Super.{SuperValue}
use Rattle.log_codec.specs.declared.start.LogStart.{LogStart}
use Rattle.log_volume.specs.Super.{LogSuperValue}

-- The volume's device, the volume's super block, the super block that the disk shows, and the start that the opening
-- wrote. To its users, the disk is a disk in memory that recorded its calls in `memory`. `moments` pairs the moments so
-- far: one of the disk, and one of the device.
pub record LogDiskValue (D : Type 0) : Type 0 where
  pub device : D
  pub volume : LogSuperValue
  pub table : SuperValue
  pub log_start : LogStart
  pub memory : Recorded
  pub moments : List (ℕ × ℕ)

-- One number for a moment of the disk and a moment of the device. Different pairs have different numbers.
abbrev pub joint_moment : ℕ → ℕ → ℕ
joint_moment u r = (u + r) * (u + r) + r

-- What a crash since this moment might have left of the disk. If `t` isn't the number of a moment, any bytes are
-- allowed.
abbrev pub left_at : {D : Type 0} → (D → ℕ) → LogDiskValue D → ℕ → List ℕ → Type 0
left_at moment disk t w = AllByRecursion
    (λ m. joint_moment m.0 m.1 ≡ t → m.0 ≤ moment_of disk.memory → left_since_of disk.memory m.0 w)
    ((moment_of disk.memory, moment disk.device) ∷ disk.moments)

abbrev pub moment_in : {D : Type 0} → (D → ℕ) → LogDiskValue D → ℕ
moment_in moment disk = joint_moment (moment_of disk.memory) (moment disk.device)

-- The disk as a device, over another device. It is honest if that device is.
abbrev pub shown_by : {D : Type 0} → Ghosts D → Ghosts (LogDiskValue D)
shown_by disk = record {
  seen = λ shown. seen_of shown.memory;
  may_leave = λ shown. may_leave_of shown.memory;
  moment = moment_in disk.moment;
  left_since = left_at disk.moment;
  calls_made = λ shown. shown.memory.calls;
  faults_met = λ shown. shown.memory.faults;
  carried = λ shown. 0;
  is_honest = λ shown. disk.is_honest shown.device;
}
