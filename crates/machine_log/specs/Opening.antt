-- How a volume with a log is opened as a disk.
use Rattle.std.specs.Prelude.{⊤, ◌≡◌, ◌↔◌, ℕ, ◌-◌, ◌*◌, List, [], ◌∷◌, ◌++◌, length, take, drop, Result, Ok, Err}
use Rattle.device.specs.declared.device.Device.{Ghosts}
use Rattle.device.specs.Memory.{new_disk}
use Rattle.page_entry.specs.declared.refusal.Refusal.{Refusal}
use Rattle.page_entry.specs.declared.refusal.Refusal.TheVariants.{BadShape, OutOfMemory}
use Rattle.volume_codec.specs.Layout.{block_at, first_home}
use Rattle.volume_codec.specs.Super.{SuperValue, block_count, super_text}
use Rattle.volume_codec.specs.Text.{padded}
use Rattle.log_codec.specs.declared.start.LogStart.{LogStart}
use Rattle.log_codec.specs.Log.{first_log_home}
use Rattle.log_volume.specs.Super.{LogSuperValue, IsLogSuper}
use Rattle.log_opening.specs.Opening.{HasFaults}
use Rattle.log_opening.specs.Volume.{HasOpenedVolume, RefusesVolume}
use Rattle.machine_log.specs.Serving.{IsShownTable}
use Rattle.machine_log.specs.Disk.{LogDiskValue}

-- `n` bytes: the first of these bytes, then zeros if there are fewer.
abbrev pub fitted : ℕ → List ℕ → List ℕ
fitted n bytes = padded n (take n bytes)

-- The bytes of the disk that shows these bytes: its super block, zeros up to its home blocks, then the home blocks of
-- the volume.
abbrev pub shown_bytes : LogSuperValue → SuperValue → List ℕ → List ℕ
shown_bytes v t bytes =
    padded (4096 * first_home t.layout t.slots) (super_text t)
    ++ fitted (4096 * (block_count t - first_home t.layout t.slots)) (drop (4096 * first_log_home v.ring) bytes)

-- The disk over this device before its first call. It shows the bytes of the device, and all of it is synced.
abbrev pub opened_disk : {D : Type 0} → Ghosts D → LogSuperValue → SuperValue → LogStart → D → LogDiskValue D
opened_disk disk v t start device = record {
  device = device;
  volume = v;
  table = t;
  log_start = start;
  memory = new_disk (shown_bytes v t (disk.seen device));
  moments = (0, disk.moment device) ∷ [];
}

-- The device `old` was opened, and the disk `new` is over it.
pub record HasOpenedDisk {D : Type 0} (disk : Ghosts D) (old : D) (new : LogDiskValue D) : Type 0 where
  pub lengths : List ℕ
  pub opened : HasOpenedVolume disk old new.volume lengths new.log_start new.device

-- A device was opened, and the disk `shown` shows its volume.
pub record HasShown {D : Type 0} (disk : Ghosts D) (before : D) (shown : LogDiskValue D) : Type 0 where
  pub opened : disk.is_honest before → HasOpenedDisk disk before shown
  pub fresh : shown ≡ opened_disk disk shown.volume shown.table shown.log_start shown.device
  pub table : IsShownTable shown.volume shown.table

-- The result of an opening, and the device that it leaves.
abbrev pub disk_result : {D : Type 0} → Result (LogDiskValue D) (Refusal × D) → Result (LogDiskValue D) Refusal
disk_result (Ok disk) = Ok disk
disk_result (Err refused) = Err refused.0

abbrev pub disk_leaves : {D : Type 0} → Result (LogDiskValue D) (Refusal × D) → D
disk_leaves (Ok disk) = disk.device
disk_leaves (Err refused) = refused.1

-- Why no disk shows a volume: the disk would have too many blocks, or memory was refused.
abbrev pub RefusesShown : LogSuperValue → Refusal → Type 0
RefusesShown v BadShape = (t : SuperValue) → IsShownTable v t → ⊥
RefusesShown v OutOfMemory = ⊤
RefusesShown v _ = ⊥

-- Why a device with these bytes isn't opened as a disk: no disk can show its volume, or the volume isn't opened.
abbrev pub RefusesDisk : List ℕ → Refusal → Type 0
RefusesDisk bytes BadShape =
    (v : LogSuperValue) × IsLogSuper v (block_at bytes 0) × ((t : SuperValue) → IsShownTable v t → ⊥)
RefusesDisk bytes refusal = RefusesVolume bytes refusal

-- The number of failed calls rose from `old` to `new` as the result requires. If no disk can show the volume, no call
-- failed.
abbrev pub HasDiskFaults : {X : Type 0} → ℕ → ℕ → Result X Refusal → Type 0
HasDiskFaults old new (Err BadShape) = new ≡ old
HasDiskFaults old new result = HasFaults old new result

-- The device is as long and as honest as before, and the number of its failed calls agrees with the result.
pub record IsCountedDisk {D X : Type 0} (disk : Ghosts D) (old : D) (result : Result X Refusal) (new : D)
    : Type 0 where
  pub honest : disk.is_honest new ↔ disk.is_honest old
  pub same_length : length (disk.seen new) ≡ length (disk.seen old)
  pub carried : disk.carried new ≡ disk.carried old
  pub faults : HasDiskFaults (disk.faults_met old) (disk.faults_met new) result
