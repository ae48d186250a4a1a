-- What a crash of the volume's device leaves, compared with what a crash of the disk might have left.
use Rattle.std.specs.Prelude.{◌≡◌, ℕ, List}
use Rattle.device.specs.Memory.{seen_of}
use Rattle.device.specs.declared.device.Device.{Ghosts}
use Rattle.machine_log.specs.Serving.{StandsFor}
use Rattle.machine_log.specs.Disk.{LogDiskValue, left_at, moment_in}
use Rattle.machine_log.specs.Made.{IsTold}

-- The bytes `c` of the device stand for (`StandsFor`) one of these lists.
abbrev pub StandsForOne : (List ℕ → Type 0) → List ℕ → Type 0
StandsForOne lists c = (w : List ℕ) × lists w × StandsFor c w

-- Let a crash of the device, since an earlier state of the disk, leave the bytes `c`. If only commits that the disk
-- made can be read from them, they stand for bytes that a crash of the disk might have left.
abbrev pub StandsSince : {D : Type 0} → Ghosts D → LogDiskValue D → LogDiskValue D → Type 0
StandsSince disk old new = (c : List ℕ) → disk.left_since new.device (disk.moment old.device) c → IsTold new c
    → StandsForOne (left_at disk.moment new (moment_in disk.moment old)) c

-- If the device is honest, all that a crash may leave of it now stands for the bytes of the disk.
abbrev pub Works : {D : Type 0} → Ghosts D → LogDiskValue D → Type 0
Works disk d = disk.is_honest d.device → (c : List ℕ) → disk.may_leave d.device c → StandsFor c (seen_of d.memory)

-- `Works` holds, unless a call of the disk has failed.
abbrev pub WorksUnlessFailed : {D : Type 0} → Ghosts D → LogDiskValue D → Type 0
WorksUnlessFailed disk d = d.memory.faults ≡ 0 → Works disk d
