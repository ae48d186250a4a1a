-- The commits that a disk made to the log. Each of the disk's writes that opens a gate makes one.
use Rattle.std.specs.Prelude.{◌≡◌, ℕ, ◌+◌, ◌*◌, ◌==◌, ◌&&◌, if◌then◌else◌, Bool, false}
use Rattle.std.specs.Prelude.{List, [], ◌∷◌, ◌++◌, length, map, slice_index}
use Rattle.device.specs.Memory.{DiskChange, content_after}
use Rattle.device.specs.Memory.DiskChange.{write, sync}
use Rattle.volume_codec.specs.Layout.{blocks_at, gate_block, record_block}
use Rattle.volume_codec.specs.Recovery.{Batch, IsOpenBatch}
use Rattle.volume_codec.specs.Super.{SuperValue, geometry_of}
use Rattle.log_codec.specs.Commit.{LogDescriptor}
use Rattle.log_volume.specs.Super.{LogSuperValue, log_of}
use Rattle.log_commits.specs.Told.{TellsTorn}
use Rattle.machine_log.specs.Serving.{volume_home}
use Rattle.machine_log.specs.Disk.{LogDiskValue}

-- Whether a change opens a gate: it writes the single byte 0xA7. The disk writes single bytes only to gates.
abbrev pub opens_gate : DiskChange → Bool
opens_gate (write at bytes) = (length bytes == 1) && (slice_index bytes 0 == 0xA7)
opens_gate sync = false

-- The number of these changes that open a gate.
abbrev pub gates_opened : List DiskChange → ℕ
gates_opened [] = 0
gates_opened (change ∷ older) = gates_opened older + (if opens_gate change then 1 else 0)

-- The write that opens the gate of a batch.
abbrev pub gate_write : SuperValue → Batch → DiskChange
gate_write t batch = write (4096 * gate_block t.slots batch.journal) (0xA7 ∷ [])

-- The home blocks of the volume that correspond to those of a batch.
abbrev pub batch_homes : LogSuperValue → SuperValue → Batch → List ℕ
batch_homes v t batch = map (volume_home v t) batch.homes

-- The records of a batch, in bytes of the disk.
abbrev pub batch_records : SuperValue → Batch → List ℕ → List ℕ
batch_records t batch bytes = blocks_at bytes (record_block t.slots batch.journal 0) (length batch.homes)

-- `d` is a commit that the disk made with these records: the disk opened the gate of this batch. The first such commit
-- has the number of the start that the opening wrote.
pub record IsCommitOf {D : Type 0} (disk : LogDiskValue D) (d : LogDescriptor) (records : List ℕ) : Type 0 where
  pub batch : Batch
  pub newer : List DiskChange
  pub older : List DiskChange
  pub opened : disk.memory.changes ≡ newer ++ gate_write disk.table batch ∷ older
  pub says : IsOpenBatch (geometry_of disk.table)
      (content_after disk.memory.first (gate_write disk.table batch ∷ older)) batch
  pub number : d.number ≡ disk.log_start.number + gates_opened older
  pub homes : d.homes ≡ batch_homes disk.volume disk.table batch
  pub records_are : records
      ≡ batch_records disk.table batch (content_after disk.memory.first (gate_write disk.table batch ∷ older))

-- The premise on bytes that a crash left of the device: the disk made each commit since the opening that can be read
-- from them. If a byte seals, there is no premise.
abbrev pub IsTold : {D : Type 0} → LogDiskValue D → List ℕ → Type 0
IsTold disk c = TellsTorn (IsCommitOf disk) (log_of disk.volume) disk.log_start.number c
