-- How a batch with an open gate is finished: its records are written to their home blocks, and its gate is closed.
use Rattle.std.specs.Prelude.{◌≡◌, ◌≢◌, ◌↔◌, ◌⊎◌, ℕ, ◌+◌, ◌*◌, ◌^◌, ◌<◌, ◌≤◌, List, [], ◌∷◌}
use Rattle.std.specs.Prelude.{◌++◌, length, slice_index, Result, OnOk, is_ok, if◌then◌else◌}
use Rattle.device.specs.Count.{raised}
use Rattle.device.specs.Device.{Only, LeavesOnly}
use Rattle.device.specs.declared.device.Device.{Ghosts}
use Rattle.volume_codec.specs.Layout.{GeometryValue, gate_block, first_home}
use Rattle.volume_codec.specs.Super.{SuperValue, geometry_of}
use Rattle.volume_codec.specs.Recovery.{Batch, Recovers}
use Rattle.journal.specs.Recovered.{RecoversBy}

-- Byte `i` of a device is in no home block of its volume.
abbrev pub IsOutside : GeometryValue → ℕ → Type 0
IsOutside g i = (i < 4096 * first_home g.layout g.slots) ⊎ (4096 * g.blocks ≤ i)

-- The place of the byte that opens and closes the gate of a batch's journal.
abbrev pub gate_byte : ℕ → Batch → ℕ
gate_byte slots batch = 4096 * gate_block slots batch.journal

-- An honest device contains a volume, all of it synced. `opened` are the batches of its open journals, the newest
-- first. Its bytes recover to `contents`.
pub record HoldsVolume {D : Type 0} (disk : Ghosts D) (v : SuperValue) (opened : List Batch) (contents : ℕ → List ℕ)
    (device : D) : Type 0 where
  pub honest : disk.is_honest device
  pub recovers : RecoversBy v opened contents (disk.seen device)
  pub synced : Only (disk.may_leave device) (disk.seen device)

-- `c` recovers to `contents`, and is as long as `old`. Past the volume's blocks, `c` has the bytes of `old`.
pub record RecoversSame (v : SuperValue) (contents : ℕ → List ℕ) (old c : List ℕ) : Type 0 where
  pub recovers : Recovers v contents c
  pub same_length : length c ≡ length old
  pub past : (i : ℕ) → 4096 * (geometry_of v).blocks ≤ i → slice_index c i ≡ slice_index old i

-- The gate is closed by the byte 0. Every other byte outside the home blocks is as before.
pub record IsClosed (g : GeometryValue) (batch : Batch) (old new : List ℕ) : Type 0 where
  pub gate : slice_index new (gate_byte g.slots batch) ≡ 0
  pub others : (i : ℕ) → IsOutside g i → i ≢ gate_byte g.slots batch → slice_index new i ≡ slice_index old i

-- The number of device calls that finish a batch. Each record is read and written, the home blocks are synced, the gate
-- is closed, and that is synced.
abbrev pub finishing_calls : Batch → ℕ
finishing_calls batch = 2 * length batch.homes + 3

-- The oldest batch of a volume was finished, or a device call failed.
pub record Finishes {D T E : Type 0} (disk : Ghosts D) (g : GeometryValue) (batch : Batch) (old : D)
    (result : Result T E) (new : D) : Type 0 where
  pub finished : (v : SuperValue) (newer : List Batch) (contents : ℕ → List ℕ) → geometry_of v ≡ g
      → HoldsVolume disk v (newer ++ batch ∷ []) contents old → OnOk result (HoldsVolume disk v newer contents new)
  pub closed : disk.is_honest old → OnOk result (IsClosed g batch (disk.seen old) (disk.seen new))
  -- what a crash leaves at any moment since old
  pub time : (v : SuperValue) (newer : List Batch) (contents : ℕ → List ℕ) → geometry_of v ≡ g
      → HoldsVolume disk v (newer ++ batch ∷ []) contents old
      → LeavesOnly disk.moment disk.left_since old new (RecoversSame v contents (disk.seen old))
  pub honest : disk.is_honest new ↔ disk.is_honest old
  pub same_length : length (disk.seen new) ≡ length (disk.seen old)
  pub calls : disk.calls_made old + finishing_calls batch < 2 ^ 64
      → OnOk result (disk.calls_made new ≡ disk.calls_made old + finishing_calls batch)
  pub most : disk.calls_made old + finishing_calls batch < 2 ^ 64
      → disk.calls_made new ≤ disk.calls_made old + finishing_calls batch
  pub faults : disk.faults_met new ≡ (if is_ok result then disk.faults_met old else raised (disk.faults_met old))
