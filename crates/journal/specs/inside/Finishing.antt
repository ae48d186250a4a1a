-- How far the batch of an open journal is finished.
use Rattle.std.specs.Prelude.{◌≡◌, ◌≢◌, ◌↔◌, ℕ, ◌+◌, ◌*◌, ◌^◌, ◌<◌, ◌≤◌, List, [], ◌∷◌, ◌++◌, length, slice_index}
use Rattle.std.specs.Option.{option_map_or}
use Rattle.device.specs.Device.{Only, LeavesOnly}
use Rattle.device.specs.declared.device.Device.{Ghosts}
use Rattle.volume_codec.specs.Layout.{GeometryValue, descriptor_blocks}
use Rattle.volume_codec.specs.Super.{SuperValue, geometry_of}
use Rattle.volume_codec.specs.Recovery.{Batch}
use Rattle.journal.specs.WriteOut.{WriteOut, after_steps, committing_steps, all_steps, next_stage, calls_in_steps}
use Rattle.journal.specs.Finished.{IsOutside, gate_byte, HoldsVolume, RecoversSame, finishing_calls}
use Rattle.journal.specs.inside.Queued.{committed_in}
use Rattle.journal.specs.inside.Tied.{IsTied}

-- The write-outs of these batches of open journals: each is committed and isn't applied yet. The batches are listed
-- with the newest first, the write-outs with the oldest first.
abbrev pub found_in : ℕ → List Batch → List WriteOut
found_in slots [] = []
found_in slots (batch ∷ older) = found_in slots older ++ committed_in slots batch ∷ []

-- The oldest write-out followed by the newer ones, or only these once the oldest is done.
abbrev pub left_of : WriteOut → List WriteOut → List WriteOut
left_of w newer = option_map_or (λ stage. w ∷ newer) (next_stage w) newer

-- `batch` is being finished, in a volume that the device contained at `start`. `now` is the device after the first
-- `steps` steps of the batch's write-out, counted with those that committed it.
pub record IsOnWay {D : Type 0} (disk : Ghosts D) (v : SuperValue) (newer : List Batch) (contents : ℕ → List ℕ)
    (batch : Batch) (steps : ℕ) (start now : D) : Type 0 where
  pub tied : IsTied v (left_of (after_steps v.slots batch steps) (found_in v.slots newer)) contents contents
      (disk.seen now) (disk.may_leave now)
  pub length_left : (c : List ℕ) → disk.may_leave now c → length c ≡ length (disk.seen start)
  pub past : (c : List ℕ) → disk.may_leave now c
      → (i : ℕ) → 4096 * (geometry_of v).blocks ≤ i → slice_index c i ≡ slice_index (disk.seen start) i
  pub synced : all_steps v.slots batch ≤ steps → Only (disk.may_leave now) (disk.seen now)
  pub time : LeavesOnly disk.moment disk.left_since start now (RecoversSame v contents (disk.seen start))

-- `now` is the device after the first `steps` steps of the batch's write-out, counted with those that committed it. No
-- device call failed since `start`.
pub record IsUnderWay {D : Type 0} (disk : Ghosts D) (g : GeometryValue) (batch : Batch) (steps : ℕ) (start now : D)
    : Type 0 where
  pub on_way : (v : SuperValue) (newer : List Batch) (contents : ℕ → List ℕ) → geometry_of v ≡ g
      → HoldsVolume disk v (newer ++ batch ∷ []) contents start → IsOnWay disk v newer contents batch steps start now
  pub closed : disk.is_honest start → 2 * length batch.homes + descriptor_blocks g.slots + 5 ≤ steps
      → slice_index (disk.seen now) (gate_byte g.slots batch) ≡ 0
  pub others : disk.is_honest start → (i : ℕ) → IsOutside g i → i ≢ gate_byte g.slots batch
      → slice_index (disk.seen now) i ≡ slice_index (disk.seen start) i
  pub honest : disk.is_honest now ↔ disk.is_honest start
  pub same_length : length (disk.seen now) ≡ length (disk.seen start)
  pub calls : disk.calls_made start + finishing_calls batch < 2 ^ 64
      → disk.calls_made now + committing_steps g.slots batch
      ≡ disk.calls_made start + calls_in_steps g batch steps
  pub faults : disk.faults_met now ≡ disk.faults_met start
