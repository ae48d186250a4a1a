-- How a device changes when open batches are carried out, one after another.
use Rattle.std.specs.Prelude.{◌≡◌, ◌≢◌, ℕ, List, [], slice_index, Result, OnOk}
use Rattle.std.specs.List.{AllByRecursion}
use Rattle.device.specs.Device.{LeavesOnly}
use Rattle.device.specs.declared.device.Device.{Ghosts}
use Rattle.volume_codec.specs.Layout.{GeometryValue}
use Rattle.volume_codec.specs.Super.{SuperValue, geometry_of}
use Rattle.volume_codec.specs.Recovery.{Batch}
use Rattle.journal.specs.Finished.{IsOutside, gate_byte, HoldsVolume, RecoversSame}
use Rattle.recovery.specs.Counts.{Rises, RisesWithin}
use Rattle.recovery.specs.inside.Reading.{carry_calls}

-- The gates of these batches are closed with the byte 0. Every other byte outside home blocks is as before.
pub record AreShut (g : GeometryValue) (batches : List Batch) (old new : List ℕ) : Type 0 where
  pub gates : AllByRecursion (λ batch. slice_index new (gate_byte g.slots batch) ≡ 0) batches
  pub others : (i : ℕ) → IsOutside g i → AllByRecursion (λ batch. i ≢ gate_byte g.slots batch) batches
      → slice_index new i ≡ slice_index old i

-- Of `all` batches, the oldest were carried out (`done`), and the others are `waiting`.
pub record IsCarrying {D : Type 0} (disk : Ghosts D) (g : GeometryValue) (all waiting done : List Batch) (start now : D)
    : Type 0 where
  pub held : (v : SuperValue) (contents : ℕ → List ℕ) → geometry_of v ≡ g → HoldsVolume disk v all contents start
      → HoldsVolume disk v waiting contents now
  pub time : (v : SuperValue) (contents : ℕ → List ℕ) → geometry_of v ≡ g → HoldsVolume disk v all contents start
      → LeavesOnly disk.moment disk.left_since start now (RecoversSame v contents (disk.seen start))
  pub shut : disk.is_honest start → AreShut g done (disk.seen start) (disk.seen now)
  pub calls : Rises (carry_calls done) (disk.calls_made start) (disk.calls_made now)

-- These batches were carried out, the oldest first, or a device call failed.
pub record CarriesOut {D T E : Type 0} (disk : Ghosts D) (g : GeometryValue) (batches : List Batch) (old : D)
    (result : Result T E) (new : D) : Type 0 where
  pub done : OnOk result (IsCarrying disk g batches [] batches old new)
  pub time : (v : SuperValue) (contents : ℕ → List ℕ) → geometry_of v ≡ g → HoldsVolume disk v batches contents old
      → LeavesOnly disk.moment disk.left_since old new (RecoversSame v contents (disk.seen old))
  pub most : RisesWithin (carry_calls batches) (disk.calls_made old) (disk.calls_made new)
