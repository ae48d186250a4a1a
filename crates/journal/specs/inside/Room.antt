-- The lists that `WriteOuts` keeps, and their memory.
use Rattle.std.specs.Prelude.{ℕ, ◌≡◌, ◌+◌, ◌<◌, ◌≤◌, Bool, true, false, List, [], ◌∷◌, ◌++◌}
use Rattle.std.specs.Prelude.{length, drop, map, Some, slice_index_or, slice_set}
use Rattle.std.specs.List.{AllByRecursion}
use Rattle.volume_codec.specs.Layout.{GeometryValue, journals_of}
use Rattle.journal.specs.declared.flushed.Flushed.{Flushed}
use Rattle.journal.specs.declared.flushed.Flushed.TheVariants.{Done}
use Rattle.journal.specs.Stage.{may_share}
use Rattle.journal.specs.WriteOut.{WriteOut, advanced_of}
use Rattle.journal.specs.inside.Queued.{QueuedWriteOut}
use Rattle.journal.specs.WriteOuts.{WriteOutsValue, is_at, moving, moved, current}
use Rattle.journal.specs.inside.Sound.{IsSound}

abbrev pub write_outs_in : List QueuedWriteOut → List WriteOut
write_outs_in queued = map (λ one. one.write_out) queued

-- The value of the write-outs that the code keeps in this list.
abbrev pub outs_of : GeometryValue → ℕ → List QueuedWriteOut → Bool → WriteOutsValue
outs_of g next queued broken = record { geometry = g; next = next; batches = write_outs_in queued; broken = broken }

-- For each write-out, the number of home blocks for which its list has memory.
abbrev pub rooms_in : List QueuedWriteOut → List ℕ
rooms_in queued = map (λ one. one.room) queued

-- There is one list of home blocks for each journal, each with room for a batch, and no list has to grow.
pub record HasRoom (outs : WriteOutsValue) (queued : List QueuedWriteOut) (list_room : ℕ) (spare : List ℕ)
    (spare_room : ℕ)
    : Type 0 where
  pub sound : IsSound outs
  pub queued_are : AllByRecursion (λ room. outs.geometry.slots ≤ room) (rooms_in queued)
  pub spare_are : AllByRecursion (λ room. outs.geometry.slots ≤ room) spare
  pub count : length queued + length spare ≡ journals_of outs.geometry.layout
  pub room : journals_of outs.geometry.layout ≤ list_room
  pub spare_fits : journals_of outs.geometry.layout ≤ spare_room

-- The current write-out (`current`) is at this place.
pub record IsCurrent (batches : List WriteOut) (at : ℕ) : Type 0 where
  pub within : at < length batches
  pub current : (d : WriteOut) → current batches ≡ Some (slice_index_or batches at d)

-- The oldest write-out with this property is at this place.
pub record IsFirst (has : WriteOut → Bool) (batches : List WriteOut) (at : ℕ) : Type 0 where
  pub within : at < length batches
  pub it : (d : WriteOut) → has (slice_index_or batches at d) ≡ true
  pub before : (i : ℕ) (d : WriteOut) → i < at → has (slice_index_or batches i d) ≡ false

-- The write-out at this place makes the next step, and no other takes part.
pub record IsLone (shares : Bool) (batches : List WriteOut) (at : ℕ) : Type 0 where
  pub within : at < length batches
  pub mover : (d : WriteOut) → moving shares batches ≡ Some (slice_index_or batches at d)
  pub after : (d : WriteOut)
      → moved shares batches ≡ slice_set batches at (advanced_of (slice_index_or batches at d))

-- The next step is a sync of all write-outs.
pub record IsJoint (shares : Bool) (batches : List WriteOut) : Type 0 where
  pub mover : (d : WriteOut) → moving shares batches ≡ Some (slice_index_or batches 0 d)
  pub syncs : (d : WriteOut) → is_at may_share (slice_index_or batches 0 d) ≡ true
  pub after : moved shares batches ≡ map advanced_of batches

-- The queued write-outs and the spare lists after a step with this answer.
abbrev pub kept_after : Flushed → List QueuedWriteOut → List QueuedWriteOut
kept_after (Done mark) queued = drop 1 queued
kept_after answer queued = queued

abbrev pub spare_after : Flushed → List QueuedWriteOut → List ℕ → List ℕ
spare_after (Done mark) (oldest ∷ newer) spare = spare ++ oldest.room ∷ []
spare_after answer queued spare = spare
