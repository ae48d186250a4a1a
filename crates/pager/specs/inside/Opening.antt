-- The memory that a new pager needs.
use Rattle.std.specs.Prelude.{ℕ, ◌≡◌, ◌≤◌, List, []}
use Rattle.std.specs.Vec.{vec_capacity}
use Rattle.volume_codec.specs.Layout.{journals_of}
use Rattle.volume_codec.specs.Super.{SuperValue, geometry_of}
use Rattle.journal.specs.WriteOuts.{none_of}
use Rattle.pager.specs.declared.opening.Room.{Room}

-- `room` is the memory for a pager over a volume with this table and these lengths.
pub record IsRoom {Z : Type 0} (table : SuperValue) (lengths : List ℕ) (room : Room Z) : Type 0 where
  pub lengths_are : room.lengths.items ≡ lengths
  pub outs : room.write_outs ≡ none_of (geometry_of table)
  pub none : room.records.items ≡ []
  pub list_room : journals_of table.layout ≤ vec_capacity room.records
  pub home_room : table.slots ≤ vec_capacity room.homes
