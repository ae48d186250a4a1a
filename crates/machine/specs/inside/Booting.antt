-- The memory that a machine needs when it is made.
use Rattle.std.specs.Prelude.{ℕ, ◌≡◌, ◌<◌, ◌≤◌, ◌^◌, List, None}
use Rattle.volume_codec.specs.Super.{SuperValue, geometry_of}
use Rattle.frames.specs.Frames.{all_free}
use Rattle.spaces.specs.Spaces.{first_spaces}
use Rattle.shootdown.specs.Shootdown.{fresh_shootdown}
use Rattle.checkpoint.specs.Checkpoint.{fresh_checkpoint}
use Rattle.journal.specs.WriteOuts.{none_of}
use Rattle.machine.specs.declared.act.Shape.{Shape}
use Rattle.machine.specs.declared.booting.Room.{Room}

-- The numbers of a shape are possible for a machine.
pub record IsFit (shape : Shape) : Type 0 where
  pub some_processors : 0 < shape.cpus
  pub few_processors : shape.cpus ≤ 16
  pub some_entries : 0 < shape.tlb
  pub few_entries : shape.tlb ≤ 64
  pub few_frames : shape.frames < 2 ^ 32
  pub few_copies : shape.copies ≤ 64

-- The memory of a machine that was just made over a volume with this table and these lengths.
pub record IsRoom {Z : Type 0} (table : SuperValue) (lengths : List ℕ) (shape : Shape) (room : Room Z) : Type 0 where
  pub lengths_are : room.lengths.items ≡ lengths
  pub shootdown : room.shootdown ≡ fresh_shootdown shape.cpus shape.tlb
  pub spaces : room.spaces ≡ record { map = first_spaces; prepared = None }
  pub frames : room.frames ≡ all_free shape.frames shape.copies
  pub checkpoint : room.checkpoint ≡ fresh_checkpoint shape.frames
  pub write_outs : room.write_outs ≡ none_of (geometry_of table)
