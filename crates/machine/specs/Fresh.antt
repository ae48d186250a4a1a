-- A machine as boot leaves it, and the possible shapes of a machine.
use Rattle.std.specs.Prelude.{ℕ, ◌≡◌, ◌≤◌, false, List}
use Rattle.frames.specs.Frames.{all_free}
use Rattle.volume_codec.specs.Layout.{max_frames}
use Rattle.volume_codec.specs.Super.{SuperValue, geometry_of}
use Rattle.spaces.specs.Spaces.{first_spaces}
use Rattle.shootdown.specs.Shootdown.{fresh_shootdown}
use Rattle.checkpoint.specs.Checkpoint.{fresh_checkpoint}
use Rattle.journal.specs.WriteOuts.{none_of}
use Rattle.machine.specs.declared.act.Shape.{Shape}
use Rattle.machine.specs.State.{State}

-- The shapes that a machine over a volume can have.
pub record IsShape (table : SuperValue) (shape : Shape) : Type 0 where
  pub some_processors : 1 ≤ shape.cpus
  pub few_processors : shape.cpus ≤ 16
  pub some_entries : 1 ≤ shape.tlb
  pub few_entries : shape.tlb ≤ 64
  pub some_frames : 1 ≤ shape.frames
  -- A batch has a record slot for a page of each frame.
  pub few_frames : shape.frames ≤ max_frames table.layout table.slots
  pub few_copies : shape.copies ≤ 64

-- Each processor is active in space 0, which maps nothing. No page is in memory. Nothing has begun.
abbrev pub fresh : SuperValue → List ℕ → Shape → State
fresh table lengths shape = record {
  table = table;
  lengths = lengths;
  hardware = record {
    shootdown = fresh_shootdown shape.cpus shape.tlb;
    spaces = first_spaces;
    memory = all_free shape.frames shape.copies;
  };
  checkpoint = fresh_checkpoint shape.frames;
  write_outs = none_of (geometry_of table);
  marks = 0;
  resized = false;
}

-- The machine is as boot leaves it, with a shape that is possible over its volume.
pub record IsFresh (s : State) : Type 0 where
  pub shape : Shape
  pub fits : IsShape s.table shape
  pub as_booted : s ≡ fresh s.table s.lengths shape
