-- How a machine that was just made is recognized.
use Rattle.std.specs.Prelude.{◌≡◌, true, false, not, ◌&&◌, length}
use Rattle.std.specs.List.{All}
use Rattle.std.specs.FinMap as maps
use Rattle.frames.specs.Frames.{has_used}
use Rattle.shootdown.specs.Shootdown.{fresh_shootdown, processor_at}
use Rattle.checkpoint.specs.Checkpoint.{fresh_checkpoint}
use Rattle.journal.specs.WriteOuts.{none_of}
use Rattle.machine.specs.declared.act.Shape.{Shape}
use Rattle.machine.specs.State.{State}

-- A machine's numbers of processors, TLB entries, frames and copy frames.
abbrev pub shape_of : State → Shape
shape_of s = record {
  cpus = length s.hardware.shootdown.processors;
  tlb = (processor_at s.hardware.shootdown 0).tlb.capacity;
  frames = length s.hardware.memory.frames;
  copies = length s.hardware.memory.copies;
}

-- Each layer is as it was made, and space 0 is the only space.
pub record LooksFresh (s : State) : Type 0 where
  pub shootdown : s.hardware.shootdown
      ≡ fresh_shootdown (length s.hardware.shootdown.processors) (processor_at s.hardware.shootdown 0).tlb.capacity
  pub spaces : All (λ pcid. pcid ≡ 0) (maps.keys s.hardware.spaces)
  pub memory : (not (has_used s.hardware.memory.frames) && not (has_used s.hardware.memory.copies)) ≡ true
  pub checkpoint : s.checkpoint ≡ fresh_checkpoint (length s.checkpoint.notes)
  pub write_outs : s.write_outs ≡ none_of s.write_outs.geometry
  pub marks : s.marks ≡ 0
  pub resized : s.resized ≡ false
