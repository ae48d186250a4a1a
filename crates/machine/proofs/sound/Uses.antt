-- What a sound machine gives to those who work on its parts: the conditions of their calls.
use Rattle.machine.proofs.Names.{ℕ, ◌≡◌, ◌+◌, ◌<◌, Bool, List, length, Some, IsSome, sym, subst, arith, ◌/◌, Ok}
use Rattle.machine.proofs.Names.{AllByRecursion, recursion_from_All, Mapped, FilePage, Place, frame_at, GeometryValue}
use Rattle.machine.proofs.Names.{AreHomes, WriteOut, entry_at, CheckpointState, Gathers, HasNotes, HasNotes-backed}
use Rattle.machine.proofs.Names.{place_of_fault, IsReachable, State, IsSound}
use Rattle.shootdown.specs.Shootdown.{current as current_space}
use Rattle.machine.proofs.sound.Frames.{in_use}
use Rattle.machine.proofs.refining.Faults.{led_to}
use Rattle.machine.proofs.Names.{mark_homes}
use Rattle.machine.proofs.sound.Homes.{mark_homes_are}
use Rattle.machine.proofs.sound.ByMark.{gathered_there}

module _ (s : State) (sound : IsSound s) where
  -- ---- accesses and notes

  -- the frame of an entry is in use
  pub entry_frame_used : (pcid page : ℕ) (entry : Mapped) → entry_at s.hardware.spaces pcid page ≡ Some entry
      → IsSome (frame_at s.hardware.memory entry.frame)
  entry_frame_used pcid page entry present = let is = sound.memory.backed pcid page entry present in
      in_use (frame_at s.hardware.memory entry.frame) _ is.held

  pub reachable : IsReachable s.hardware
  reachable = record { coheres = sound.spaces.coheres; in_use = entry_frame_used }

  -- and has a note
  pub has_notes : HasNotes s.hardware.spaces (length s.checkpoint.notes)
  has_notes = HasNotes-backed s.hardware.memory s.checkpoint s.hardware.spaces
      (length s.checkpoint.notes) sound.memory.notes sound.memory.backed

  -- ---- changes

  -- ---- home blocks

  -- a fault that leads to a place leads to a file of the table
  pub fault_file : (p va : ℕ) (write : Bool) (place : Place)
      → place_of_fault s.hardware.spaces (current_space s.hardware.shootdown p) va write ≡ Ok place
      → place.file < length s.table.files
  fault_file p va write place leads =
      sound.spaces.in_table (current_space s.hardware.shootdown p) (va / 4096) place
      (led_to s.hardware.spaces (current_space s.hardware.shootdown p) va write place leads).mapped

  -- the home blocks that a mark writes make a batch, if there are any
  pub batch_homes : (noted : CheckpointState) (freezes : Bool) (pages : List FilePage)
      → Gathers s.hardware.spaces s.hardware.memory s.checkpoint noted freezes pages → 0 < length (mark_homes s pages)
      → AreHomes s.write_outs.geometry (mark_homes s pages)
  batch_homes noted freezes pages gathers some =
      let there = gathered_there s noted freezes pages sound.memory gathers in
      subst (λ (g : GeometryValue). AreHomes g (mark_homes s pages)) (sym sound.write_outs.geometry)
      (mark_homes_are s pages sound gathers.gathered.rising some there.1 there.0)

  -- and its mark is above those of the batches that aren't done
  pub newest_mark : AllByRecursion (λ w. w.batch.mark < s.marks + 1) s.write_outs.batches
  newest_mark = recursion_from_All (λ (w : WriteOut). w.batch.mark < s.marks + 1) s.write_outs.batches
      (λ k d within. omega (arith, (sound.write_outs.marked k d within).1))
