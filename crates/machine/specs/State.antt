-- The state of a machine that contracts see: the states of its layers.
use Rattle.std.specs.Prelude.{ℕ, Bool, List, map, slice_index_or}
use Rattle.page_entry.specs.declared.numbers.FilePage.{FilePage}
use Rattle.volume_codec.specs.Super.{SuperValue}
use Rattle.volume_codec.specs.Text.{padded}
use Rattle.volume_codec.specs.Layout.{block_at}
use Rattle.cpu.specs.Access.{Hardware}
use Rattle.checkpoint.specs.Checkpoint.{CheckpointState}
use Rattle.journal.specs.Pages.{home_of}
use Rattle.journal.specs.WriteOuts.{WriteOutsValue}
use Rattle.history.specs.History.{part}

-- A machine without its device. `table` and `lengths` are the volume's table of files, and the length of each in bytes.
-- `hardware` has the processors with their TLBs and the lock, the address spaces and the frames. `checkpoint` records
-- which pages are dirty by notes, and which are frozen. `write_outs` has the batches that are not done. `marks` counts
-- the marks since boot. `resized` is true if a length was set since the last mark.
pub record State : Type 0 where
  pub table : SuperValue
  pub lengths : List ℕ
  pub hardware : Hardware
  pub checkpoint : CheckpointState
  pub write_outs : WriteOutsValue
  pub marks : ℕ
  pub resized : Bool

-- A machine and its device.
pub record Whole (D : Type 0) : Type 0 where
  pub state : State
  pub device : D

-- The length of a file in bytes.
abbrev pub length_of : State → ℕ → ℕ
length_of s file = slice_index_or s.lengths file 0

-- The greatest length that the file with this number may have.
abbrev pub capacity_of : State → ℕ → ℕ
capacity_of s file = slice_index_or (map (λ f. f.capacity) s.table.files) file 0

-- The bytes of a page up to its file's end, then zeros. A page's record contains these, and so does a frame when the
-- page is read in.
abbrev pub cut_at_end : State → FilePage → List ℕ → List ℕ
cut_at_end s owner bytes = padded 4096 (part s.lengths owner bytes)

-- The bytes of a page when it is read in from its home block.
abbrev pub page_from : State → List ℕ → FilePage → List ℕ
page_from s disk owner = cut_at_end s owner (block_at disk (home_of s.table owner))
