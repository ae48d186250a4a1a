-- What keeps stores from a page that is being written out, and what the pages contain that a mark does not gather.
use Rattle.std.specs.Prelude.{ℕ, nat_le, ◌≡◌, ◌*◌, ◌<◌, true, false, List, [], length, map, drop, Some, if◌then◌else◌}
use Rattle.std.specs.List.{All, flat_map, filter}
use Rattle.page_entry.specs.Entry.{Mapped}
use Rattle.page_entry.specs.declared.numbers.FilePage.{FilePage}
use Rattle.volume_codec.specs.Layout.{first_file_home}
use Rattle.volume_codec.specs.Super.{SuperValue}
use Rattle.volume_codec.specs.Recovery.{Recovers}
use Rattle.journal.specs.Pages.{home_of}
use Rattle.journal.specs.WriteOuts.{WriteOutsValue}
use Rattle.spaces.specs.Spaces.{entry_at}
use Rattle.shootdown.specs.Shootdown.{processor_at}
use Rattle.shootdown.specs.Coherence.{IsUsable}
use Rattle.checkpoint.specs.Checkpoint.{Holds, is_held}
use Rattle.machine.specs.State.{State, length_of}
use Rattle.history.specs.History.{part}

-- The home blocks with records that are not written yet.
abbrev pub waiting_homes : WriteOutsValue → List ℕ
waiting_homes outs = flat_map (λ w. drop w.steps w.batch.homes) outs.batches

-- Of these home blocks, those of pages. The others contain lengths.
abbrev pub file_homes : SuperValue → List ℕ → List ℕ
file_homes table homes = filter (nat_le (first_file_home table.layout table.slots)) homes

-- The home blocks of the frozen pages are those that wait for their records. A broken machine has no frozen pages.
abbrev pub frozen_homes : State → List ℕ
frozen_homes s = if s.write_outs.broken then [] else file_homes s.table (waiting_homes s.write_outs)

-- No page-table entry of the page is writable, nor any entry that a processor has cached and may still use.
pub record IsProtected (s : State) (owner : FilePage) : Type 0 where
  pub entries : (pcid page : ℕ) (entry : Mapped) → entry_at s.hardware.spaces pcid page ≡ Some entry
      → Holds s.hardware.memory entry.frame owner → entry.writable ≡ false
  pub cached : (p : ℕ) → p < length s.hardware.shootdown.processors
      → All (λ e. IsUsable (processor_at s.hardware.shootdown p) e → Holds s.hardware.memory e.frame owner
      → e.writable ≡ false) (processor_at s.hardware.shootdown p).tlb.entries

-- The frozen pages are those with records that wait to be written. There are none after a call of a write-out has
-- failed. Each is protected until its bytes are copied.
pub record AreFrozenProtected (s : State) : Type 0 where
  pub waiting : map (home_of s.table) s.checkpoint.frozen ≡ frozen_homes s
  pub protected : (owner : FilePage) → is_held s.hardware.memory s.checkpoint owner ≡ true → IsProtected s owner

-- The page belongs to a file, and begins before the file's end.
pub record IsInFile (s : State) (owner : FilePage) : Type 0 where
  pub there : owner.file < length s.table.files
  pub inside : 4096 * owner.page < length_of s owner.file

-- The bytes of a page up to its file's end.
abbrev pub within_file : State → FilePage → List ℕ → List ℕ
within_file s owner bytes = part s.lengths owner bytes

-- The list `c` recovers to contents in which this page has these bytes, up to its file's end.
pub record HasPart (s : State) (owner : FilePage) (bytes c : List ℕ) : Type 0 where
  pub contents : ℕ → List ℕ
  pub recovers : Recovers s.table contents c
  pub same : within_file s owner (contents (home_of s.table owner)) ≡ within_file s owner bytes
