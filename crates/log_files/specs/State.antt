-- What contracts see of the files of a volume with a log.
use Rattle.std.specs.Prelude.{ℕ, ◌+◌, ◌-◌, ◌&&◌, nat_le, if◌then◌else◌, Bool, List, [], length}
use Rattle.std.specs.Prelude.{is_some, is_none, false}
use Rattle.page_entry.specs.declared.numbers.FilePage.{FilePage}
use Rattle.volume_codec.specs.Super.{first_home_of}
use Rattle.journal.specs.Pages.{home_of}
use Rattle.kept_blocks.specs.Blocks.{Blocks, bytes_in}
use Rattle.log_codec.specs.declared.start.LogStart.{LogStart}
use Rattle.log_codec.specs.Log.{first_log_home}
use Rattle.log_volume.specs.Super.{LogSuperValue, table_of, log_of}
use Rattle.log_commits.specs.Tail.{tail_at}
use Rattle.log_store.specs.Store.{fresh_store}
use Rattle.log_pager.specs.Pager.{LogPagerValue}

-- The files of a volume with a log. `table` is the table of files, and `lengths` has the length of each in bytes.
-- `most` is the number of file pages that a commit takes at most. `marks` is the number of commits since the opening.
-- `pager` has the blocks that were put since the last commit (the staged blocks), and the device.
pub record LogFilesState (D : Type 0) : Type 0 where
  pub table : LogSuperValue
  pub lengths : List ℕ
  pub most : ℕ
  pub marks : ℕ
  pub pager : LogPagerValue D

-- The first home block of a file, and the home block of a page. Compared with the table's own numbers, they follow the
-- blocks of the log and one block for the lengths.
abbrev pub log_first_home_of : LogSuperValue → ℕ → ℕ
log_first_home_of v file = first_home_of (table_of v) file + (v.ring + 1)

abbrev pub log_home_of : LogSuperValue → FilePage → ℕ
log_home_of v owner = home_of (table_of v) owner + (v.ring + 1)

-- The number of staged pages of files: all staged blocks except the block of the lengths.
abbrev pub pages_put : LogSuperValue → Blocks → ℕ
pages_put v staged = length staged - (if is_some (bytes_in staged (first_log_home v.ring)) then 1 else 0)

-- Whether the next commit takes no further page: this home block is not staged, and the staged pages have reached the
-- limit.
abbrev pub takes_no_page : LogSuperValue → ℕ → Blocks → ℕ → Bool
takes_no_page v most staged home = is_none (bytes_in staged home) && nat_le most (pages_put v staged)

-- The state right after a volume was opened. `start` is the start of its log. If `second` is true, it is the second of
-- the two starts.
abbrev pub fresh_log_files : {D : Type 0} → LogSuperValue → List ℕ → ℕ → LogStart → Bool → D → LogFilesState D
fresh_log_files table lengths most start second device = record {
  table = table;
  lengths = lengths;
  most = most;
  marks = 0;
  pager = record { store = fresh_store (tail_at (log_of table) start false) second; staged = []; device = device };
}

-- The state with these staged blocks, and the state with this device.
abbrev pub with_staged : {D : Type 0} → LogFilesState D → Blocks → LogFilesState D
with_staged s staged = record s { pager = record s.pager { staged = staged } }

abbrev pub on_device : {D : Type 0} → LogFilesState D → D → LogFilesState D
on_device s device = record s { pager = record s.pager { device = device } }
