-- The history of a run: stores, changes of length, marks and acknowledgements, in order. Its effect is the memory and
-- the files after it. See Park, Kelly and Shen 2013: an msync has its whole effect or none.
use Rattle.std.specs.Prelude.{ℕ, ◌+◌, ◌-◌, ◌*◌, ◌/◌, ◌%◌, ◌==◌, ◌≡◌, nat_lt, nat_le, min, Bool, true, false, ◌&&◌}
use Rattle.std.specs.Prelude.{◌⊎◌, if◌then◌else◌, List, [], ◌∷◌, ◌++◌, length, map, take, drop, slice_set, Contains}
use Rattle.std.specs.Prelude.{slice_index_or}
use Rattle.std.specs.List.{fold, list_any}
use Rattle.page_entry.specs.declared.numbers.FilePage.{FilePage}
use Rattle.volume_codec.specs.Files.{File}
use Rattle.volume_codec.specs.Text.{padded}
use Rattle.volume_codec.specs.Super.{pages_of}
use Rattle.volume_codec.specs.Recovery.{blocks_from}
use Rattle.device.specs.Device.{written}

-- the 4,096 bytes of each page of each file
abbrev pub Memory : Type 0
Memory = ℕ → ℕ → List ℕ

-- A page of these bytes, with zeros after their end.
abbrev pub page_of : List ℕ → ℕ → List ℕ
page_of bytes page = padded 4096 (take 4096 (drop (4096 * page) bytes))

-- The bytes of the file with this number.
abbrev pub file_bytes : List File → ℕ → List ℕ
file_bytes [] file = []
file_bytes (f ∷ fs) file = if file == 0 then f.bytes else file_bytes fs (file - 1)

-- The memory with these files: the bytes of each file, and zeros after its end.
abbrev pub memory_of : List File → Memory
memory_of files file page = page_of (file_bytes files file) page

-- The bytes of a page up to its file's end. `lengths` are the lengths of the files.
abbrev pub part : List ℕ → FilePage → List ℕ → List ℕ
part lengths owner bytes = take (slice_index_or lengths owner.file 0 - 4096 * owner.page) bytes

-- the first n bytes of these pages, one page after the other
abbrev pub bytes_of_pages : (ℕ → List ℕ) → ℕ → List ℕ
bytes_of_pages pages n = take n (blocks_from pages 0 (pages_of n))

-- These files with the lengths `lengths`, and with their bytes from `memory`. `file` is the number of the first one.
-- Bytes in the last page after the file's end aren't part of the file (POSIX).
abbrev pub files_from_memory : ℕ → List File → List ℕ → Memory → List File
files_from_memory file (f ∷ fs) (n ∷ lengths) memory =
    record { name = f.name; bytes = bytes_of_pages (memory file) n; capacity = f.capacity }
    ∷ files_from_memory (file + 1) fs lengths memory
files_from_memory file files lengths memory = []

-- the length of each of these files
abbrev pub lengths_of : List File → List ℕ
lengths_of files = map (λ f. length f.bytes) files

-- An event of a history.
-- - Store: bytes were stored at this offset of a file.
-- - SetLength: the length of a file changed, and the file's bytes from the smaller length on became zeros.
-- - Mark: all stores and changes of length so far belong to this mark.
-- - Acknowledge: this mark was acknowledged, so it is durable.
pub data Event : Type 0 where
  Store : (file offset : ℕ) (bytes : List ℕ) → Event
  SetLength : (file from to : ℕ) → Event
  Mark : (number : ℕ) → Event
  Acknowledge : (number : ℕ) → Event

-- The memory after one store. A store lies inside one page.
abbrev pub stored : Memory → ℕ → ℕ → List ℕ → Memory
stored memory file offset bytes =
    λ f p. if f == file && p == offset / 4096 then written (memory f p) (offset % 4096) bytes else memory f p

-- The memory after the bytes of a file from `end` on became zeros.
abbrev pub cut_file : Memory → ℕ → ℕ → Memory
cut_file memory file end =
    λ f p. if f == file then padded 4096 (take (end - 4096 * p) (memory f p)) else memory f p

-- the memory after a history
abbrev pub after : Memory → List Event → Memory
after memory [] = memory
after memory (Store file offset bytes ∷ events) = after (stored memory file offset bytes) events
after memory (SetLength file from to ∷ events) = after (cut_file memory file (min from to)) events
after memory (Mark number ∷ events) = after memory events
after memory (Acknowledge number ∷ events) = after memory events

-- The lengths after one event, and those after a history.
abbrev pub with_length : List ℕ → Event → List ℕ
with_length lengths (SetLength file from to) = slice_set lengths file to
with_length lengths event = lengths

abbrev pub lengths_after : List ℕ → List Event → List ℕ
lengths_after lengths history = fold with_length lengths history

-- the files after a history that began with these files
abbrev pub files_after : List File → List Event → List File
files_after files history =
    files_from_memory 0 files (lengths_after (lengths_of files) history) (after (memory_of files) history)

-- The events after the last mark of a history, or all events if it has no mark.
abbrev pub with_event : List Event → Event → List Event
with_event events (Mark number) = []
with_event events event = events ++ event ∷ []

abbrev pub since_mark : List Event → List Event
since_mark history = fold with_event [] history

-- whether an event changes files
abbrev pub is_change : Event → Bool
is_change (Store file offset bytes) = true
is_change (SetLength file from to) = true
is_change event = false

-- Whether an event is a store to this page, or a growth of its file that covers it. A growth covers each page from that
-- of its first new byte to that of its last one.
abbrev pub is_change_of : ℕ → ℕ → Event → Bool
is_change_of file page (Store f offset bytes) = f == file && page == offset / 4096
is_change_of file page (SetLength f from to) =
    f == file && nat_lt from to && nat_le (from / 4096) page && nat_lt page (pages_of to)
is_change_of file page event = false

-- Whether a store or a change of length follows the last mark.
abbrev pub has_unmarked : List Event → Bool
has_unmarked history = list_any is_change (since_mark history)

-- Whether a store to this page, or a growth of its file that covers it, follows the last mark.
abbrev pub is_touched : List Event → ℕ → ℕ → Bool
is_touched history file page = list_any (is_change_of file page) (since_mark history)

-- The events are empty, or end with a mark.
abbrev pub IsMarked : List Event → Type 0
IsMarked events = (events ≡ []) ⊎ ((front : List Event) × (number : ℕ) × (events ≡ front ++ Mark number ∷ []))

-- `prefix` is a prefix of the history that is empty or ends with a mark. It contains every mark that the history
-- acknowledges.
pub record IsDurablePrefix (prefix history : List Event) : Type 0 where
  pub rest : List Event
  pub begins : prefix ++ rest ≡ history
  pub marked : IsMarked prefix
  pub acknowledged : (number : ℕ) → Contains history (Acknowledge number) → Contains prefix (Mark number)
