-- Contents of home blocks that contain the files after a prefix of a history.
use Rattle.std.specs.Prelude.{ℕ, ◌≡◌, ◌*◌, ◌<◌, Bool, true, false, List, ◌++◌, length, slice_index_or}
use Rattle.std.specs.Prelude.{Contains}
use Rattle.std.specs.List.{list_any}
use Rattle.page_entry.specs.declared.numbers.FilePage.{FilePage}
use Rattle.volume_codec.specs.Files.{File}
use Rattle.volume_codec.specs.Super.{SuperValue}
use Rattle.volume_codec.specs.Lengths.{HasLengths, lengths_in}
use Rattle.journal.specs.Pages.{home_of}
use Rattle.history.specs.History.{Event, SetLength, Mark, Acknowledge, IsMarked, Memory, memory_of, after, lengths_of}
use Rattle.history.specs.History.{lengths_after, since_mark, part}

-- Whether an event sets a length, and whether a length was set since the last mark.
abbrev pub is_resize : Event → Bool
is_resize (SetLength file from to) = true
is_resize event = false

abbrev pub has_resized : List Event → Bool
has_resized history = list_any is_resize (since_mark history)

-- Each page of the table's files is the same in `contents` and in `memory`, up to its file's end. `lengths` are the
-- lengths of the files.
abbrev pub HasParts : SuperValue → List ℕ → (ℕ → List ℕ) → Memory → Type 0
HasParts table lengths contents memory = (owner : FilePage) → owner.file < length table.files
    → 4096 * owner.page < slice_index_or lengths owner.file 0
    → part lengths owner (contents (home_of table owner)) ≡ part lengths owner (memory owner.file owner.page)

-- `contents` are those after `prefix`, a marked prefix of the history. They have the lengths after it, and each page up
-- to its file's end.
pub record AreContentsOf (files : List File) (history : List Event) (table : SuperValue) (contents : ℕ → List ℕ)
    (prefix : List Event) : Type 0 where
  pub rest : List Event
  pub begins : prefix ++ rest ≡ history
  pub marked : IsMarked prefix
  pub whole : (file page : ℕ) → length (after (memory_of files) prefix file page) ≡ 4096
  pub fits : HasLengths table contents
  pub same_lengths : lengths_in table contents ≡ lengths_after (lengths_of files) prefix
  pub parts : HasParts table (lengths_after (lengths_of files) prefix) contents (after (memory_of files) prefix)

-- The prefix contains every mark that the history acknowledges.
abbrev pub HasAcknowledged : List Event → List Event → Type 0
HasAcknowledged prefix history = (number : ℕ) → Contains history (Acknowledge number) → Contains prefix (Mark number)
