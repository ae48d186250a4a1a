-- Marks of the words of a table's nodes that are present entries. `present` has a bit for each word. `in_use` has a bit
-- for each node, which is set if one of its words is a present entry.
use Rattle.std.specs.Prelude.{ℕ, ◌+◌, ◌-◌, ◌*◌, ◌/◌, ◌%◌, ◌≡◌, ◌⊎◌, ◌↔◌, ◌≤◌, ◌<◌, ◌&&◌, Bool, nat_lt}
use Rattle.std.specs.Prelude.{true, false, if◌then◌else◌, List, length, slice_index_or, Option, Some, None}
use Rattle.page_entry.specs.Entry.{Mapped, entry_of, IsEntry}
use Rattle.page_table.specs.Table.{in_range}
use Rattle.page_table.specs.Bits.{is_set}
use Rattle.page_table.specs.inside.Nodes.{read_by_walk, IsTable}

-- the index of the word that is the page's entry, if the page has a leaf
abbrev pub place_of : List ℕ → ℕ → ℕ
place_of words page = (read_by_walk words 3 (page / 512) - 1) * 512 + page % 512

-- The page has a leaf, and the word at index `place` is the page's entry.
pub record IsOfPage (words : List ℕ) (place page : ℕ) : Type 0 where
  pub leaf : 0 < read_by_walk words 3 (page / 512)
  pub same : place ≡ place_of words page

-- The bit of a page's entry is set exactly if the entry is present. No other bit is set.
pub record MarksEntries (words present : List ℕ) : Type 0 where
  pub ample : length words ≤ length present * 64
  pub entries : (page : ℕ) → 0 < read_by_walk words 3 (page / 512)
      → is_set present (place_of words page) ≡ nat_lt 0 (read_by_walk words 4 page)
  pub pages : (place : ℕ) → is_set present place ≡ true → (page : ℕ) × IsOfPage words place page

-- Each node with a present entry is in use, and the list of words contains each node in use.
pub record HasMarks (words present in_use : List ℕ) : Type 0 where
  pub marked : MarksEntries words present
  pub ample : length words ≤ length in_use * 64 * 512
  pub used : (place : ℕ) → is_set present place ≡ true → is_set in_use (place / 512) ≡ true
  pub nodes : (node : ℕ) → is_set in_use node ≡ true → (node + 1) * 512 ≤ length words

-- `f` leaves a present entry present.
abbrev pub Keeps : (ℕ → ℕ) → Type 0
Keeps f = (n : ℕ) → IsEntry n → 0 < n → 0 < f n

-- Each marked index from `first` up to `end` is that of a word, which is an entry.
abbrev pub AreMarked : List ℕ → List ℕ → ℕ → ℕ → Type 0
AreMarked words present first end =
    (i : ℕ) → first ≤ i → i < end → is_set present i ≡ true → (i < length words) × IsEntry (slice_index_or words i 0)

-- `f` was applied to each marked word from `first` up to `end`. All other words are unchanged.
pub record EditsMarked (f : ℕ → ℕ) (present : List ℕ) (first end : ℕ) (old new : List ℕ) : Type 0 where
  pub size : length new ≡ length old
  pub words : (i : ℕ) → slice_index_or new i 0 ≡ (if in_range first end i && is_set present i
      then f (slice_index_or old i 0) else slice_index_or old i 0)

-- The word at index `place` is marked, maps this frame and is dirty.
pub record MapsDirty (words present : List ℕ) (place frame : ℕ) : Type 0 where
  pub marked : is_set present place ≡ true
  pub entry : Mapped
  pub read : entry_of (slice_index_or words place 0) ≡ Some entry
  pub same_frame : entry.frame ≡ frame
  pub dirty : entry.dirty ≡ true

-- A marked word from `first` up to `end` maps this frame and is dirty.
pub record IsMarkedDirty (words present : List ℕ) (first end frame : ℕ) : Type 0 where
  pub place : ℕ
  pub low : first ≤ place
  pub high : place < end
  pub here : MapsDirty words present place frame

-- A frame is noted afterwards if it was noted before, or a dirty marked word from `first` up to `end` maps it. No other
-- frame is noted.
pub record NotesMarked (words present : List ℕ) (first end : ℕ) (old new : List Bool) : Type 0 where
  pub size : length new ≡ length old
  pub noted : (frame : ℕ) → (slice_index_or new frame false ≡ true)
      ↔ ((slice_index_or old frame false ≡ true) ⊎ IsMarkedDirty words present first end frame)

-- The marked words from `first` up to `end` map only frames with numbers below `count`.
abbrev pub AreBelow : List ℕ → List ℕ → ℕ → ℕ → ℕ → Type 0
AreBelow words present first end count = (i : ℕ) → first ≤ i → i < end → is_set present i ≡ true
    → (entry : Mapped) → entry_of (slice_index_or words i 0) ≡ Some entry → entry.frame < count

-- `page` is in the range and has a leaf. No page of the range before it has a present entry.
pub record IsNext (words : List ℕ) (start end page : ℕ) : Type 0 where
  pub low : start ≤ page
  pub high : page < end
  pub leaf : 0 < read_by_walk words 3 (page / 512)
  pub before : (q : ℕ) → start ≤ q → q < page → read_by_walk words 4 q ≡ 0

-- `Some`: a page that satisfies `IsNext`. `None`: no page of the range has a present entry.
abbrev pub IsNextPresent : List ℕ → ℕ → ℕ → Option ℕ → Type 0
IsNextPresent words start end None = (q : ℕ) → start ≤ q → q < end → read_by_walk words 4 q ≡ 0
IsNextPresent words start end (Some page) = IsNext words start end page

-- The words are those of a table, and `present` and `in_use` are their marks.
pub record IsMarkedTable (words present in_use : List ℕ) : Type 0 where
  pub table : IsTable words
  pub marks : HasMarks words present in_use

-- The new list has at least `count` words. The old words are unchanged, and all words after them are 0.
pub record Extends (count : ℕ) (old new : List ℕ) : Type 0 where
  pub long : count ≤ length new
  pub longer : length old ≤ length new
  pub alike : (i : ℕ) → slice_index_or new i 0 ≡ slice_index_or old i 0
