-- The five changes that need a shootdown, and what each affects (Black, Rashid, Golub, Hill and Baron 1989: the
-- processors that may use a mapping are stopped before it changes).
use Rattle.std.specs.Prelude.{ℕ, ◌≡◌, ◌⊎◌, ◌*◌, ◌==◌, ◌&&◌, nat_le, Bool, true, false}
use Rattle.std.specs.Prelude.{is_some, if◌then◌else◌, List, map, filter, Option, Some, None}
use Rattle.std.specs.List.{list_any, flat_map}
use Rattle.std.specs.Ordering.{nat_cmp}
use Rattle.std.specs.FinMap as maps
use Rattle.page_entry.specs.declared.numbers.FilePage.{FilePage}
use Rattle.page_entry.specs.Entry.{Mapped, protected_of}
use Rattle.mappings.specs.declared.place.Place.{Place}
use Rattle.mappings.specs.Places.{is_among, pages_mapping}
use Rattle.spaces.specs.declared.change.Change.{Change}
use Rattle.spaces.specs.declared.change.Change.TheVariants.{Unmap, Protect, Reclaim, SetLength, Checkpoint}
use Rattle.spaces.specs.Spaces.{AddressSpace, Spaces, has_space, space_at, entry_at, place_at}

-- whether a place is in this page of a file
abbrev pub is_place_of : FilePage → Option Place → Bool
is_place_of owner None = false
is_place_of owner (Some place) = place.file == owner.file && place.page == owner.page

-- whether a page of a space is mapped to this page of a file, and has a present entry
abbrev pub has_entry_of : Spaces → FilePage → ℕ → ℕ → Bool
has_entry_of spaces owner pcid page =
    is_place_of owner (place_at spaces pcid page) && is_some (entry_at spaces pcid page)

-- the pages that have a present entry
abbrev pub with_present : maps.FinMap nat_cmp Mapped → List ℕ → List ℕ
with_present entries pages = filter (λ page. is_some (maps.get entries page)) pages

-- the pages of a space that are mapped to this page of a file and have a present entry, in ascending order
abbrev pub pages_with_entry : AddressSpace → FilePage → List ℕ
pages_with_entry space owner = with_present space.entries (pages_mapping space.places owner.file owner.page)

-- the same for several spaces: pairs of a space's PCID and a page
abbrev pub entries_in : List (ℕ × AddressSpace) → FilePage → List (ℕ × ℕ)
entries_in spaces owner = flat_map (λ s. map (λ page. (s.0, page)) (pages_with_entry s.1 owner)) spaces

-- the same for all spaces, in the order of PCIDs and then of pages
abbrev pub entries_of : Spaces → FilePage → List (ℕ × ℕ)
entries_of spaces owner = entries_in (maps.entries spaces) owner

-- whether the change may change the entry of a page of a space
abbrev pub affects : Spaces → Change → ℕ → ℕ → Bool
affects spaces (Unmap pcid range) q page = q == pcid && is_among range.first range.count page
affects spaces (Protect pcid range rights) q page = q == pcid && is_among range.first range.count page
affects spaces (Reclaim owner) q page = has_entry_of spaces owner q page
affects spaces (SetLength file length) q page = true
affects spaces Checkpoint q page = true

-- Whether the processors in a space have to stop. For a checkpoint and a change of a file's length, all processors
-- stop. For an unmap or a protect, those in its space stop. For a reclaim, those in spaces with a present entry of the
-- page stop.
abbrev pub touches : Spaces → Change → ℕ → Bool
touches spaces (Unmap pcid range) q = q == pcid
touches spaces (Protect pcid range rights) q = q == pcid
touches spaces (Reclaim owner) q =
    list_any (has_entry_of spaces owner q) (pages_mapping (space_at spaces q).places owner.file owner.page)
touches spaces (SetLength file length) q = true
touches spaces Checkpoint q = true

-- The page tables only grow: each present entry stays, and maps the same frame. If it has the right to write or the
-- dirty bit, it keeps it.
pub record Keeps (old new : Mapped) : Type 0 where
  pub same_frame : new.frame ≡ old.frame
  pub still_writable : old.writable ≡ true → new.writable ≡ true
  pub still_dirty : old.dirty ≡ true → new.dirty ≡ true

abbrev pub Grows : Spaces → Spaces → Type 0
Grows old new = (pcid page : ℕ) (entry : Mapped) → entry_at old pcid page ≡ Some entry → (now : Mapped)
    × (entry_at new pcid page ≡ Some now) × Keeps entry now

-- Only entries of pages that the change affects are changed.
abbrev pub ChangesOnlyAffected : Change → Spaces → Spaces → Type 0
ChangesOnlyAffected change old new =
    (pcid page : ℕ) → affects old change pcid page ≡ false → entry_at new pcid page ≡ entry_at old pcid page

-- An entry of a noted frame loses the right to write and the dirty bit. No other entry changes.
abbrev pub protected_where : (ℕ → Bool) → Option Mapped → Option Mapped
protected_where noted None = None
protected_where noted (Some entry) = if noted entry.frame then protected_of (Some entry) else Some entry

-- The entries of all pages that are mapped to this page of a file are removed. No other entry changes.
abbrev pub without_entries_of : FilePage → Spaces → ℕ → ℕ → Option Mapped → Option Mapped
without_entries_of owner spaces pcid page entry = if is_place_of owner (place_at spaces pcid page) then None else entry

-- whether a place is a page of this file that begins at or past this length, in bytes
abbrev pub is_place_past : ℕ → ℕ → Option Place → Bool
is_place_past file length None = false
is_place_past file length (Some place) = place.file == file && nat_le length (4096 * place.page)

-- The entries of all pages that are mapped at or past this length of the file are removed. No other entry changes.
abbrev pub without_past : ℕ → ℕ → Spaces → ℕ → ℕ → Option Mapped → Option Mapped
without_past file length spaces pcid page entry =
    if is_place_past file length (place_at spaces pcid page) then None else entry

-- Some entries of pages that are mapped at or past this length of the file are removed. No other entry changes.
pub record ClearsPast (file length : ℕ) (old new : Spaces) : Type 0 where
  pub same_spaces : (pcid : ℕ) → has_space new pcid ≡ has_space old pcid
  pub same_places : (pcid : ℕ) → (space_at new pcid).places ≡ (space_at old pcid).places
  pub entries : (pcid page : ℕ) → (entry_at new pcid page ≡ entry_at old pcid page)
      ⊎ ((entry_at new pcid page ≡ None) × (is_place_past file length (place_at old pcid page) ≡ true))
