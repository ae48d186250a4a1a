-- Address spaces by their PCIDs: which pages are mapped to which pages of files, and the page-table entries of these
-- pages (POSIX.1-2024, mmap, munmap, mprotect; Intel SDM volume 3, "4-Level Paging" and "Process-Context Identifiers").
use Rattle.std.specs.Prelude.{ℕ, ◌≡◌, ◌≢◌, ◌+◌, ◌<◌, ◌^◌, ◌==◌, ◌&&◌, not, Bool, true}
use Rattle.std.specs.Prelude.{false, if◌then◌else◌, Option, Some, None, unwrap_or}
use Rattle.std.specs.Ordering.{nat_cmp}
use Rattle.std.specs.FinMap as maps
use Rattle.page_entry.specs.Entry.{Mapped, with_writable_of}
use Rattle.page_table.specs.Table.{put_entry, outside_range}
use Rattle.mappings.specs.declared.place.Place.{Place}
use Rattle.mappings.specs.declared.place.Rights.{Rights}
use Rattle.mappings.specs.declared.page_range.PageRange.{PageRange}
use Rattle.mappings.specs.Places.{Places, with_range, without_range, with_rights, may_write, is_among}

-- an address space: the present entries of its page table, and the place in a file of each mapped page
pub record AddressSpace : Type 0 where
  pub entries : maps.FinMap nat_cmp Mapped
  pub places : Places

-- all address spaces, by PCID
abbrev pub Spaces : Type 0
Spaces = maps.FinMap nat_cmp AddressSpace

-- a space that maps nothing
abbrev pub empty_space : AddressSpace
empty_space = record { entries = maps.empty; places = maps.empty }

-- whether there is a space with this PCID
abbrev pub has_space : Spaces → ℕ → Bool
has_space spaces pcid = maps.contains_key spaces pcid

-- the space with this PCID, or an empty space if there is none
abbrev pub space_at : Spaces → ℕ → AddressSpace
space_at spaces pcid = unwrap_or (maps.get spaces pcid) empty_space

-- the entry of a page of a space
abbrev pub entry_at : Spaces → ℕ → ℕ → Option Mapped
entry_at spaces pcid page = maps.get (space_at spaces pcid).entries page

-- the place in a file to which a page of a space is mapped
abbrev pub place_at : Spaces → ℕ → ℕ → Option Place
place_at spaces pcid page = maps.get (space_at spaces pcid).places page

-- The spaces as contracts see them. If memory is reserved for a change, `prepared` is the PCID, the range of pages, and
-- the new rights. Without rights, the change unmaps the range.
pub record SpacesState : Type 0 where
  pub map : Spaces
  pub prepared : Option (ℕ × PageRange × Option Rights)

-- space 0 only, which maps nothing
abbrev pub first_spaces : Spaces
first_spaces = maps.insert maps.empty 0 empty_space

-- the spaces with this space at the PCID, added or replaced
abbrev pub with_space : Spaces → ℕ → AddressSpace → Spaces
with_space spaces pcid space = maps.insert spaces pcid space

-- the spaces with this entry at a page of a space, or with none there
abbrev pub with_entry : Spaces → ℕ → ℕ → Option Mapped → Spaces
with_entry spaces pcid page entry =
    let space = space_at spaces pcid in
    with_space spaces pcid (record space { entries = put_entry space.entries page entry })

-- the spaces with the pages of a range mapped to consecutive pages of a file, beginning at this place
abbrev pub with_mapping : Spaces → ℕ → PageRange → Place → Spaces
with_mapping spaces pcid range place =
    let space = space_at spaces pcid in
    with_space spaces pcid (record space { places = with_range space.places range.first range.count place })

-- the spaces with no page of the range mapped, and no entry in the range
abbrev pub without_mapping : Spaces → ℕ → PageRange → Spaces
without_mapping spaces pcid range =
    let space = space_at spaces pcid in
    with_space spaces pcid (record {
      entries = outside_range space.entries range.first (range.first + range.count);
      places = without_range space.places range.first range.count;
    })

-- Rule: lowest free PCID: A new space gets the lowest unused PCID, from 1 on.
-- The PCID is the lowest one from 1 on that no space has. PCIDs have 12 bits.
pub record IsLowestFree (spaces : Spaces) (pcid : ℕ) : Type 0 where
  pub some : 0 < pcid
  pub small : pcid < 4096
  pub free : has_space spaces pcid ≡ false
  pub lowest : (lower : ℕ) → 0 < lower → lower < pcid → has_space spaces lower ≡ true

-- Each entry is edited. The new entry depends on the space, the page and the old entry. The spaces and their mappings
-- don't change.
pub record EditsEntries (edit : ℕ → ℕ → Option Mapped → Option Mapped) (old new : Spaces) : Type 0 where
  pub same_spaces : (pcid : ℕ) → has_space new pcid ≡ has_space old pcid
  pub same_places : (pcid : ℕ) → (space_at new pcid).places ≡ (space_at old pcid).places
  pub entries : (pcid page : ℕ) → entry_at new pcid page ≡ edit pcid page (entry_at old pcid page)

-- The pages of a range get these rights. Without the right to write, their entries become read-only, but don't change
-- otherwise. With this right, no entry changes.
pub record SetsRights (pcid : ℕ) (range : PageRange) (rights : Rights) (old new : Spaces) : Type 0 where
  pub same_spaces : (q : ℕ) → has_space new q ≡ has_space old q
  pub rights_set : (space_at new pcid).places ≡ with_rights (space_at old pcid).places range.first range.count rights
  pub other_places : (q : ℕ) → q ≢ pcid → (space_at new q).places ≡ (space_at old q).places
  pub entries : (q page : ℕ) → entry_at new q page
      ≡ (if q == pcid && is_among range.first range.count page && not (may_write rights)
      then with_writable_of (entry_at old q page) false else entry_at old q page)

-- An invariant of the spaces. Space 0 exists and maps nothing. PCIDs have 12 bits. Mapped pages have user addresses,
-- below 2 ^ 47. A page has an entry only if it is mapped.
pub record AreSpaces (spaces : Spaces) : Type 0 where
  pub first : has_space spaces 0 ≡ true
  pub nowhere : (page : ℕ) → place_at spaces 0 page ≡ None
  pub small : (pcid : ℕ) → has_space spaces pcid ≡ true → pcid < 4096
  pub user : (pcid page : ℕ) (place : Place) → place_at spaces pcid page ≡ Some place → page < 2 ^ 35
  pub mapped : (pcid page : ℕ) (entry : Mapped) → entry_at spaces pcid page ≡ Some entry → (place : Place)
      × (place_at spaces pcid page ≡ Some place)
