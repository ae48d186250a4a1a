-- What loads, stores, fills and evictions don't change in the page tables and the frames that they map.
use Rattle.std.specs.Prelude.{ℕ, ◌≡◌, true, Option, Some, None}
use Rattle.page_entry.specs.Entry.{Mapped}
use Rattle.spaces.specs.Spaces.{Spaces, SpacesState, has_space, space_at, entry_at}

-- The entry is the same, except that its accessed and dirty bits may have been set.
pub record IsUsed (old new : Mapped) : Type 0 where
  pub same_frame : new.frame ≡ old.frame
  pub same_writable : new.writable ≡ old.writable
  pub still_accessed : old.accessed ≡ true → new.accessed ≡ true
  pub still_dirty : old.dirty ≡ true → new.dirty ≡ true

-- The entry of a page is the same in that sense, or the page still has none.
abbrev pub IsUsedAt : Option Mapped → Option Mapped → Type 0
IsUsedAt None new = new ≡ None
IsUsedAt (Some entry) new = (now : Mapped) × (new ≡ Some now) × IsUsed entry now

-- The spaces and their mappings are the same. So are their entries, except that accessed and dirty bits may have been
-- set.
pub record OnlyUses (old new : SpacesState) : Type 0 where
  pub same_spaces : (pcid : ℕ) → has_space new.map pcid ≡ has_space old.map pcid
  pub same_places : (pcid : ℕ) → (space_at new.map pcid).places ≡ (space_at old.map pcid).places
  pub entries : (pcid page : ℕ) → IsUsedAt (entry_at old.map pcid page) (entry_at new.map pcid page)
  pub still_prepared : new.prepared ≡ old.prepared

-- the page has a dirty entry
abbrev pub IsDirtyAt : Spaces → ℕ → ℕ → Type 0
IsDirtyAt spaces pcid page = (entry : Mapped) × (entry_at spaces pcid page ≡ Some entry) × (entry.dirty ≡ true)
