-- How the spaces are stored: a slot for each PCID, with a space or without one.
use Rattle.std.specs.Prelude.{ℕ, ◌≡◌, ◌≢◌, ◌⊎◌, ◌↔◌, ◌+◌, ◌≤◌, ◌<◌, Bool, true, false, not, is_some}
use Rattle.std.specs.Prelude.{List, [], ◌∷◌, length, slice_index_or, Option, Some, None, IsSome, refl}
use Rattle.std.specs.Option.{option_map}
use Rattle.std.specs.Coded.{Coded, code_by, coded×, coded_ℕ, coded_option}
use Rattle.std.specs.Ordering.{nat_cmp}
use Rattle.std.specs.FinMap as maps
use Rattle.std.specs.FinSet as sets
use Rattle.page_entry.specs.Entry.{Mapped}
use Rattle.page_table.specs.Bits.{is_set}
use Rattle.page_table.specs.Table.{TableState, is_grown, mapped_code}
use Rattle.mappings.specs.declared.page_range.PageRange.{PageRange}
use Rattle.mappings.specs.Places.{Places, splits}
use Rattle.mappings.specs.State.{MappingsState, place_code, rights_code}
use Rattle.mappings.specs.Judgement.{is_user_range}
use Rattle.spaces.specs.Spaces.{AddressSpace, Spaces, SpacesState, empty_space, has_space, space_at, AreSpaces}
use Rattle.page_entry.specs.declared.numbers.FilePage.{FilePage}
use Rattle.mappings.specs.declared.place.Rights.{Rights}
use Rattle.spaces.specs.Requests.{is_user_space}
use Rattle.spaces.specs.Changes.{is_place_of}

-- One space: its entries and places, and the number of further mappings with reserved room. The last two fields are the
-- grown pages of its table, and the number of nodes.
pub record SpaceState : Type 0 where
  pub entries : maps.FinMap nat_cmp Mapped
  pub places : Places
  pub spare : ℕ
  pub grown : sets.FinSet nat_cmp
  pub nodes : ℕ

-- the space as users of the spaces see it
abbrev pub space_of : SpaceState → AddressSpace
space_of s = record { entries = s.entries; places = s.places }

-- The table has grown at each page of the range.
abbrev pub AreGrown : SpaceState → PageRange → Type 0
AreGrown s range =
    (page : ℕ) → range.first ≤ page → page < range.first + range.count → sets.contains s.grown page ≡ true

-- The entry of each mapped page can be set without more memory.
abbrev pub HasRoom : TableState → MappingsState → Type 0
HasRoom table mappings = (page : ℕ) → IsSome (maps.get mappings.places page) → is_grown table page ≡ true

-- the content of a slot, or `None` past the last slot
abbrev pub slot_at : List (Option SpaceState) → ℕ → Option SpaceState
slot_at slots pcid = slice_index_or slots pcid None

-- the list with the PCID and the space of a slot in front, if the slot has a space
abbrev pub with_slot : ℕ → Option SpaceState → List (ℕ × AddressSpace) → List (ℕ × AddressSpace)
with_slot pcid None rest = rest
with_slot pcid (Some s) rest = (pcid, space_of s) ∷ rest

-- the spaces in the slots, with their PCIDs; the first slot has the PCID `pcid`
abbrev pub listed_from : ℕ → List (Option SpaceState) → List (ℕ × AddressSpace)
listed_from pcid [] = []
listed_from pcid (slot ∷ slots) = with_slot pcid slot (listed_from (pcid + 1) slots)

-- the spaces in the slots from PCID 0 on
unfoldable pub spaces_of : List (Option SpaceState) → Spaces
spaces_of slots = maps.from_sorted (listed_from 0 slots)

-- The slot's space is the space with this PCID.
pub record IsFound (map : Spaces) (pcid : ℕ) (s : SpaceState) : Type 0 where
  pub there : has_space map pcid ≡ true
  pub same : space_at map pcid ≡ space_of s

-- There is no space with this PCID.
pub record IsMissing (map : Spaces) (pcid : ℕ) : Type 0 where
  pub missing : has_space map pcid ≡ false
  pub nothing : space_at map pcid ≡ empty_space

-- The slot is the first one without a space. If each slot has a space, it is the one past the last slot.
pub record IsFirstFree (slots : List (Option SpaceState)) (at : ℕ) : Type 0 where
  pub within : at ≤ length slots
  pub free : slot_at slots at ≡ None
  pub taken : (lower : ℕ) → lower < at → is_some (slot_at slots lower) ≡ true

-- a space with other entries
abbrev pub edited : (SpaceState → maps.FinMap nat_cmp Mapped) → SpaceState → SpaceState
edited f s = record s { entries = f s }

-- the entries without those of pages that are mapped to this page of a file
abbrev pub without_entries : Places → FilePage → maps.FinMap nat_cmp Mapped → maps.FinMap nat_cmp Mapped
without_entries places page entries = maps.retain_keys entries (λ q. not (is_place_of page (maps.get places q)))

-- the entries without those of these pages
abbrev pub without_each : maps.FinMap nat_cmp Mapped → List ℕ → maps.FinMap nat_cmp Mapped
without_each entries [] = entries
without_each entries (page ∷ pages) = without_each (maps.remove entries page) pages

-- A user space has room for the mappings that are split when the range is unmapped, or gets these rights.
pub record IsPrepared (slots : List (Option SpaceState)) (pcid : ℕ) (range : PageRange)
    (rights : Option Rights) : Type 0 where
  pub user_space : is_user_space (spaces_of slots) pcid ≡ true
  pub user_range : is_user_range range ≡ true
  pub room : (s : SpaceState) → slot_at slots pcid ≡ Some s → splits s.places range rights ≤ s.spare

-- An invariant of the slots.
pub record AreSlots (slots : List (Option SpaceState))
    (prepared : Option (ℕ × PageRange × Option Rights)) : Type 0 where
  pub spaces : AreSpaces (spaces_of slots)
  pub few : length slots ≤ 4096
  pub ready : (pcid : ℕ) (range : PageRange) (rights : Option Rights) → prepared ≡ Some (pcid, range, rights)
      → IsPrepared slots pcid range rights

-- If the slot's space has a present entry, `used` is true.
abbrev pub HasUse : Option SpaceState → Bool → Type 0
HasUse slot used = (s : SpaceState) (page : ℕ) (entry : Mapped) → slot ≡ Some s → maps.get s.entries page ≡ Some entry
    → used ≡ true

-- The bit of each slot whose space has a present entry is set.
abbrev pub AreInUse : List (Option SpaceState) → List ℕ → Type 0
AreInUse slots in_use = (pcid : ℕ) → HasUse (slot_at slots pcid) (is_set in_use pcid)

-- The bit of each slot without a space is set, and no other bit is set.
pub record AreFreed (slots : List (Option SpaceState)) (freed : List ℕ) : Type 0 where
  pub below : (pcid : ℕ) → pcid < length slots → is_set freed pcid ≡ not (is_some (slot_at slots pcid))
  pub past : (pcid : ℕ) → length slots ≤ pcid → is_set freed pcid ≡ false

-- The entries of one slot's space are edited, if the slot has a space. The other slots don't change.
pub record EditsSlot (f : SpaceState → maps.FinMap nat_cmp Mapped) (pcid : ℕ)
    (old new : List (Option SpaceState)) : Type 0 where
  pub size : length new ≡ length old
  pub here : slot_at new pcid ≡ option_map (edited f) (slot_at old pcid)
  pub others : (q : ℕ) → q ≢ pcid → slot_at new q ≡ slot_at old q

-- Each entry maps a frame with a number below `count`.
abbrev pub AreBelow : List (Option SpaceState) → ℕ → Type 0
AreBelow slots count = (pcid page : ℕ) (s : SpaceState) (entry : Mapped) → slot_at slots pcid ≡ Some s
    → maps.get s.entries page ≡ Some entry → entry.frame < count

-- A dirty entry of the slot's space maps this frame.
pub record MapsDirty (slot : Option SpaceState) (frame : ℕ) : Type 0 where
  pub s : SpaceState
  pub here : slot ≡ Some s
  pub page : ℕ
  pub entry : Mapped
  pub present : maps.get s.entries page ≡ Some entry
  pub same_frame : entry.frame ≡ frame
  pub dirty : entry.dirty ≡ true

-- The frames that dirty entries of the slot's space map are noted. Every frame that was noted still is, and no other
-- frame is.
pub record NotesSlot (slot : Option SpaceState) (old new : List Bool) : Type 0 where
  pub size : length new ≡ length old
  pub noted : (frame : ℕ) → (slice_index_or new frame false ≡ true)
      ↔ ((slice_index_or old frame false ≡ true) ⊎ MapsDirty slot frame)

-- The same for all slots with PCIDs below `upto`.
pub record NotesSlots (slots : List (Option SpaceState)) (upto : ℕ) (old new : List Bool) : Type 0 where
  pub size : length new ≡ length old
  pub noted : (frame : ℕ) → (slice_index_or new frame false ≡ true)
      ↔ ((slice_index_or old frame false ≡ true) ⊎ ((pcid : ℕ) × (pcid < upto) × MapsDirty (slot_at slots pcid) frame))

-- the codes by which proofs distinguish values
abbrev pub space_code : Coded AddressSpace
space_code =
    code_by (maps.FinMap nat_cmp Mapped × Places)
    (coded× (maps.code coded_ℕ mapped_code) (maps.code coded_ℕ place_code))
    (λ s. (s.entries, s.places)) (λ p. record { entries = p.0; places = p.1 }) (λ _. refl)

abbrev pub space_state_code : Coded SpaceState
space_state_code =
    code_by (AddressSpace × (ℕ × (sets.FinSet nat_cmp × ℕ)))
    (coded× space_code (coded× coded_ℕ (coded× (sets.code coded_ℕ) coded_ℕ)))
    (λ s. (space_of s, (s.spare, (s.grown, s.nodes))))
    (λ p. record { entries = p.0.entries; places = p.0.places; spare = p.1.0; grown = p.1.1.0; nodes = p.1.1.1 })
    (λ _. refl)

abbrev pub range_code : Coded PageRange
range_code = code_by (ℕ × ℕ) (coded× coded_ℕ coded_ℕ) (λ r. (r.first, r.count))
    (λ p. record { first = p.0; count = p.1 }) (λ _. refl)

abbrev pub prepared_code : Coded (ℕ × PageRange × Option Rights)
prepared_code =
    code_by (ℕ × (PageRange × Option Rights)) (coded× coded_ℕ (coded× range_code (coded_option rights_code)))
    (λ p. (p.0, (p.1, p.2))) (λ c. (c.0, c.1.0, c.1.1)) (λ _. refl)

abbrev pub spaces_code : Coded SpacesState
spaces_code =
    code_by (Spaces × Option (ℕ × PageRange × Option Rights))
    (coded× (maps.code coded_ℕ space_code) (coded_option prepared_code))
    (λ s. (s.map, s.prepared)) (λ p. record { map = p.0; prepared = p.1 }) (λ _. refl)
