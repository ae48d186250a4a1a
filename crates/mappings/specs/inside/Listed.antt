-- A list of mappings in the order of their pages, and the pages that it maps.
use Rattle.std.specs.Prelude.{ℕ, ◌+◌, ◌-◌, ◌^◌, ◌<◌, ◌≤◌, ◌≡◌, Bool, false, ◌&&◌, ◌==◌, nat_le, nat_lt}
use Rattle.std.specs.Prelude.{if◌then◌else◌, List, [], ◌∷◌, length, Option, Some, None, slice_index_or}
use Rattle.std.specs.List.{filter_map}
use Rattle.std.specs.FinMap as fin_map
use Rattle.mappings.specs.declared.place.Place.{Place}
use Rattle.mappings.specs.declared.mapping.Mapping.{Mapping}
use Rattle.mappings.specs.Places.{Places, advanced, with_range, same_rights}

-- whether the mapping contains the page
abbrev pub covers : Mapping → ℕ → Bool
covers mapping page = nat_le mapping.first page && nat_lt page mapping.end

-- the place to which the mapping maps this page
abbrev pub place_in : Mapping → ℕ → Place
place_in mapping page = advanced mapping.place (page - mapping.first)

-- all pages of the mappings in the list, with their places
unfoldable pub places_of : List Mapping → Places
places_of [] = fin_map.empty
places_of (mapping ∷ rest) = with_range (places_of rest) mapping.first (mapping.end - mapping.first) mapping.place

-- The mapping has at least one page. Its pages are below 2^35, and its file pages are below 2^32.
pub record IsMapping (mapping : Mapping) : Type 0 where
  pub has_pages : mapping.first < mapping.end
  pub below_end : mapping.end ≤ 2 ^ 35
  pub in_file : mapping.place.page + (mapping.end - mapping.first) ≤ 2 ^ 32

-- The mappings are in order, without overlaps, and begin at page `low` or later.
abbrev pub IsOrdered : ℕ → List Mapping → Type 0
IsOrdered low [] = Unit {0}
IsOrdered low (mapping ∷ rest) = (low ≤ mapping.first) × IsMapping mapping × IsOrdered mapping.end rest

-- `i` is the index of the first mapping whose `end` is above this page, or the list's length if there is none.
pub record IsFirstAfter (list : List Mapping) (page i : ℕ) : Type 0 where
  pub within : i ≤ length list
  pub before : (j : ℕ) (d : Mapping) → j < i → (slice_index_or list j d).end ≤ page
  pub after : (j : ℕ) (d : Mapping) → i ≤ j → j < length list → page < (slice_index_or list j d).end

-- The pages from `first` up to `end` are not mapped, and a mapping of them belongs at index `i`.
pub record IsGap (list : List Mapping) (first end i : ℕ) : Type 0 where
  pub first_after : IsFirstAfter list first i
  pub free : (d : Mapping) → i < length list → end ≤ (slice_index_or list i d).first

-- The mappings at the indices from `from` up to `to` are those that end after `first` and begin before `end`.
pub record IsMeeting (list : List Mapping) (first end from to : ℕ) : Type 0 where
  pub forward : from ≤ to
  pub within : to ≤ length list
  pub before : (j : ℕ) (d : Mapping) → j < from → (slice_index_or list j d).end ≤ first
  pub after : (j : ℕ) (d : Mapping) → to ≤ j → j < length list → end ≤ (slice_index_or list j d).first
  pub ends : (j : ℕ) (d : Mapping) → from ≤ j → j < to → first < (slice_index_or list j d).end
  pub begins : (j : ℕ) (d : Mapping) → from ≤ j → j < to → (slice_index_or list j d).first < end

-- whether `next` continues `before`: it begins at the next page, at the next page of the same file, with the same
-- rights and access
abbrev pub joins : Mapping → Mapping → Bool
joins before next =
    before.end == next.first && (before.place.file == next.place.file
    && (before.place.page + (before.end - before.first) == next.place.page
    && (same_rights before.place.rights next.place.rights && same_rights before.place.access next.place.access)))

-- `R` holds of the mapping and the first one of the list, if there is one.
abbrev pub Beside : (Mapping → Mapping → Type 0) → Mapping → List Mapping → Type 0
Beside R mapping [] = Unit {0}
Beside R mapping (next ∷ rest) = R mapping next

-- `R` holds of each two neighbours.
abbrev pub Neighbours : (Mapping → Mapping → Type 0) → List Mapping → Type 0
Neighbours R [] = Unit {0}
Neighbours R (mapping ∷ rest) = Beside R mapping rest × Neighbours R rest

-- No mapping continues the one before it.
abbrev pub IsMerged : List Mapping → Type 0
IsMerged = Neighbours (λ before next. joins before next ≡ false)

-- The invariant of a list of mappings: it is in order, and no mapping continues the one before it.
pub record IsKept (list : List Mapping) : Type 0 where
  pub ordered : IsOrdered 0 list
  pub merged : IsMerged list

-- the page that the mapping maps to this page of this file, if there is one
abbrev pub page_in : Mapping → ℕ → ℕ → Option ℕ
page_in mapping file page =
    if mapping.place.file == file && (nat_le mapping.place.page page
    && nat_lt (page - mapping.place.page) (mapping.end - mapping.first))
    then Some (mapping.first + (page - mapping.place.page)) else None

-- the pages that the list's mappings map to this page of this file
abbrev pub pages_listed : List Mapping → ℕ → ℕ → List ℕ
pages_listed list file page = filter_map (λ mapping. page_in mapping file page) list
