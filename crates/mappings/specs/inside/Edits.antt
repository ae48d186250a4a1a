-- Edits of a list of mappings.
use Rattle.std.specs.Prelude.{ℕ, ◌+◌, ◌^◌, ◌<◌, ◌≤◌, ◌≡◌, Bool, true, ◌&&◌, ◌||◌, ◌⊎◌, nat_le, nat_lt}
use Rattle.std.specs.Prelude.{if◌then◌else◌, Option, Some, None, List, [], ◌∷◌, length, slice_index_or}
use Rattle.std.specs.List.{insert}
use Rattle.mappings.specs.declared.place.Rights.{Rights}
use Rattle.mappings.specs.declared.mapping.Mapping.{Mapping}
use Rattle.std.specs.FinMap as fin_map
use Rattle.mappings.specs.declared.place.Place.{Place}
use Rattle.mappings.specs.declared.page_range.PageRange.{PageRange}
use Rattle.mappings.specs.Places.{Places, goes_on, is_cut}
use Rattle.mappings.specs.Places as places
use Rattle.mappings.specs.inside.Listed.{place_in, places_of, joins, Neighbours, IsOrdered}

-- the part of a mapping below a page
abbrev pub below : Mapping → ℕ → Mapping
below mapping page = record mapping { end = page }

-- the part of a mapping from a page on
abbrev pub from_page : Mapping → ℕ → Mapping
from_page mapping page = record mapping { first = page; place = place_in mapping page }

-- The mappings after a split: the mapping that contains `page` and the page before it becomes two, of which the second
-- begins at `page`.
abbrev pub split_at : ℕ → List Mapping → List Mapping
split_at page [] = []
split_at page (mapping ∷ rest) =
    if nat_lt mapping.first page && nat_lt page mapping.end then below mapping page
    ∷ (from_page mapping page ∷ rest) else mapping ∷ split_at page rest

-- whether the mapping ends at or before `first`, or begins at or after `end`
abbrev pub is_outside : ℕ → ℕ → Mapping → Bool
is_outside first end mapping = nat_le mapping.end first || nat_le end mapping.first

-- the part of a mapping below a page, if there is one
abbrev pub part_below : ℕ → Mapping → Option Mapping
part_below page mapping = if nat_lt mapping.first page then Some (below mapping page) else None

-- the part of a mapping from a page on, if there is one
abbrev pub part_from : ℕ → Mapping → Option Mapping
part_from page mapping = if nat_lt page mapping.end then Some (from_page mapping page) else None

-- the mapping, if there is one, followed by the list
abbrev pub put_first : Option Mapping → List Mapping → List Mapping
put_first None rest = rest
put_first (Some mapping) rest = mapping ∷ rest

-- the list, with the mapping inserted at this index if there is one
abbrev pub put_at : List Mapping → ℕ → Option Mapping → List Mapping
put_at list at None = list
put_at list at (Some mapping) = insert list at mapping

-- the list without the pages from `first` up to `end`: of each mapping, the parts before and after these pages
abbrev pub without_pages : ℕ → ℕ → List Mapping → List Mapping
without_pages first end [] = []
without_pages first end (mapping ∷ rest) =
    if is_outside first end mapping then mapping ∷ without_pages first end rest
    else put_first (part_below first mapping) (put_first (part_from end mapping) (without_pages first end rest))

-- the mapping with the rights
abbrev pub given_rights : Rights → Mapping → Mapping
given_rights rights mapping = record mapping { place = record mapping.place { rights = rights } }

-- the mapping, with the rights if its first page is from `first` up to `end`
abbrev pub with_rights_within : ℕ → ℕ → Rights → Mapping → Mapping
with_rights_within first end rights mapping =
    if nat_le first mapping.first && nat_lt mapping.first end then given_rights rights mapping else mapping

-- whether the mapping contains at least one of the `count` pages from `first` on (`count` isn't 0)
abbrev pub meets : ℕ → ℕ → Mapping → Bool
meets first count mapping = nat_lt first mapping.end && nat_lt mapping.first (first + count)

-- the mapping with the pages of both, if `next` continues `before`
abbrev pub joined : Mapping → Mapping → Mapping
joined before next = record before { end = next.end }

-- the mapping and those after it; neighbours that continue each other are joined to one mapping
abbrev pub merged_onto : Mapping → List Mapping → List Mapping
merged_onto mapping [] = mapping ∷ []
merged_onto mapping (next ∷ rest) =
    if joins mapping next then merged_onto (joined mapping next) rest else mapping ∷ merged_onto next rest

-- the list, in which neighbours that continue each other are joined to one mapping
abbrev pub merged : List Mapping → List Mapping
merged [] = []
merged (mapping ∷ rest) = merged_onto mapping rest

-- No mapping contains both this page and the page before it.
abbrev pub IsUncut : ℕ → List Mapping → Type 0
IsUncut page [] = Unit {0}
IsUncut page (mapping ∷ rest) = (mapping.first < page → mapping.end ≤ page) × IsUncut page rest

-- No mapping continues the one before it, unless it begins at page `p` or `q`.
abbrev pub IsMergedBut : ℕ → ℕ → List Mapping → Type 0
IsMergedBut p q = Neighbours (λ before next. joins before next ≡ true → (next.first ≡ p) ⊎ (next.first ≡ q))

-- This mapping of the list contains both this page and the page before it.
pub record IsAround (list : List Mapping) (page : ℕ) (mapping : Mapping) : Type 0 where
  pub at : ℕ
  pub within : at < length list
  pub found : (d : Mapping) → slice_index_or list at d ≡ mapping
  pub below : mapping.first < page
  pub above : page < mapping.end

-- The new list maps the same pages to the same places. Each of its mappings is within the `count` pages from `first`
-- on, or outside them. No mapping continues the one before it, unless it begins at either end of these pages.
pub record IsSplit (old new : List Mapping) (first count : ℕ) : Type 0 where
  pub ordered : IsOrdered 0 new
  pub same_places : places_of new ≡ places_of old
  pub uncut_first : IsUncut first new
  pub uncut_end : IsUncut (first + count) new
  pub merged_but : IsMergedBut first (first + count) new

-- the number of ends of the `count` pages from `first` on that are within a mapping: 0, 1 or 2
abbrev pub end_splits : Places → ℕ → ℕ → ℕ
end_splits places first count =
    (if goes_on places first then 1 else 0) + (if goes_on places (first + count) then 1 else 0)

-- Each mapped page from `low` up to `high` has the rights.
abbrev pub HaveRights : List Mapping → ℕ → ℕ → Rights → Type 0
HaveRights list low high rights = (q : ℕ) (place : Place) → low ≤ q → q < high
    → fin_map.get (places_of list) q ≡ Some place → place.rights ≡ rights

-- `page` is between `first` and `end`, and each mapped page from `first` up to `end` has the rights. A mapping
-- continues across `first`, or across `end`, exactly if the rights cut a mapping at `page`.
pub record HaveRightsAround (list : List Mapping) (page : ℕ) (rights : Rights) (first end : ℕ) : Type 0 where
  pub begins : first ≤ page
  pub ends : page ≤ end
  pub below_end : end < 2 ^ 64
  pub have : HaveRights list first end rights
  pub cut_first : goes_on (places_of list) first ≡ is_cut (places_of list) page rights
  pub cut_end : goes_on (places_of list) end ≡ is_cut (places_of list) page rights

-- `wide` is `range` with further pages at either end. Setting the rights in `wide` has the same result as setting them
-- in `range`. A mapping continues across an end of `wide` exactly if the rights cut a mapping at that end of `range`.
pub record IsWidened (list : List Mapping) (range : PageRange) (rights : Rights) (wide : PageRange) : Type 0 where
  pub begins : wide.first ≤ range.first
  pub ends : range.first + range.count ≤ wide.first + wide.count
  pub below_end : wide.first + wide.count < 2 ^ 64
  pub first : goes_on (places_of list) wide.first ≡ is_cut (places_of list) range.first rights
  pub end : goes_on (places_of list) (wide.first + wide.count)
      ≡ is_cut (places_of list) (range.first + range.count) rights
  pub same : places.with_rights (places_of list) wide.first wide.count rights
      ≡ places.with_rights (places_of list) range.first range.count rights
