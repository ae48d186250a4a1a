-- The pages of an address space that are mapped, each with its place in a file.
use Rattle.std.specs.Prelude.{ℕ, zero, suc, ◌+◌, ◌-◌, Bool, true, false, not, ◌&&◌, ◌||◌, ◌==◌}
use Rattle.std.specs.Prelude.{nat_le, nat_lt, if◌then◌else◌, Option, Some, None, List, map, filter}
use Rattle.std.specs.Option.{option_map_or}
use Rattle.std.specs.List.{list_any, list_all, range_with_len}
use Rattle.std.specs.Ordering.{nat_cmp}
use Rattle.std.specs.FinMap as fin_map
use Rattle.mappings.specs.declared.place.Place.{Place}
use Rattle.mappings.specs.declared.place.Rights.{Rights}
use Rattle.mappings.specs.declared.page_range.PageRange.{PageRange}
use Rattle.mappings.specs.declared.place.Rights.TheVariants.{Read, ReadWrite}

-- whether the rights allow writing
abbrev pub may_write : Rights → Bool
may_write Read = false
may_write ReadWrite = true

-- whether a file that was opened with this access may be mapped with these rights
abbrev pub allows : Rights → Rights → Bool
allows access rights = may_write access || not (may_write rights)

abbrev pub same_rights : Rights → Rights → Bool
same_rights Read Read = true
same_rights ReadWrite ReadWrite = true
same_rights _ _ = false

-- each mapped page with its place
abbrev pub Places : Type 0
Places = fin_map.FinMap nat_cmp Place

-- the place `k` pages further in the same mapping
abbrev pub advanced : Place → ℕ → Place
advanced place k = record place { page = place.page + k }

-- whether page `q` is one of the `count` pages from `first` on
abbrev pub is_among : ℕ → ℕ → ℕ → Bool
is_among first count q = nat_le first q && nat_lt q (first + count)

-- The `count` pages from `first` on are mapped to consecutive file pages from `place` on. All other pages keep their
-- places.
unfoldable pub with_range : Places → ℕ → ℕ → Place → Places
with_range places first zero place = places
with_range places first (suc count) place =
    fin_map.insert (with_range places (first + 1) count (advanced place 1)) first place

-- The `count` pages from `first` on are not mapped. All other pages keep their places.
unfoldable pub without_range : Places → ℕ → ℕ → Places
without_range places first count = fin_map.retain_keys places (λ q. not (is_among first count q))

-- Each mapped page among the `count` pages from `first` on has the rights. All else is unchanged.
unfoldable pub with_rights : Places → ℕ → ℕ → Rights → Places
with_rights places first count rights =
    fin_map.from_entries (map (λ e. (e.0, if is_among first count e.0 then record e.1 { rights = rights } else e.1))
    (fin_map.entries places))

-- whether at least one of the `count` pages from `first` on is mapped
abbrev pub any_mapped : Places → ℕ → ℕ → Bool
any_mapped places first count = list_any (fin_map.contains_key places) (range_with_len first count)

-- whether each of the `count` pages from `first` on is mapped
abbrev pub all_mapped : Places → ℕ → ℕ → Bool
all_mapped places first count = list_all (fin_map.contains_key places) (range_with_len first count)

-- whether at least one of the `count` pages from `first` on is mapped with an access that doesn't allow the rights
abbrev pub any_forbids : Places → ℕ → ℕ → Rights → Bool
any_forbids places first count rights =
    list_any (λ q. option_map_or (λ place. not (allows place.access rights)) (fin_map.get places q) false)
    (range_with_len first count)

-- whether the second place is the next page of the same file, with the same rights and access
abbrev pub follows : Option Place → Option Place → Bool
follows (Some p) (Some q) = p.file == q.file && p.page + 1 == q.page && same_rights p.rights q.rights
    && same_rights p.access q.access
follows _ _ = false

-- whether one mapping contains this page and the page before it
abbrev pub goes_on : Places → ℕ → Bool
goes_on places page = follows (fin_map.get places (page - 1)) (fin_map.get places page)

-- whether one mapping contains the `count` pages from `first` on, the page before them and the page after them
abbrev pub is_within : Places → ℕ → ℕ → Bool
is_within places first count = list_all (goes_on places) (range_with_len first (count + 1))

-- whether one mapping contains this page and the page before it, but no longer once this page has the rights
abbrev pub is_cut : Places → ℕ → Rights → Bool
is_cut places page rights = goes_on places page && not (goes_on (with_rights places page 1 rights) page)

-- The number of mappings that are split when a range is unmapped (`None`) or its rights change. Unmapping splits one
-- mapping if it contains the range, the page before it and the page after it. New rights split one mapping at each end
-- of the range at which they cut one (`is_cut`).
abbrev pub splits : Places → PageRange → Option Rights → ℕ
splits places range None = if is_within places range.first range.count then 1 else 0
splits places range (Some rights) =
    (if is_cut places range.first rights then 1 else 0)
    + (if is_cut places (range.first + range.count) rights then 1 else 0)

-- the pages that are mapped to this page of this file, in rising order
abbrev pub pages_mapping : Places → ℕ → ℕ → List ℕ
pages_mapping places file page =
    map (λ e. e.0) (filter (λ e. e.1.file == file && e.1.page == page) (fin_map.entries places))
