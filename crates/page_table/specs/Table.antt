-- A page table as a map from pages to entries, with its grown pages. A page is grown if its entry can be set without
-- new memory. A page is the number of a 4 KiB block of linear addresses. A range contains the pages from `first` up to
-- `end`, without `end`.
use Rattle.std.specs.Prelude.{ℕ, ◌-◌, ◌/◌, ◌≡◌, ◌≤◌, ◌<◌, Bool, true, false, not, ◌&&◌, nat_le, nat_lt}
use Rattle.std.specs.Prelude.{if◌then◌else◌, slice_index_or, List, map, Option, Some, None, refl}
use Rattle.std.specs.List.{filter}
use Rattle.std.specs.Ordering.{nat_cmp}
use Rattle.std.specs.Coded.{Coded, code_by, coded×, coded_ℕ, coded_bool}
use Rattle.std.specs.FinMap as maps
use Rattle.std.specs.FinSet as sets
use Rattle.page_entry.specs.Entry.{Mapped}

-- The present entries by page, the grown pages, and the number of nodes.
pub record TableState : Type 0 where
  pub entries : maps.FinMap nat_cmp Mapped
  pub grown : sets.FinSet nat_cmp
  pub nodes : ℕ

-- The code of an entry is the tuple of its fields.
abbrev pub mapped_code : Coded Mapped
mapped_code =
    code_by (ℕ × (Bool × (Bool × Bool))) (coded× coded_ℕ (coded× coded_bool (coded× coded_bool coded_bool)))
    (λ m. (m.frame, (m.writable, (m.accessed, m.dirty))))
    (λ p. record { frame = p.0; writable = p.1.0; accessed = p.1.1.0; dirty = p.1.1.1 })
    (λ _. refl)

-- The code of a table is the tuple of its fields.
abbrev pub table_code : Coded TableState
table_code =
    code_by (maps.FinMap nat_cmp Mapped × (sets.FinSet nat_cmp × ℕ))
    (coded× (maps.code coded_ℕ mapped_code) (coded× (sets.code coded_ℕ) coded_ℕ))
    (λ t. (t.entries, (t.grown, t.nodes))) (λ p. record { entries = p.0; grown = p.1.0; nodes = p.1.1 }) (λ _. refl)

-- the table without entries and grown pages, which has only the root node
abbrev pub empty_table : TableState
empty_table = record { entries = maps.empty; grown = sets.empty; nodes = 1 }

-- whether the page's entry can be set without new memory
abbrev pub is_grown : TableState → ℕ → Bool
is_grown table page = sets.contains table.grown page

-- the entries, with this entry for the page, or none if it is absent
abbrev pub put_entry : maps.FinMap nat_cmp Mapped → ℕ → Option Mapped → maps.FinMap nat_cmp Mapped
put_entry entries page None = maps.remove entries page
put_entry entries page (Some entry) = maps.insert entries page entry

-- whether the page is in the range
abbrev pub in_range : ℕ → ℕ → ℕ → Bool
in_range first end page = nat_le first page && nat_lt page end

-- the entries outside the range
abbrev pub outside_range : maps.FinMap nat_cmp Mapped → ℕ → ℕ → maps.FinMap nat_cmp Mapped
outside_range entries first end = maps.retain_keys entries (λ page. not (in_range first end page))

-- the entries, with `f` applied to each page and its entry
abbrev pub changed_by : (ℕ → Mapped → Mapped) → maps.FinMap nat_cmp Mapped → maps.FinMap nat_cmp Mapped
changed_by f entries = maps.from_entries (map (λ e. (e.0, f e.0 e.1)) (maps.entries entries))

-- whether the frame is marked; a frame past the list's end isn't
abbrev pub is_marked : List Bool → ℕ → Bool
is_marked marked frame = slice_index_or marked frame false

-- the entry, without the right to write and the dirty bit if it maps a marked frame
abbrev pub protected_if : List Bool → Mapped → Mapped
protected_if marked entry = if is_marked marked entry.frame then record entry { writable = false; dirty = false }
    else entry

-- the entries; each that maps a marked frame loses the right to write and the dirty bit
unfoldable pub frames_protected : maps.FinMap nat_cmp Mapped → List Bool → maps.FinMap nat_cmp Mapped
frames_protected entries marked = changed_by (λ _ entry. protected_if marked entry) entries

-- the entries; each in the range loses the right to write
unfoldable pub range_read_only : maps.FinMap nat_cmp Mapped → ℕ → ℕ → maps.FinMap nat_cmp Mapped
range_read_only entries first end =
    changed_by (λ page entry. if in_range first end page then record entry { writable = false } else entry) entries

-- the pages in the range whose entries are dirty, in the order of the list
abbrev pub dirty_among : List (ℕ × Mapped) → ℕ → ℕ → List ℕ
dirty_among entries first end = map (λ e. e.0) (filter (λ e. in_range first end e.0 && e.1.dirty) entries)

-- the pages in the range whose entries are dirty, in rising order
abbrev pub dirty_in : maps.FinMap nat_cmp Mapped → ℕ → ℕ → List ℕ
dirty_in entries first end = dirty_among (maps.entries entries) first end

-- Each page of the range is grown.
abbrev pub HasGrown : ℕ → ℕ → TableState → Type 0
HasGrown first end table = (page : ℕ) → first ≤ page → page < end → is_grown table page ≡ true

-- The entries are the same, and each page of the range is grown. Grown pages stay grown. Each newly grown page shares a
-- block of 512 pages (the pages of one node) with a page of the range.
pub record GrowsOver (first end : ℕ) (old new : TableState) : Type 0 where
  pub same_entries : new.entries ≡ old.entries
  pub range_grown : HasGrown first end new
  pub still_grown : (page : ℕ) → is_grown old page ≡ true → is_grown new page ≡ true
  pub no_more : (page : ℕ) → is_grown new page ≡ true → is_grown old page ≡ false
      → (first / 512 ≤ page / 512) × (page / 512 ≤ (end - 1) / 512)
