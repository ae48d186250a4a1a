-- The nodes of a table, one after the other in one list. Each has 512 words. Nodes are numbered from 1, the root. A
-- word of the last level is an entry's bits. Any other word is the number of a node of the next level, or 0 for none.
-- There are four levels, indexed by bits 47:39, 38:30, 29:21 and 20:12 of an address (Intel SDM volume 3, "4-Level
-- Paging").
use Rattle.std.specs.Prelude.{ℕ, zero, suc, ◌+◌, ◌-◌, ◌*◌, ◌/◌, ◌%◌, ◌^◌, ◌≡◌, ◌≤◌, ◌<◌, ◌==◌, Bool, nat_lt, true}
use Rattle.std.specs.Prelude.{false, if◌then◌else◌, List, [], ◌∷◌, length, slice_index_or, Option, Some, None}
use Rattle.std.specs.FinMap as maps
use Rattle.std.specs.FinSet as sets
use Rattle.page_entry.specs.Entry.{Mapped, entry_of, has_bit, IsEntry}
use Rattle.page_table.specs.Table.{TableState, in_range}
use Rattle.page_table.specs.Bits.{is_set}

-- the word at index `place` of a node; 0 if there is no node
abbrev pub word : List ℕ → ℕ → ℕ → ℕ
word words node place = if node == 0 then 0 else slice_index_or words ((node - 1) * 512 + place) 0

-- The word that a walk to this block of pages reads at this depth. Up to depth 3 it is the number of a node, or 0 for
-- none. At depth 4 it is an entry's bits, or 0. A block at depths 0 to 4 has 2^36, 2^27, 2^18, 2^9 pages or one page.
-- Its number is its first page divided by its number of pages.
unfoldable pub read_by_walk : List ℕ → ℕ → ℕ → ℕ
read_by_walk words zero block = if block == 0 then 1 else 0
read_by_walk words (suc depth) block = word words (read_by_walk words depth (block / 512)) (block % 512)

-- Each walk stays within the list of words.
pub record IsWalkable (words : List ℕ) : Type 0 where
  pub within : (depth block : ℕ) → depth ≤ 3 → read_by_walk words depth block * 512 ≤ length words

-- The first `used` nodes are a tree, in which no two blocks share a node. All words after them are 0.
pub record IsTree (words : List ℕ) (used : ℕ) : Type 0 where
  pub root : 0 < used
  pub room : used * 512 ≤ length words
  pub walkable : IsWalkable words
  pub below : (depth block : ℕ) → depth ≤ 3 → read_by_walk words depth block ≤ used
  pub apart : (d b e c : ℕ) → d ≤ 3 → e ≤ 3 → 0 < read_by_walk words d b
      → read_by_walk words d b ≡ read_by_walk words e c
      → (d ≡ e) × (b ≡ c)
  pub unused : (i : ℕ) → used * 512 ≤ i → slice_index_or words i 0 ≡ 0
  pub entries : (page : ℕ) → IsEntry (read_by_walk words 4 page)

-- the page's entry
abbrev pub lookup : List ℕ → ℕ → Option Mapped
lookup words page = entry_of (read_by_walk words 4 page)

-- whether the page has a leaf
abbrev pub has_leaf : List ℕ → ℕ → Bool
has_leaf words page = nat_lt 0 (read_by_walk words 3 (page / 512))

-- The words are whole nodes, and all of them are in the tree of a table.
pub record IsTable (words : List ℕ) : Type 0 where
  pub whole : length words % 512 ≡ 0
  pub tree : IsTree words (length words / 512)

-- No page from `page` up to `next` has a leaf. `next` is `page` itself only if `page` has a leaf.
pub record IsPastGap (words : List ℕ) (page next : ℕ) : Type 0 where
  pub low : page ≤ next
  pub leaf : next ≡ page → 0 < read_by_walk words 3 (page / 512)
  pub gap : (q : ℕ) → page ≤ q → q < next → read_by_walk words 3 (q / 512) ≡ 0

-- `page` is the first page of the range that has a leaf.
pub record IsFound (words : List ℕ) (start end page : ℕ) : Type 0 where
  pub low : start ≤ page
  pub high : page < end
  pub leaf : 0 < read_by_walk words 3 (page / 512)
  pub before : (q : ℕ) → start ≤ q → q < page → read_by_walk words 3 (q / 512) ≡ 0

-- `Some`: the first page of the range that has a leaf. `None`: no page of the range has one.
abbrev pub IsFirstGrown : List ℕ → ℕ → ℕ → Option ℕ → Type 0
IsFirstGrown words start end None = (q : ℕ) → start ≤ q → q < end → read_by_walk words 3 (q / 512) ≡ 0
IsFirstGrown words start end (Some page) = IsFound words start end page

-- `f` was applied to the entry of each page of the range. All other entries and the nodes are unchanged.
pub record EditsPages (f : ℕ → ℕ) (start end : ℕ) (old new : List ℕ) : Type 0 where
  pub table : IsTable new
  pub size : length new ≡ length old
  pub nodes : (depth block : ℕ) → depth ≤ 3 → read_by_walk new depth block ≡ read_by_walk old depth block
  pub pages : (q : ℕ)
      → read_by_walk new 4 q ≡ (if in_range start end q then f (read_by_walk old 4 q) else read_by_walk old 4 q)

-- the number of blocks at this depth that have no node, among this number of blocks from `first` on
abbrev pub missing : List ℕ → ℕ → ℕ → ℕ → ℕ
missing words depth first zero = 0
missing words depth first (suc count) =
    (if read_by_walk words depth first == 0 then 1 else 0) + missing words depth (first + 1) count

-- Each block of the range has a node. Each other walk reads what it read before. `used` and `made` are the numbers of
-- nodes before and afterwards.
pub record LinksBlocks (depth first end used made : ℕ) (old new : List ℕ) : Type 0 where
  pub tree : IsTree new made
  pub size : length new ≡ length old
  pub count : made ≡ used + missing old depth first (end - first)
  pub linked : (block : ℕ) → first ≤ block → block < end → 0 < read_by_walk new depth block
  pub same : (d b : ℕ) → d ≤ 4 → (d ≡ depth → first ≤ b → b < end → 0 < read_by_walk old d b)
      → read_by_walk new d b ≡ read_by_walk old d b

-- the number of nodes to make so that each page of a range has a leaf, if the range isn't empty
abbrev pub needed : List ℕ → ℕ → ℕ → ℕ
needed words start end =
    missing words 1 (start / 2 ^ 27) ((end - 1) / 2 ^ 27 + 1 - start / 2 ^ 27)
    + missing words 2 (start / 2 ^ 18) ((end - 1) / 2 ^ 18 + 1 - start / 2 ^ 18)
    + missing words 3 (start / 512) ((end - 1) / 512 + 1 - start / 512)

-- The entries are the same. Each block of 512 pages that contains a page of the range has a leaf. Leaves stay, and no
-- other block gets one.
pub record GrowsPages (start end : ℕ) (old new : List ℕ) : Type 0 where
  pub table : IsTable new
  pub size : length new ≡ length old
  pub entries : (page : ℕ) → read_by_walk new 4 page ≡ read_by_walk old 4 page
  pub grown : (block : ℕ) → start / 512 ≤ block → block ≤ (end - 1) / 512 → 0 < read_by_walk new 3 block
  pub kept : (block : ℕ) → 0 < read_by_walk old 3 block → read_by_walk new 3 block ≡ read_by_walk old 3 block
  pub others : (block : ℕ) → (start / 512 ≤ block → (end - 1) / 512 < block)
      → read_by_walk new 3 block ≡ read_by_walk old 3 block

-- the page and its entry, if the entry is present, followed by the list
abbrev pub with_page_entry : ℕ → Option Mapped → List (ℕ × Mapped) → List (ℕ × Mapped)
with_page_entry page None rest = rest
with_page_entry page (Some entry) rest = (page, entry) ∷ rest

-- the present entries of this number of pages from `first` on
unfoldable pub present_from : (ℕ → Option Mapped) → ℕ → ℕ → List (ℕ × Mapped)
present_from entry first zero = []
present_from entry first (suc count) = with_page_entry first (entry first) (present_from entry (first + 1) count)

-- the pages for which `holds` is true, among this number of pages from `first` on
unfoldable pub pages_from : (ℕ → Bool) → ℕ → ℕ → List ℕ
pages_from holds first zero = []
pages_from holds first (suc count) =
    if holds first then first ∷ pages_from holds (first + 1) count else pages_from holds (first + 1) count

-- the table with these words
unfoldable pub table_of : List ℕ → TableState
table_of words = record {
  entries = maps.from_sorted (present_from (lookup words) 0 (2 ^ 36));
  grown = sets.from_list (pages_from (has_leaf words) 0 (2 ^ 36));
  nodes = length words / 512;
}

-- Bit `i` of the mask is set exactly if the entry of page `i` of this block of 512 pages is dirty.
pub record IsLeafMask (words : List ℕ) (block : ℕ) (mask : List ℕ) : Type 0 where
  pub bits : (i : ℕ) → i < 512 → is_set mask i ≡ has_bit (read_by_walk words 4 (block * 512 + i)) 6

-- The words are those of a table, and `mask` is the mask of the block that contains page `start`.
pub record AreDirtyPages (words : List ℕ) (start : ℕ) (mask : List ℕ) : Type 0 where
  pub table : IsTable words
  pub mask_of : IsLeafMask words (start / 512) mask

-- `page` is the first page of the range whose bit in the mask is set, within the block that contains page `start`.
pub record IsOfLeaf (mask : List ℕ) (start end page : ℕ) : Type 0 where
  pub low : start ≤ page
  pub high : page < end
  pub block : page / 512 ≡ start / 512
  pub here : is_set mask (page % 512) ≡ true
  pub before : (q : ℕ) → start ≤ q → q < page → is_set mask (q % 512) ≡ false

-- `Some`: a page that satisfies `IsOfLeaf`. `None`: no page of the range within this block has its bit set.
abbrev pub IsFirstOfLeaf : List ℕ → ℕ → ℕ → Option ℕ → Type 0
IsFirstOfLeaf mask start end None =
    (q : ℕ) → start ≤ q → q < end → q / 512 ≡ start / 512 → is_set mask (q % 512) ≡ false
IsFirstOfLeaf mask start end (Some page) = IsOfLeaf mask start end page

-- `page` is the first page of the range whose entry is dirty.
pub record IsDirtyPage (words : List ℕ) (start end page : ℕ) : Type 0 where
  pub low : start ≤ page
  pub high : page < end
  pub here : has_bit (read_by_walk words 4 page) 6 ≡ true
  pub before : (q : ℕ) → start ≤ q → q < page → has_bit (read_by_walk words 4 q) 6 ≡ false

-- `Some`: the first page of the range whose entry is dirty. `None`: no page of the range has a dirty entry.
abbrev pub IsFirstDirty : List ℕ → ℕ → ℕ → Option ℕ → Type 0
IsFirstDirty words start end None = (q : ℕ) → start ≤ q → q < end → has_bit (read_by_walk words 4 q) 6 ≡ false
IsFirstDirty words start end (Some page) = IsDirtyPage words start end page
