-- A translation lookaside buffer whose entries are tagged with a PCID, and how fills and invalidations change it. See
-- Intel SDM volume 3, "Caching Translation Information" and "Invalidation of TLBs and Paging-Structure Caches".
use Rattle.std.specs.Prelude.{◌≡◌, ◌<◌, ◌≤◌, ℕ, Bool, true, ◌&&◌, not, ◌==◌, nat_lt}
use Rattle.std.specs.Prelude.{if◌then◌else◌, List, ◌∷◌, [], ◌++◌, length, drop, Option}
use Rattle.std.specs.List.{filter, find, remove, AllPairs}
use Rattle.pcid_tlb.specs.declared.CachedEntry.{CachedEntry}
use Rattle.pcid_tlb.specs.declared.Invpcid.{Invpcid}
use Rattle.pcid_tlb.specs.declared.Invpcid.TheVariants.{IndividualAddress, SingleContext}
use Rattle.pcid_tlb.specs.declared.Invpcid.TheVariants.{AllContextsAndGlobals, AllContexts}

-- The number of entries that fit, and the cached entries, oldest first.
pub record TlbState : Type 0 where
  pub capacity : ℕ
  pub entries : List CachedEntry

-- whether an entry has this PCID
abbrev pub is_of_pcid : ℕ → CachedEntry → Bool
is_of_pcid pcid e = e.pcid == pcid

-- whether an entry translates this page of this PCID
abbrev pub is_of : ℕ → ℕ → CachedEntry → Bool
is_of pcid page e = e.pcid == pcid && e.page == page

-- the entry that translates this page of this PCID, if there is one
abbrev pub cached : TlbState → ℕ → ℕ → Option CachedEntry
cached t pcid page = find (is_of pcid page) t.entries

-- the TLB with only the entries that pass the test
abbrev pub keep_entries : (CachedEntry → Bool) → TlbState → TlbState
keep_entries test t = record t { entries = filter test t.entries }

-- the TLB without the entry of this page of this PCID
abbrev pub without_page : TlbState → ℕ → ℕ → TlbState
without_page t pcid page = keep_entries (λ e. not (is_of pcid page e)) t

-- the TLB without the entries of this PCID
abbrev pub without_pcid : TlbState → ℕ → TlbState
without_pcid t pcid = keep_entries (λ e. not (is_of_pcid pcid e)) t

-- whether this form of INVPCID drops the entry
abbrev pub drops : Invpcid → CachedEntry → Bool
drops (IndividualAddress pcid page) e = is_of pcid page e
drops (SingleContext pcid) e = is_of_pcid pcid e
drops AllContextsAndGlobals e = true
drops AllContexts e = true

-- the TLB after this form of INVPCID
abbrev pub invalidated : TlbState → Invpcid → TlbState
invalidated t kind = keep_entries (λ e. not (drops kind e)) t

-- the TLB after a load of CR3 with this PCID, with or without the bit that keeps its entries
abbrev pub cr3_loaded : TlbState → ℕ → Bool → TlbState
cr3_loaded t pcid keep = if keep then t else without_pcid t pcid

-- the entries, without the oldest if no further entry fits
abbrev pub with_room : ℕ → List CachedEntry → List CachedEntry
with_room capacity entries = if nat_lt (length entries) capacity then entries else drop 1 entries

-- Rule: full TLB: If the TLB is full, the entry of a page that wasn't cached before replaces the oldest entry.
-- The TLB with `e` as its newest entry. It replaces the entry of its page and PCID if there is one. Otherwise it
-- replaces the oldest entry if the TLB is full.
abbrev pub filled : TlbState → CachedEntry → TlbState
filled t e = record t { entries = with_room t.capacity (filter (λ x. not (is_of e.pcid e.page x)) t.entries) ++ e ∷ [] }

-- the TLB without the entry in this slot; slots are counted from the oldest entry
abbrev pub evicted : TlbState → ℕ → TlbState
evicted t slot = record t { entries = remove t.entries slot }

-- The two entries are not for the same page of the same PCID.
abbrev pub AreApart : CachedEntry → CachedEntry → Type 0
AreApart a b = a.pcid ≡ b.pcid → a.page ≡ b.page → ⊥

-- At least one entry fits, and no more entries are cached than fit. There is at most one for each page of each PCID.
pub record IsTlb (t : TlbState) : Type 0 where
  pub roomy : 0 < t.capacity
  pub bounded : length t.entries ≤ t.capacity
  pub distinct : AllPairs AreApart t.entries
