-- Loads and stores through a processor's TLB, and spontaneous fills and evictions (Intel SDM volume 3, "4-Level
-- Paging", "Accessed and Dirty Flags", "Page-Fault Exceptions", "Caching Translation Information").
use Rattle.std.specs.Prelude.{ℕ, ◌≡◌, ◌+◌, ◌/◌, ◌%◌, ◌^◌, ◌<◌, ◌≤◌, ◌&&◌, ◌||◌, ◌⊎◌, not, nat_lt, Bool, true, false}
use Rattle.std.specs.Prelude.{List, length, take, drop, Option, Some, None, IsSome, Result, Ok, Err, if◌then◌else◌}
use Rattle.page_entry.specs.Entry.{Mapped}
use Rattle.page_entry.specs.declared.refusal.Refusal.{Refusal}
use Rattle.page_entry.specs.declared.refusal.Refusal.TheVariants as refusals
use Rattle.frames.specs.Frames.{FramesState, frame_at, bytes_of, with_bytes}
use Rattle.pcid_tlb.specs.declared.CachedEntry.{CachedEntry}
use Rattle.pcid_tlb.specs.Tlb.{cached, filled, evicted, without_page}
use Rattle.spaces.specs.Spaces.{Spaces, entry_at, with_entry}
use Rattle.shootdown.specs.Coherence.{Coheres}
use Rattle.shootdown.specs.Shootdown.{ShootdownState, current, tlb_of, with_tlb, is_there, not_running}

-- what loads and stores use: the processors, the page tables and the frames
pub record Hardware : Type 0 where
  pub shootdown : ShootdownState
  pub spaces : Spaces
  pub memory : FramesState

abbrev pub hardware : ShootdownState → Spaces → FramesState → Hardware
hardware shootdown spaces memory = record { shootdown = shootdown; spaces = spaces; memory = memory }

-- An access of 1 to 8 bytes within one page, below 2^47.
pub record IsAccess (va count : ℕ) : Type 0 where
  pub some : 0 < count
  pub few : count ≤ 8
  pub small : va < 2 ^ 47
  pub inside : va % 4096 + count ≤ 4096

-- what a TLB caches of a present entry
abbrev pub cached_of : ℕ → ℕ → Mapped → CachedEntry
cached_of pcid page entry = record {
  pcid = pcid;
  page = page;
  frame = entry.frame;
  writable = entry.writable;
  dirty = entry.dirty;
}

-- Whether a cached entry serves an access without a walk. Any entry serves a load. An entry that is writable and dirty
-- serves a store.
abbrev pub serves : Bool → CachedEntry → Bool
serves write e = not write || (e.writable && e.dirty)

-- The result of a walk: the entry with its accessed and dirty bits set for this access, or the code of a page fault. In
-- the code, bit 0 is set if the page is present, bit 1 for a store, and bit 2 for a user access.
abbrev pub walk : Option Mapped → Bool → Result Mapped ℕ
walk None write = Err (if write then 6 else 4)
walk (Some entry) write =
    if write && not entry.writable then Err 7
    else Ok (record entry { accessed = true; dirty = entry.dirty || write })

-- The hardware after processor p walked to this entry of a page of its current space. The entry is in the table, and
-- cached as the newest one.
abbrev pub walked : Hardware → ℕ → ℕ → Mapped → Hardware
walked h p page entry =
    let s = h.shootdown in
    record h {
      shootdown = with_tlb s p (filled (tlb_of s p) (cached_of (current s p) page entry));
      spaces = with_entry h.spaces (current s p) page (Some entry);
    }

-- the outcome of a walk with this result: the frame and the hardware, or the code of a page fault
abbrev pub walked_to : Hardware → ℕ → ℕ → Result Mapped ℕ → Result (ℕ × Hardware) ℕ
walked_to h p page (Ok entry) = Ok (entry.frame, walked h p page entry)
walked_to h p page (Err code) = Err code

abbrev pub walking : Hardware → ℕ → ℕ → Bool → Result (ℕ × Hardware) ℕ
walking h p page write = walked_to h p page (walk (entry_at h.spaces (current h.shootdown p) page) write)

-- the frame of the cached entry, if there is one and it serves the access
abbrev pub frame_served : Bool → Option CachedEntry → Option ℕ
frame_served write None = None
frame_served write (Some e) = if serves write e then Some e.frame else None

-- A translation, given the cached entry of the page. If that entry serves the access, its frame is used. Otherwise the
-- processor walks the table.
abbrev pub translated_by : Hardware → ℕ → ℕ → Bool → Option CachedEntry → Result (ℕ × Hardware) ℕ
translated_by h p page write (Some e) = if serves write e then Ok (e.frame, h) else walking h p page write
translated_by h p page write None = walking h p page write

-- A translation of a page of processor p's current space: the frame and the hardware after it, or a page fault's code.
abbrev pub translated : Hardware → ℕ → ℕ → Bool → Result (ℕ × Hardware) ℕ
translated h p page write =
    translated_by h p page write (cached (tlb_of h.shootdown p) (current h.shootdown p) page)

-- The hardware after a page fault. The processor's cached entry of that page under the current PCID is dropped, and
-- nothing else changes.
abbrev pub faulted : Hardware → ℕ → ℕ → Hardware
faulted h p page =
    let s = h.shootdown in
    record h { shootdown = with_tlb s p (without_page (tlb_of s p) (current s p) page) }

-- ---- the four acts

-- The processor or the range of an access is the cause of this refusal.
abbrev pub AccessRefused : Hardware → ℕ → ℕ → ℕ → Refusal → Type 0
AccessRefused h p va count refusals.Einval =
    (not_running h.shootdown p ≡ Some refusals.Einval) ⊎ ((not_running h.shootdown p ≡ None) × (IsAccess va count → ⊥))
AccessRefused h p va count refusals.Stalled = not_running h.shootdown p ≡ Some refusals.Stalled
AccessRefused h p va count why = ⊥

-- An access caused a page fault with this code.
pub record Faults (h : Hardware) (p va count : ℕ) (write : Bool) (code : ℕ) (new : Hardware) : Type 0 where
  -- The processor exists, and is active or interrupted.
  pub running : not_running h.shootdown p ≡ None
  pub access : IsAccess va count
  -- Neither a cached entry nor the page table allows the access.
  pub fault : translated h p (va / 4096) write ≡ Err code
  pub dropped : new ≡ faulted h p (va / 4096)

-- Processor p loaded `count` bytes at `va`: the bytes of the frame that the translation reaches.
pub record LoadMade (h : Hardware) (p va count : ℕ) (bytes : List ℕ) (new : Hardware) : Type 0 where
  pub running : not_running h.shootdown p ≡ None
  pub access : IsAccess va count
  -- the frame that is reached, and the hardware after the translation
  pub frame : ℕ
  pub translation : translated h p (va / 4096) false ≡ Ok (frame, new)
  -- The bytes are those of that frame.
  pub read : bytes ≡ take count (drop (va % 4096) (bytes_of (frame_at h.memory frame)))

-- Processor p stored these bytes at `va`: into the frame that the translation reaches, and into no other.
pub record StoreMade (h : Hardware) (p va : ℕ) (bytes : List ℕ) (new : Hardware) : Type 0 where
  pub running : not_running h.shootdown p ≡ None
  pub access : IsAccess va (length bytes)
  pub frame : ℕ
  pub mid : Hardware
  pub translation : translated h p (va / 4096) true ≡ Ok (frame, mid)
  -- The bytes are written into that frame.
  pub written : new ≡ record mid { memory = with_bytes mid.memory frame (va % 4096) bytes }

-- A load answers bytes, or is refused.
abbrev pub Loads : Hardware → ℕ → ℕ → ℕ → Result (List ℕ) Refusal → Hardware → Type 0
Loads h p va count (Ok bytes) new = LoadMade h p va count bytes new
Loads h p va count (Err (refusals.Fault code)) new = Faults h p va count false code new
Loads h p va count (Err why) new = AccessRefused h p va count why × (new ≡ h)

-- A store is made, or is refused.
abbrev pub Stores : Hardware → ℕ → ℕ → List ℕ → Result (Unit {0}) Refusal → Hardware → Type 0
Stores h p va bytes (Ok done) new = StoreMade h p va bytes new
Stores h p va bytes (Err (refusals.Fault code)) new = Faults h p va (length bytes) true code new
Stores h p va bytes (Err why) new = AccessRefused h p va (length bytes) why × (new ≡ h)

-- A TLB fill without an access, which hardware may make in any state of the processor. It caches a page of the current
-- space. The answer is whether the page has an entry.
abbrev pub filled_by : Hardware → ℕ → ℕ → Option Mapped → Bool × Hardware
filled_by h p page None = (false, h)
filled_by h p page (Some entry) = (true, walked h p page (record entry { accessed = true }))

-- Processor p's TLB is filled with a page of its current space. The refusal is Einval if the processor doesn't exist.
abbrev pub Fills : Hardware → ℕ → ℕ → Result Bool Refusal → Hardware → Type 0
Fills h p page (Ok there) new =
    (is_there h.shootdown p ≡ true)
    × ((there, new) ≡ filled_by h p page (entry_at h.spaces (current h.shootdown p) page))
Fills h p page (Err why) new = (is_there h.shootdown p ≡ false) × (why ≡ refusals.Einval) × (new ≡ h)

-- A TLB eviction without an access: the entry in a slot is dropped. The answer is whether the slot has an entry.
abbrev pub Evicts : Hardware → ℕ → ℕ → Result Bool Refusal → Hardware → Type 0
Evicts h p slot (Ok there) new =
    let s = h.shootdown in
    (is_there s p ≡ true) × (there ≡ nat_lt slot (length (tlb_of s p).entries))
    × (new ≡ record h { shootdown = with_tlb s p (evicted (tlb_of s p) slot) })
Evicts h p slot (Err why) new = (is_there h.shootdown p ≡ false) × (why ≡ refusals.Einval) × (new ≡ h)

-- Each entry of the page tables maps a frame that is in use.
abbrev pub MapsInUse : Spaces → FramesState → Type 0
MapsInUse spaces memory =
    (pcid page : ℕ) (entry : Mapped) → entry_at spaces pcid page ≡ Some entry → IsSome (frame_at memory entry.frame)

-- The condition for accesses. Cached entries that may be used agree with the page tables, and entries of the tables map
-- frames that are in use.
pub record IsReachable (h : Hardware) : Type 0 where
  pub coheres : Coheres h.spaces h.shootdown
  pub in_use : MapsInUse h.spaces h.memory

-- A load read the frame to which the page table maps the page, even if it used a cached entry.
pub record ReadsThrough (h : Hardware) (p va count : ℕ) (bytes : List ℕ) : Type 0 where
  pub entry : Mapped
  pub present : entry_at h.spaces (current h.shootdown p) (va / 4096) ≡ Some entry
  pub read : bytes ≡ take count (drop (va % 4096) (bytes_of (frame_at h.memory entry.frame)))

-- A store wrote into the frame to which the page table maps the page, and into no other. The table's entry allows
-- writing.
pub record WritesThrough (h : Hardware) (p va : ℕ) (bytes : List ℕ) (memory : FramesState) : Type 0 where
  pub entry : Mapped
  pub present : entry_at h.spaces (current h.shootdown p) (va / 4096) ≡ Some entry
  pub allowed : entry.writable ≡ true
  pub written : memory ≡ with_bytes h.memory entry.frame (va % 4096) bytes
