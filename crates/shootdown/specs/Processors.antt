-- One processor: its phase in a shootdown, its current space, its TLB and its queue of invalidations. For each PCID it
-- has a flag: whether it may cache entries of this PCID (Black, Rashid, Golub, Hill and Baron 1989; Intel SDM volume 3,
-- "Caching Translation Information").
use Rattle.std.specs.Prelude.{ℕ, ◌≡◌, ◌<◌, ◌≤◌, ◌+◌, ◌==◌, ◌&&◌, ◌||◌, not, nat_lt, Bool, true, false, List}
use Rattle.std.specs.Prelude.{[], ◌∷◌, ◌++◌, length, fold, replicate, slice_set, slice_index_or, if◌then◌else◌}
use Rattle.std.specs.List.{list_any, All}
use Rattle.pcid_tlb.specs.declared.Invpcid.{Invpcid}
use Rattle.pcid_tlb.specs.declared.Invpcid.TheVariants.{IndividualAddress, SingleContext}
use Rattle.pcid_tlb.specs.declared.Invpcid.TheVariants.{AllContextsAndGlobals, AllContexts}
use Rattle.pcid_tlb.specs.Tlb.{TlbState, keep_entries, cr3_loaded, IsTlb}
use Rattle.shootdown.specs.declared.proc_state.ProcState.{ProcState}
use Rattle.shootdown.specs.declared.proc_state.ProcState.TheVariants.{Active, Interrupted}

pub record Processor : Type 0 where
  pub state : ProcState
  -- the PCID of its current space
  pub space : ℕ
  pub tlb : TlbState
  -- the invalidations that it still has to carry out, in order
  pub queue : List Invpcid
  -- for each PCID, whether the processor may cache its entries
  pub may_cache : List Bool

-- the greatest number of invalidations in a queue
abbrev pub queue_len : ℕ
queue_len = 8

-- the number of PCIDs, which have 12 bits
abbrev pub pcids : ℕ
pcids = 4096

-- The flags of a processor that may cache only entries of PCID 0. This is a definition of its own, so that proofs never
-- compute all of them.
unfoldable pub first_flags : List Bool
first_flags = slice_set (replicate pcids false) 0 true

-- a processor at boot: active in space 0, with an empty TLB
abbrev pub fresh_processor : ℕ → Processor
fresh_processor tlb = record {
  state = Active;
  space = 0;
  tlb = record { capacity = tlb; entries = [] };
  queue = [];
  may_cache = first_flags;
}

-- whether a processor in this state executes loads and stores
abbrev pub is_running : ProcState → Bool
is_running Active = true
is_running Interrupted = true
is_running _ = false

-- whether an invalidation drops every entry of a PCID
abbrev pub drops_pcid : Invpcid → ℕ → Bool
drops_pcid (IndividualAddress pcid page) q = false
drops_pcid (SingleContext pcid) q = q == pcid
drops_pcid AllContextsAndGlobals q = true
drops_pcid AllContexts q = true

-- whether an invalidation drops the entry of a page of a PCID
abbrev pub drops_page : Invpcid → ℕ → ℕ → Bool
drops_page (IndividualAddress pcid page) q other = q == pcid && other == page
drops_page a q other = drops_pcid a q

-- whether one of these invalidations drops the entry of a page of a PCID
abbrev pub queue_drops : List Invpcid → ℕ → ℕ → Bool
queue_drops queue pcid page = list_any (λ a. drops_page a pcid page) queue

-- the flags of the PCIDs from i on; a set flag stays set only if its PCID passes
abbrev pub flags_kept : (ℕ → Bool) → ℕ → List Bool → List Bool
flags_kept passes i [] = []
flags_kept passes i (flag ∷ flags) = (flag && passes i) ∷ flags_kept passes (i + 1) flags

-- The processor carries out its queue, which drops entries from the TLB. If the queue drops all entries of a PCID, the
-- flag of this PCID is cleared, unless it is the PCID of the current space.
abbrev pub drained : Processor → Processor
drained p = record p {
  tlb = keep_entries (λ e. not (queue_drops p.queue e.pcid e.page)) p.tlb;
  queue = [];
  may_cache = flags_kept (λ pcid. pcid == p.space || not (list_any (λ a. drops_pcid a pcid) p.queue)) 0 p.may_cache;
}

-- Rule: full queue: Instead of a ninth invalidation, the queue contains one invalidation of all TLB entries.
-- the queue with one more invalidation
abbrev pub queued : List Invpcid → Invpcid → List Invpcid
queued queue a = if nat_lt (length queue) queue_len then queue ++ a ∷ [] else AllContexts ∷ []

-- whether the processor may cache entries that the invalidation drops
abbrev pub is_concerned : Processor → Invpcid → Bool
is_concerned p (IndividualAddress pcid page) = slice_index_or p.may_cache pcid false
is_concerned p (SingleContext pcid) = slice_index_or p.may_cache pcid false
is_concerned p AllContextsAndGlobals = true
is_concerned p AllContexts = true

-- The processor is notified of an invalidation if it may cache entries that the invalidation drops, even if another
-- space is current.
abbrev pub notified : Processor → Invpcid → Processor
notified p a = if is_concerned p a then record p { queue = queued p.queue a } else p

-- The processor is notified of several invalidations, one after the other.
abbrev pub notified_all : Processor → List Invpcid → Processor
notified_all p actions = fold notified p actions

-- The processor carries out its queue and becomes active.
abbrev pub woken : Processor → Processor
woken p = record (drained p) { state = Active }

-- The processor loads another PCID, and keeps or drops the cached entries of this PCID. From then on it may cache such
-- entries.
abbrev pub loaded : Processor → ℕ → Bool → Processor
loaded p pcid keep = record p {
  space = pcid;
  tlb = cr3_loaded p.tlb pcid keep;
  may_cache = slice_set p.may_cache pcid true;
}

-- The processor carries out its queue and loads another PCID.
abbrev pub switched : Processor → ℕ → Bool → Processor
switched p pcid keep = loaded (drained p) pcid keep

-- An invariant of each processor. Its TLB is well-formed, and its queue isn't too long. PCIDs have 12 bits. The flag of
-- its current space's PCID is set. So is the flag of each cached entry's PCID, even if the queue will drop the entry.
pub record IsProcessor (p : Processor) : Type 0 where
  pub tlb : IsTlb p.tlb
  pub short_queue : length p.queue ≤ queue_len
  pub small : p.space < pcids
  pub flags : length p.may_cache ≡ pcids
  pub current : slice_index_or p.may_cache p.space false ≡ true
  pub known : All (λ e. slice_index_or p.may_cache e.pcid false ≡ true) p.tlb.entries
