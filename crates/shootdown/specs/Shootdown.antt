-- The processors, the machine's one lock, and the four phases of a shootdown, which changes mappings. The initiator
-- takes the lock, queues invalidations and interrupts the other processors. The others stall. The change is made. The
-- others resume (Black, Rashid, Golub, Hill and Baron 1989).
use Rattle.std.specs.Prelude.{ℕ, ◌≡◌, ◌≢◌, ◌↔◌, ◌<◌, ◌≤◌, ◌+◌, ◌==◌, nat_lt, nat_le, Bool, true}
use Rattle.std.specs.Prelude.{false, is_some, not, List, [], ◌∷◌, length, map, replicate, slice_set}
use Rattle.std.specs.Prelude.{slice_index_or, count_by, Option, Some, None, if◌then◌else◌}
use Rattle.std.specs.Option.{option_or}
use Rattle.std.specs.List.{list_any, range_with_len}
use Rattle.page_entry.specs.declared.numbers.FilePage.{FilePage}
use Rattle.page_entry.specs.declared.refusal.Refusal.{Refusal}
use Rattle.page_entry.specs.declared.refusal.Refusal.TheVariants as refusals
use Rattle.mappings.specs.declared.page_range.PageRange.{PageRange}
use Rattle.pcid_tlb.specs.Tlb.{TlbState}
use Rattle.pcid_tlb.specs.declared.Invpcid.{Invpcid}
use Rattle.pcid_tlb.specs.declared.Invpcid.TheVariants.{IndividualAddress, SingleContext, AllContexts}
use Rattle.spaces.specs.declared.change.Change.{Change}
use Rattle.spaces.specs.declared.change.Change.TheVariants.{Unmap, Protect, Reclaim, SetLength, Checkpoint}
use Rattle.spaces.specs.Spaces.{Spaces}
use Rattle.spaces.specs.Changes.{entries_of, touches}
use Rattle.shootdown.specs.declared.lock.Lock.{Lock}
use Rattle.shootdown.specs.declared.proc_state.ProcState.{ProcState}
use Rattle.shootdown.specs.declared.proc_state.ProcState.TheVariants.{Active, Interrupted, Stalled, Initiating, Idle}
use Rattle.shootdown.specs.Processors.{Processor, fresh_processor, is_running, notified}
use Rattle.shootdown.specs.Processors.{notified_all, woken, switched, IsProcessor}

-- the processors, and the lock; if the lock is held, its holder and the change for which it is held
pub record ShootdownState : Type 0 where
  pub processors : List Processor
  pub lock : Option Lock

-- the state at boot
abbrev pub fresh_shootdown : ℕ → ℕ → ShootdownState
fresh_shootdown cpus tlb = record { processors = replicate cpus (fresh_processor tlb); lock = None }

abbrev pub processor_at : ShootdownState → ℕ → Processor
processor_at s p = slice_index_or s.processors p (fresh_processor 1)

abbrev pub state_of : ShootdownState → ℕ → ProcState
state_of s p = (processor_at s p).state

-- the PCID of a processor's current space
abbrev pub current : ShootdownState → ℕ → ℕ
current s p = (processor_at s p).space

abbrev pub with_processor : ShootdownState → ℕ → Processor → ShootdownState
with_processor s p processor = record s { processors = slice_set s.processors p processor }

-- the TLB of a processor, and the state with another TLB for this processor
abbrev pub tlb_of : ShootdownState → ℕ → TlbState
tlb_of s p = (processor_at s p).tlb

abbrev pub with_tlb : ShootdownState → ℕ → TlbState → ShootdownState
with_tlb s p tlb = with_processor s p (record (processor_at s p) { tlb = tlb })

-- whether there is a processor with this number
abbrev pub is_there : ShootdownState → ℕ → Bool
is_there s p = nat_lt p (length s.processors)

-- The refusal that is checked before any other: no processor has this number, or it doesn't execute loads and stores.
abbrev pub not_running : ShootdownState → ℕ → Option Refusal
not_running s p =
    if not (is_there s p) then Some refusals.Einval
    else (if is_running (state_of s p) then None else Some refusals.Stalled)

-- the same refusal, or the one for a lock that is held
abbrev pub not_free : ShootdownState → ℕ → Option Refusal
not_free s p = option_or (not_running s p) (if is_some s.lock then Some refusals.Locked else None)

-- which processors are interrupted and haven't stalled yet, and their number
abbrev pub is_interrupted : ProcState → Bool
is_interrupted Interrupted = true
is_interrupted _ = false

abbrev pub interrupted : ShootdownState → ℕ
interrupted s = count_by (λ p. is_interrupted p.state) s.processors

-- whether a processor's current space has this PCID
abbrev pub is_current : ShootdownState → ℕ → Bool
is_current s pcid = list_any (λ p. p.space == pcid) s.processors

-- ---- the invalidations of a change

-- one invalidation per page for up to 4 pages, otherwise one for the whole PCID
abbrev pub range_actions : ℕ → PageRange → List Invpcid
range_actions pcid range =
    if nat_le range.count 4 then map (IndividualAddress pcid) (range_with_len range.first range.count)
    else SingleContext pcid ∷ []

-- one invalidation for each present entry of a page of a file, in the order of PCIDs and then of pages
abbrev pub entry_actions : Spaces → FilePage → List Invpcid
entry_actions spaces owner =
    map (λ entry. IndividualAddress entry.0 entry.1) (entries_of spaces owner)

abbrev pub actions_of : Spaces → Change → List Invpcid
actions_of spaces (Unmap pcid range) = range_actions pcid range
actions_of spaces (Protect pcid range rights) = range_actions pcid range
actions_of spaces (Reclaim owner) = entry_actions spaces owner
actions_of spaces (SetLength file length) = AllContexts ∷ []
actions_of spaces Checkpoint = AllContexts ∷ []

-- ---- the phases

-- The state of a processor other than the initiator when a change begins. Only an active processor is interrupted, and
-- only if the change touches its space.
abbrev pub state_when_begun : Bool → ProcState → ProcState
state_when_begun true Active = Interrupted
state_when_begun touched state = state

-- the processors from number i on, when processor p begins a change
abbrev pub begun_from : ℕ → ℕ → Spaces → Change → List Processor → List Processor
begun_from i p spaces change [] = []
begun_from i p spaces change (x ∷ xs) =
    notified_all (record x {
      state = if i == p then Initiating
          else state_when_begun (touches spaces change x.space) x.state;
    }) (actions_of spaces change)
    ∷ begun_from (i + 1) p spaces change xs

abbrev pub begun : ShootdownState → ℕ → Spaces → Change → ShootdownState
begun s p spaces change = record {
  processors = begun_from 0 p spaces change s.processors;
  lock = Some (record { holder = p; change = change });
}

-- An interrupted processor stalls.
abbrev pub stalled : ShootdownState → ℕ → ShootdownState
stalled s p = with_processor s p (record (processor_at s p) { state = Stalled })

-- The initiator carries out its own queue and becomes active. The lock is free.
abbrev pub finished : ShootdownState → ℕ → ShootdownState
finished s p = record (with_processor s p (woken (processor_at s p))) { lock = None }

-- A stalled or idle processor carries out its queue and becomes active.
abbrev pub resumed : ShootdownState → ℕ → ShootdownState
resumed s p = with_processor s p (woken (processor_at s p))

abbrev pub idled : ShootdownState → ℕ → ShootdownState
idled s p = with_processor s p (record (processor_at s p) { state = Idle })

abbrev pub switched_to : ShootdownState → ℕ → ℕ → Bool → ShootdownState
switched_to s p pcid keep = with_processor s p (switched (processor_at s p) pcid keep)

-- A space is destroyed. Each processor that may cache entries of its PCID is notified to drop them.
abbrev pub destroyed : ShootdownState → ℕ → ShootdownState
destroyed s pcid = record s { processors = map (λ p. notified p (SingleContext pcid)) s.processors }

-- An invariant of the state. There are 1 to 16 processors. The lock's holder is the only processor that initiates a
-- change. While the lock is free, no processor initiates or is interrupted.
pub record IsShootdown (s : ShootdownState) : Type 0 where
  pub some : 0 < length s.processors
  pub few : length s.processors ≤ 16
  pub each : (p : ℕ) → p < length s.processors → IsProcessor (processor_at s p)
  pub free : s.lock ≡ None → (p : ℕ) → p < length s.processors → (state_of s p ≢ Initiating)
      × (state_of s p ≢ Interrupted)
  pub held : (lock : Lock) → s.lock ≡ Some lock
      → (lock.holder < length s.processors)
      × ((p : ℕ) → p < length s.processors → (state_of s p ≡ Initiating) ↔ (p ≡ lock.holder))
