-- Cached entries that a processor may still use agree with the page tables.
use Rattle.std.specs.Prelude.{ℕ, ◌≡◌, ◌<◌, ◌⊎◌, true, false, length, Some, slice_index_or}
use Rattle.std.specs.List.{All}
use Rattle.page_entry.specs.Entry.{Mapped}
use Rattle.pcid_tlb.specs.declared.CachedEntry.{CachedEntry}
use Rattle.spaces.specs.declared.change.Change.{Change}
use Rattle.spaces.specs.Spaces.{Spaces, entry_at}
use Rattle.spaces.specs.Changes.{affects, touches}
use Rattle.shootdown.specs.declared.lock.Lock.{Lock}
use Rattle.shootdown.specs.declared.proc_state.ProcState.TheVariants.{Active}
use Rattle.shootdown.specs.Processors.{Processor, is_running, queue_drops}
use Rattle.shootdown.specs.Shootdown.{ShootdownState, processor_at, state_of, current}

-- The processor may use a cached entry, now or later. Either its queue doesn't drop the entry, or it is running in the
-- entry's space, and uses the entry until it carries the queue out.
abbrev pub IsUsable : Processor → CachedEntry → Type 0
IsUsable p e = (queue_drops p.queue e.pcid e.page ≡ false) ⊎ ((is_running p.state ≡ true) × (e.pcid ≡ p.space))

-- A cached entry is backed by the page's entry: both map the same frame. The cached entry has the right to write, or
-- the dirty bit, only if the page's entry has it.
pub record IsBackedBy (entry : Mapped) (e : CachedEntry) : Type 0 where
  pub same_frame : e.frame ≡ entry.frame
  pub writable : e.writable ≡ true → entry.writable ≡ true
  pub dirty : e.dirty ≡ true → entry.dirty ≡ true

abbrev pub Agrees : Spaces → CachedEntry → Type 0
Agrees spaces e = (entry : Mapped) × (entry_at spaces e.pcid e.page ≡ Some entry) × IsBackedBy entry e

-- All cached entries that the processor may use agree with the page tables.
abbrev pub IsCovered : Spaces → Processor → Type 0
IsCovered spaces p = All (λ e. IsUsable p e → Agrees spaces e) p.tlb.entries

-- Rule: stale entry: A processor drops a cached entry that a change made stale before the processor can use the entry.
-- The processors and the page tables cohere. While a change is in progress, a processor's queue drops every affected
-- entry that the processor may cache, now or later. No active processor is in a space that the change touches.
pub record Coheres (spaces : Spaces) (s : ShootdownState) : Type 0 where
  pub covered : (p : ℕ) → p < length s.processors → IsCovered spaces (processor_at s p)
  pub warned : (lock : Lock) → s.lock ≡ Some lock → (p pcid page : ℕ) → p < length s.processors
      → slice_index_or (processor_at s p).may_cache pcid false ≡ true → affects spaces lock.change pcid page ≡ true
      → queue_drops (processor_at s p).queue pcid page ≡ true
  pub away : (lock : Lock) → s.lock ≡ Some lock → (p : ℕ) → p < length s.processors
      → state_of s p ≡ Active → touches spaces lock.change (current s p) ≡ false

-- A call that doesn't change the page tables keeps coherence.
abbrev pub KeepsCoherence : ShootdownState → ShootdownState → Type 0
KeepsCoherence old new = (spaces : Spaces) → Coheres spaces old → Coheres spaces new

-- No processor uses what the change affects. No running processor is in a space that the change touches. No processor
-- may use a cached entry of an affected page.
pub record IsUnused (spaces : Spaces) (change : Change) (s : ShootdownState) : Type 0 where
  pub away : (p : ℕ) → p < length s.processors → is_running (state_of s p) ≡ true
      → touches spaces change (current s p) ≡ false
  pub unused : (p : ℕ) → p < length s.processors
      → All (λ e. affects spaces change e.pcid e.page ≡ true → IsUsable (processor_at s p) e → ⊥)
      (processor_at s p).tlb.entries

-- No processor may use a cached entry of this PCID.
abbrev pub IsForgotten : ShootdownState → ℕ → Type 0
IsForgotten s pcid = (p : ℕ) → p < length s.processors
    → All (λ e. e.pcid ≡ pcid → IsUsable (processor_at s p) e → ⊥) (processor_at s p).tlb.entries

-- With the new spaces, the change affects and touches nothing that it didn't affect or touch before.
pub record IsNoWider (change : Change) (old new : Spaces) : Type 0 where
  pub affected : (pcid page : ℕ) → affects new change pcid page ≡ true → affects old change pcid page ≡ true
  pub touched : (pcid : ℕ) → touches new change pcid ≡ true → touches old change pcid ≡ true
