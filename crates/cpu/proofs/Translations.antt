-- Which frame a translation reaches: the one that the page table maps the page to, also through a cached entry.
use Rattle.std.proofs.Common.{◌≡◌, ℕ, ◌<◌, ◌/◌, ◌^◌, inr, Bool, true, false, cond, not, ◌&&◌, ◌||◌, nat_lt, length}
use Rattle.std.proofs.Common.{Option, Some, None, IsSome, is_none, Result, Ok, Err, refl, sym, ap, ◌∙◌, subst}
use Rattle.page_entry.specs.Entry.{Mapped}
use Rattle.frames.specs.Frames.{FramesState, frame_at}
use Rattle.pcid_tlb.specs.declared.CachedEntry.{CachedEntry}
use Rattle.pcid_tlb.specs.Tlb.{cached}
use Rattle.pcid_tlb.proofs.Public.{cached-All}
use Rattle.spaces.specs.Spaces.{Spaces, entry_at}
use Rattle.shootdown.specs.Processors.{is_running}
use Rattle.shootdown.specs.Shootdown.{ShootdownState, processor_at, current, tlb_of, state_of, not_running}
use Rattle.shootdown.specs.Coherence.{IsUsable, Agrees, Coheres}
use Rattle.shootdown.proofs.Public.{running, is_there_below}
use Rattle.cpu.specs.Access.{Hardware, hardware, serves, frame_served, walking, walk}
use Rattle.cpu.specs.Access.{walked, walked_to, translated_by, translated, IsReachable}
use Rattle.cpu.specs.AtOnce.{frame_cached}
use Rattle.cpu.specs.Keeping.{IsDirtyAt}
use Rattle.cpu.specs.inside.Walks.{Translates}
use Rattle.cpu.proofs.Uses.{walks_by, entry_at-noted}

-- ---- what is reached

-- a translation reaches the frame that the table maps the page to
pub record Reaches (h : Hardware) (p page : ℕ) (write : Bool) (frame : ℕ) (new : Hardware) : Type 0 where
  pub entry : Mapped
  pub present : entry_at h.spaces (current h.shootdown p) page ≡ Some entry
  pub frame_is : frame ≡ entry.frame
  pub writable : write ≡ true → entry.writable ≡ true
  pub dirty : write ≡ true → IsDirtyAt new.spaces (current h.shootdown p) page
  pub same_memory : new.memory ≡ h.memory

-- a frame that is reached, and the hardware then
abbrev reaching : ℕ → Hardware → Result (ℕ × Hardware) ℕ
reaching frame h = Ok (frame, h)

both_results : (a b : ℕ) (x y : Hardware) → reaching a x ≡ reaching b y → (a ≡ b) × (x ≡ y)
both_results a b x y is =
    let same : (a, x) ≡ (b, y) = cc in
    (ap (λ (r : ℕ × Hardware). r.0) same, ap (λ (r : ℕ × Hardware). r.1) same)

serving : (write writable dirty : Bool) → (not write || (writable && dirty)) ≡ true → write ≡ true
    → (writable ≡ true) × (dirty ≡ true)
serving true true true frame_served stores = (refl, refl)
serving true true false frame_served stores = absurd (cc)
serving true false dirty frame_served stores = absurd (cc)
serving false writable dirty frame_served stores = absurd (cc)

module _ (h : Hardware) (p page : ℕ) (write : Bool) (frame : ℕ) (new : Hardware) where
  by_walk : (r : Result Mapped ℕ) → walk (entry_at h.spaces (current h.shootdown p) page) write ≡ r
      → walked_to h p page r ≡ Ok (frame, new)
      → Reaches h p page write frame new
  by_walk (Err code) is to = absurd (cc)
  by_walk (Ok entry) is to =
      let pcid = current h.shootdown p in
      let both = both_results entry.frame frame (walked h p page entry) new to in
      let by = walks_by (entry_at h.spaces pcid page) write entry is in
      record {
        entry = by.was;
        present = by.present;
        frame_is = sym both.0 ∙ by.used.same_frame;
        writable = by.writable;
        dirty = λ stores. subst (λ (x : Hardware). IsDirtyAt x.spaces pcid page) both.1
            (entry, entry_at-noted h.spaces pcid page entry, by.dirty stores);
        same_memory = ap (λ (x : Hardware). x.memory) (sym both.1);
      }

  by_entry : (e : CachedEntry) → (e.pcid ≡ current h.shootdown p) × (e.page ≡ page) × (Agrees h.spaces e)
      → serves write e ≡ true → reaching e.frame h ≡ reaching frame new
      → Reaches h p page write frame new
  by_entry e found does to =
      let pcid = current h.shootdown p in
      let both = both_results e.frame frame h new to in
      let agrees = found.2 in
      let present : entry_at h.spaces pcid page ≡ Some agrees.0 =
      ap (λ k. entry_at h.spaces k page) (sym found.0)
      ∙ ap (entry_at h.spaces e.pcid) (sym found.1)
      ∙ agrees.1 in
      record {
        entry = agrees.0;
        present = present;
        frame_is = sym both.0 ∙ agrees.2.same_frame;
        writable = λ stores. agrees.2.writable (serving write e.writable e.dirty does stores).0;
        dirty = λ stores. subst (λ (x : Hardware). IsDirtyAt x.spaces pcid page) both.1
            (agrees.0, present, agrees.2.dirty (serving write e.writable e.dirty does stores).1);
        same_memory = ap (λ (x : Hardware). x.memory) (sym both.1);
      }

  by_cached : Coheres h.spaces h.shootdown → p < length h.shootdown.processors
      → is_running (state_of h.shootdown p) ≡ true → (o : Option CachedEntry)
      → cached (tlb_of h.shootdown p) (current h.shootdown p) page ≡ o
      → translated_by h p page write o ≡ Ok (frame, new)
      → Reaches h p page write frame new
  by_cached coheres there runs None is to =
      by_walk (walk (entry_at h.spaces (current h.shootdown p) page) write) refl to
  by_cached coheres there runs (Some e) is to =
      let x = processor_at h.shootdown p in
      let found =
      cached-All (λ e. IsUsable x e → Agrees h.spaces e) x.tlb x.space page e (coheres.covered p there) is in
      by_test (found.0, found.1, found.2 (inr (runs, found.0))) (serves write e) refl to
    where
      by_test : (e.pcid ≡ current h.shootdown p) × (e.page ≡ page) × (Agrees h.spaces e)
          → (b : Bool) → serves write e ≡ b
          → cond b (Ok (e.frame, h)) (walked_to h p page (walk (entry_at h.spaces (current h.shootdown p) page) write))
          ≡ Ok (frame, new)
          → Reaches h p page write frame new
      by_test found true does to = by_entry e found does to
      by_test found false fails to = by_walk (walk (entry_at h.spaces (current h.shootdown p) page) write) refl to

-- A running processor's translation reaches that frame, where cached entries that may be used agree with the tables.
pub reaches : (h : Hardware) (p page : ℕ) (write : Bool) (frame : ℕ) (new : Hardware)
    → Coheres h.spaces h.shootdown → p < length h.shootdown.processors
    → is_running (state_of h.shootdown p) ≡ true → translated h p page write ≡ Ok (frame, new)
    → Reaches h p page write frame new
reaches h p page write frame new coheres there runs to = by_cached h p page write frame new coheres there runs
    (cached (tlb_of h.shootdown p) (current h.shootdown p) page) refl to

-- ---- what the code reaches

pub reached : {s new : ShootdownState} {spaces tables : Spaces} {memory : FramesState} {p page : ℕ} {write : Bool}
    {frame : ℕ} → IsReachable (hardware s spaces memory) → not_running s p ≡ None
    → Translates s spaces p page write frame new tables
    → Reaches (hardware s spaces memory) p page write frame (hardware new tables memory)
reached {s} {new} {spaces} {tables} {memory} {p} {page} {write} {frame} reachable free to =
    let runs = running s p free in
    reaches (hardware s spaces memory) p page write frame (hardware new tables memory) reachable.coheres
    (is_there_below s p runs.0) runs.1 (to memory)

-- a frame that is reached is in use
pub in_use : {h new : Hardware} {p page : ℕ} {write : Bool} {frame : ℕ} → IsReachable h
    → Reaches h p page write frame new → IsSome (frame_at h.memory frame)
in_use {h} {new} {p} {page} {write} {frame} reachable r =
    subst (λ f. IsSome (frame_at h.memory f)) (sym r.frame_is)
    (reachable.in_use (current h.shootdown p) page r.entry r.present)

-- ---- what is reached without a walk

-- a cached entry that serves the access leads to its frame
served_by : (h : Hardware) (p page : ℕ) (write : Bool) (o : Option CachedEntry) (frame : ℕ)
    → frame_served write o ≡ Some frame
    → translated_by h p page write o ≡ Ok (frame, h)
served_by h p page write None frame is = absurd (cc)
served_by h p page write (Some e) frame is = by (serves write e) is
  where
    by : (b : Bool) → cond b (Some e.frame) None ≡ Some frame
        → cond b (reaching e.frame h) (walking h p page write) ≡ Ok (frame, h)
    by true is = cc
    by false is = absurd (cc)

-- what a test chose
chosen : (b : Bool) (o : Option ℕ) (frame : ℕ) → cond b o None ≡ Some frame → (b ≡ true) × (o ≡ Some frame)
chosen true o frame is = (refl, is)
chosen false o frame is = absurd (cc)

none_is : {X : Type 0} (o : Option X) (b : Bool) → (is_none o && b) ≡ true → o ≡ None
none_is None b is = refl
none_is (Some x) b is = absurd (cc)

-- the frame that is reached through a cached entry is in use
pub cached_in_use : (s : ShootdownState) (spaces : Spaces) (memory : FramesState) (p va : ℕ) (write : Bool) (frame : ℕ)
    → IsReachable (hardware s spaces memory) → frame_cached s p va write ≡ Some frame
    → IsSome (frame_at memory frame)
cached_in_use s spaces memory p va write frame reachable is =
    let both = chosen (is_none (not_running s p) && nat_lt va (2 ^ 47))
    (frame_served write (cached (tlb_of s p) (current s p) (va / 4096))) frame is in
    let h = hardware s spaces memory in
    let r : Reaches h p (va / 4096) write frame h =
    reached {s = s} {new = s} {spaces = spaces} {tables = spaces} reachable
    (none_is (not_running s p) (nat_lt va (2 ^ 47)) both.0)
    (λ memory. served_by (hardware s spaces memory) p (va / 4096) write
    (cached (tlb_of s p) (current s p) (va / 4096)) frame both.1) in
    in_use reachable r
