-- How the code walks a page table, and how its walks are translations.
use Rattle.std.specs.Prelude.{ℕ, ◌≡◌, Bool, Some, Ok, Err}
use Rattle.page_entry.specs.Entry.{Mapped}
use Rattle.page_entry.specs.declared.refusal.Refusal.{Refusal}
use Rattle.page_entry.specs.declared.refusal.Refusal.TheVariants.{Fault}
use Rattle.frames.specs.Frames.{FramesState}
use Rattle.pcid_tlb.specs.Tlb.{filled, without_page}
use Rattle.spaces.specs.Spaces.{Spaces, entry_at, with_entry}
use Rattle.shootdown.specs.Shootdown.{ShootdownState, current, tlb_of, with_tlb}
use Rattle.cpu.specs.Access.{hardware, cached_of, walk, translated}

-- A walk found an entry that allows the access. The entry's use is noted in the table, and the entry is cached.
pub record HasWalked (s : ShootdownState) (spaces : Spaces) (p page : ℕ) (write : Bool) (frame : ℕ)
    (new : ShootdownState) (tables : Spaces) : Type 0 where
  pub entry : Mapped
  pub allowed : walk (entry_at spaces (current s p) page) write ≡ Ok entry
  pub frame_is : frame ≡ entry.frame
  pub cached : new ≡ with_tlb s p (filled (tlb_of s p) (cached_of (current s p) page entry))
  pub noted : tables ≡ with_entry spaces (current s p) page (Some entry)

-- A translation reaches this frame, whatever the frames contain.
abbrev pub Translates : ShootdownState → Spaces → ℕ → ℕ → Bool → ℕ → ShootdownState → Spaces → Type 0
Translates s spaces p page write frame new tables =
    (memory : FramesState) → translated (hardware s spaces memory) p page write ≡ Ok (frame, hardware new tables memory)

-- A translation causes a page fault. The processor's cached entry of the page is dropped.
pub record HasFaulted (s : ShootdownState) (spaces : Spaces) (p page : ℕ) (write : Bool) (why : Refusal)
    (new : ShootdownState) : Type 0 where
  pub code : ℕ
  pub why_is : why ≡ Fault code
  pub fault : (memory : FramesState) → translated (hardware s spaces memory) p page write ≡ Err code
  pub dropped : new ≡ with_tlb s p (without_page (tlb_of s p) (current s p) page)
