-- What serving a fault keeps: entries stay backed, and the page tables only grow.
use Rattle.std.proofs.Common.{ℕ, ◌≡◌, ◌&&◌, ◌||◌, not, Bool, true, false, cond, List}
use Rattle.std.proofs.Common.{Option, Some, None, refl, sym, ap, subst, ◌∙◌, inl, inr}
use Rattle.std.proofs.lemmas.Bool.{and_parts, not-true, or_parts, false≢true}
use Rattle.std.proofs.lemmas.List.{get_or-set_same}
use Rattle.std.proofs.lemmas.Option.{slice_get_within}
use Rattle.page_entry.specs.Entry.{Mapped}
use Rattle.page_entry.specs.declared.numbers.FilePage.{FilePage}
use Rattle.mappings.specs.declared.place.Place.{Place}
use Rattle.mappings.specs.Places.{may_write}
use Rattle.frames.specs.Frames.{FramesState, page_of}
use Rattle.spaces.specs.Spaces.{Spaces, entry_at, place_at, with_entry}
use Rattle.spaces.specs.Changes.{Grows, Keeps}
use Rattle.checkpoint.specs.Checkpoint.{CheckpointState, Holds, is_held}
use Rattle.checkpoint.specs.Backing.{AreBacked, page_at}
use Rattle.checkpoint.proofs.Public.{AreBacked-with_page, AreBacked-with_copy, AreBacked-with_entry, MayBe}
use Rattle.spaces.proofs.Public.{Grows-with_entry}
use Rattle.fault.specs.Fault.{Brings, CopiesOut, fixed_entry}

module _ (c : CheckpointState) (spaces : Spaces) where
  -- the page comes into a frame
  pub backed_brought : (memory mid : FramesState) (owner : FilePage) (bytes : List ℕ) (frame : ℕ)
      → Brings memory owner bytes frame mid → AreBacked memory c spaces
      → AreBacked mid c spaces × Holds mid frame owner
  backed_brought memory mid owner bytes frame (inl there) backed =
      subst (λ m. AreBacked m c spaces × Holds m frame owner) (sym there.1) (backed, there.0)
  backed_brought memory mid owner bytes frame (inr read) backed =
      subst (λ m. AreBacked m c spaces × Holds m frame owner) (sym read.2) (
        AreBacked-with_page memory c spaces frame owner bytes read.1 backed,
        ap page_of (get_or-set_same memory.frames frame (Some (record { page = owner; bytes = bytes })) None
            (slice_get_within memory.frames frame None read.1)),
      )

  -- its bytes are copied, or aren't
  pub backed_copied : (b : Bool) (mid memory : FramesState) (frame : ℕ) (owner : FilePage)
      → CopiesOut b mid frame memory → AreBacked mid c spaces × Holds mid frame owner
      → AreBacked memory c spaces × Holds memory frame owner
  backed_copied false mid memory frame owner same was =
      subst (λ m. AreBacked m c spaces × Holds m frame owner) (sym same) was
  backed_copied true mid memory frame owner copied was =
      subst (λ m. AreBacked m c spaces × Holds m frame owner) (sym copied.2) (
        AreBacked-with_copy mid c spaces copied.0 frame copied.1 was.0,
        was.1,
      )

one_place : (a b : Place) → Some a ≡ Some b → a ≡ b
one_place a b e = cc

-- an entry with the right to write that it can have
may_write_so : (memory : FramesState) (c : CheckpointState) (place : Place) (writable : Bool)
    → writable ≡ (may_write place.rights && not (is_held memory c (page_at place))) → writable ≡ true
    → (may_write place.rights ≡ true) × (is_held memory c (page_at place) ≡ false)
may_write_so memory c place writable is e =
    let parts = and_parts (may_write place.rights) (not (is_held memory c (page_at place))) (sym is ∙ e) in
    (parts.0, not-true (is_held memory c (page_at place)) parts.1)

-- the entry that serves a fault is one that may be
pub MayBe-fixed : (memory : FramesState) (c : CheckpointState) (spaces : Spaces)
    (pcid page : ℕ) (place : Place) (frame : ℕ) (can write : Bool) (old : Option Mapped)
    → can ≡ (may_write place.rights && not (is_held memory c (page_at place))) → place_at spaces pcid page ≡ Some place
    → entry_at spaces pcid page ≡ old → Holds memory frame (page_at place) → AreBacked memory c spaces
    → MayBe memory c place (fixed_entry old frame can write)
MayBe-fixed memory c spaces pcid page place frame can write None is mapped present holds backed = record {
  held = holds;
  allowed = λ writable. (may_write_so memory c place can is writable).0;
  thawed = λ writable. (may_write_so memory c place can is writable).1;
}
MayBe-fixed memory c spaces pcid page place frame can write (Some entry) is mapped present holds backed =
    let was = backed pcid page entry present in
    let same : was.place ≡ place = one_place was.place place (sym was.mapped ∙ mapped) in
    let held : Holds memory entry.frame (page_at place) =
    subst (λ p. Holds memory entry.frame (page_at p)) same was.held in
    let stays : MayBe memory c place entry = record {
      held = held;
      allowed = λ writable. ap (λ (p : Place). may_write p.rights) (sym same) ∙ was.allowed writable;
      thawed = λ writable. ap (λ p. is_held memory c (page_at p)) (sym same) ∙ was.thawed writable;
    } in
    let changed : MayBe memory c place (record entry { writable = can }) = record {
      held = held;
      allowed = λ writable. (may_write_so memory c place can is writable).0;
      thawed = λ writable. (may_write_so memory c place can is writable).1;
    } in
    elim (not write || entry.writable) as (λ b. MayBe memory c place (cond b entry (record entry { writable = can }))) [
      | true ↦ stays
      | false ↦ changed
    ]

-- an entry that serves a fault keeps what was there
pub Keeps-fixed : (entry : Mapped) (frame : ℕ) (can write : Bool)
    → Keeps entry (fixed_entry (Some entry) frame can write)
Keeps-fixed entry frame can write =
    elim (not write || entry.writable)
    as (λ b. (not write || entry.writable) ≡ b → Keeps entry (cond b entry (record entry { writable = can }))) [
      | true ↦ λ _. record { same_frame = refl; still_writable = λ writable. writable; still_dirty = λ dirty. dirty }
      | false ↦ λ e. record {
        same_frame = refl;
        still_writable = λ writable. absurd (false≢true (sym (or_parts (not write) entry.writable e).1 ∙ writable));
        still_dirty = λ dirty. dirty;
      }
    ] refl

-- the page tables only grow
pub Grows-fixed : (spaces : Spaces) (pcid page frame : ℕ) (can write : Bool)
    → Grows spaces (with_entry spaces pcid page (Some (fixed_entry (entry_at spaces pcid page) frame can write)))
Grows-fixed spaces pcid page frame can write =
    Grows-with_entry spaces pcid page (fixed_entry (entry_at spaces pcid page) frame can write)
    (λ was present.
    subst (λ o. Keeps was (fixed_entry o frame can write)) (sym present) (Keeps-fixed was frame can write))

-- entries stay backed
pub AreBacked-served : (memory mid new : FramesState) (c : CheckpointState) (spaces : Spaces)
    (pcid page : ℕ) (place : Place) (write copies can : Bool) (bytes : List ℕ) (frame : ℕ)
    → place_at spaces pcid page ≡ Some place
    → Brings memory (page_at place) bytes frame mid → CopiesOut copies mid frame new
    → can ≡ (may_write place.rights && not (is_held new c (page_at place))) → AreBacked memory c spaces
    → AreBacked new c (with_entry spaces pcid page (Some (fixed_entry (entry_at spaces pcid page) frame can write)))
AreBacked-served memory mid new c spaces pcid page place write copies can bytes frame mapped brought copied is backed =
    let now = backed_copied c spaces copies mid new frame (page_at place) copied
    (backed_brought c spaces memory mid (page_at place) bytes frame brought backed) in
    AreBacked-with_entry new c spaces pcid page place (fixed_entry (entry_at spaces pcid page) frame can write) mapped
    (MayBe-fixed new c spaces pcid page place frame can write (entry_at spaces pcid page) is mapped refl now.1 now.0)
    now.0
