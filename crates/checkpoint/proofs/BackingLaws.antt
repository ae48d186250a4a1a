-- What keeps entries of page tables backed.
use Rattle.std.proofs.Common.{ℕ, ◌≡◌, ◌≢◌, ◌⊎◌, ◌<◌, ◌&&◌, not, true, false, List, length, get_or, Option}
use Rattle.std.proofs.Common.{Some, None, slice_get, refl, sym, ap, subst, ◌∙◌, inl, inr, ⊎_elim, arith}
use Rattle.std.specs.List.{list_any}
use Rattle.std.proofs.lemmas.List.{get_or_past, get_or-set_same, get_or-set_other}
use Rattle.std.proofs.lemmas.Option.{get_or_from_slice_get}
use Rattle.std.proofs.lemmas.Bool.{cases_lt, cases_eq, and_left, and_right, and_cases, not_from_true, not-false}
use Rattle.page_entry.specs.Entry.{Mapped}
use Rattle.page_entry.specs.declared.numbers.FilePage.{FilePage}
use Rattle.frames.specs.Frames.{FramesState, Frame, frame_at, overwrite_frame, with_page}
use Rattle.frames.specs.Frames.{with_bytes, with_copy, without_frame, page_of}
use Rattle.spaces.specs.Spaces.{Spaces, entry_at}
use Rattle.checkpoint.specs.Checkpoint.{CheckpointState, Holds, is_held, is_frozen, is_copied, same_page, thawed}
use Rattle.checkpoint.specs.Backing.{AreBacked, HasNotes, page_at}
use Rattle.checkpoint.proofs.PagesInUse.{has_page-list_any, list_any-has_page}

-- a frame that has a page is one of those that there are
pub Holds-within : (memory : FramesState) (frame : ℕ) (owner : FilePage) → Holds memory frame owner
    → frame < length memory.frames
Holds-within memory frame owner holds =
    elim (cases_lt frame (length memory.frames)) [
      | inl within ↦ within
      | inr past ↦ absurd (let none : page_of (frame_at memory frame) ≡ None =
          ap page_of (get_or_past memory.frames frame None past) in cc)
    ]

-- where entries are backed, each one's frame has a note, if each frame has
pub HasNotes-backed : (memory : FramesState) (c : CheckpointState) (spaces : Spaces) (count : ℕ)
    → count ≡ length memory.frames → AreBacked memory c spaces
    → HasNotes spaces count
HasNotes-backed memory c spaces count same backed pcid page entry present =
    let is = backed pcid page entry present in
    let within = Holds-within memory entry.frame _ is.held in
    omega (arith, same, within)

-- ---- the frames change, or what is frozen

-- entries stay backed where frames keep the pages that entries map, and no page is held that wasn't
pub AreBacked-moved : {old new : FramesState} {c d : CheckpointState} {spaces : Spaces}
    → ((pcid page : ℕ) (entry : Mapped) (owner : FilePage) → entry_at spaces pcid page ≡ Some entry
    → Holds old entry.frame owner → Holds new entry.frame owner)
    → ((owner : FilePage) → is_held old c owner ≡ false → is_held new d owner ≡ false) → AreBacked old c spaces
    → AreBacked new d spaces
AreBacked-moved holds thaws are pcid page entry present =
    let was = are pcid page entry present in
    record {
      place = was.place;
      mapped = was.mapped;
      held = holds pcid page entry (page_at was.place) present was.held;
      allowed = was.allowed;
      thawed = λ writable. thaws (page_at was.place) (was.thawed writable);
    }

-- a free frame has no page
free_frame : (memory : FramesState) (frame k : ℕ) (owner : FilePage)
    → slice_get memory.frames frame ≡ Some None → Holds memory k owner
    → k ≢ frame
free_frame memory frame k owner free holds same =
    let none : frame_at memory k ≡ None =
    ap (frame_at memory) same
    ∙ get_or_from_slice_get memory.frames frame None None free in
    absurd (let empty : page_of (frame_at memory k) ≡ None = ap page_of none in cc)

pub Holds-with_page : (memory : FramesState) (frame : ℕ) (page : FilePage) (bytes : List ℕ) (k : ℕ) (owner : FilePage)
    → slice_get memory.frames frame ≡ Some None → Holds memory k owner
    → Holds (with_page memory frame page bytes) k owner
Holds-with_page memory frame page bytes k owner free holds =
    ap page_of (get_or-set_other memory.frames frame k
    (Some (record { page = page; bytes = bytes })) None (free_frame memory frame k owner free holds))
    ∙ holds

-- a page is brought into a free frame
pub AreBacked-with_page : (memory : FramesState) (c : CheckpointState)
    (spaces : Spaces) (frame : ℕ) (page : FilePage) (bytes : List ℕ)
    → slice_get memory.frames frame ≡ Some None → AreBacked memory c spaces
    → AreBacked (with_page memory frame page bytes) c spaces
AreBacked-with_page memory c spaces frame page bytes free =
    AreBacked-moved
    (λ pcid q entry owner present holds. Holds-with_page memory frame page bytes entry.frame owner free holds)
    (λ owner held. held)

page_of-overwrite : (f : Option Frame) (at : ℕ) (bytes : List ℕ) → page_of (overwrite_frame f at bytes) ≡ page_of f
page_of-overwrite None at bytes = refl
page_of-overwrite (Some f) at bytes = refl

pub Holds-with_bytes : (memory : FramesState) (frame at : ℕ) (bytes : List ℕ) (k : ℕ) (owner : FilePage)
    → Holds memory k owner
    → Holds (with_bytes memory frame at bytes) k owner
Holds-with_bytes memory frame at bytes k owner holds =
    elim (cases_eq k frame) [
      | inl same ↦
          let within : frame < length memory.frames =
          subst (λ n. n < length memory.frames) same (Holds-within memory k owner holds) in
          ap (λ n. page_of (frame_at (with_bytes memory frame at bytes) n)) same
          ∙ ap page_of
          (get_or-set_same memory.frames frame (overwrite_frame (frame_at memory frame) at bytes) None within)
          ∙ page_of-overwrite (frame_at memory frame) at bytes
          ∙ ap (λ n. page_of (frame_at memory n)) (sym same) ∙ holds
      | inr other ↦ ap page_of
          (get_or-set_other memory.frames frame k (overwrite_frame (frame_at memory frame) at bytes) None other)
          ∙ holds
    ]

-- bytes are written into a frame
pub AreBacked-with_bytes : (memory : FramesState) (c : CheckpointState)
    (spaces : Spaces) (frame at : ℕ) (bytes : List ℕ)
    → AreBacked memory c spaces
    → AreBacked (with_bytes memory frame at bytes) c spaces
AreBacked-with_bytes memory c spaces frame at bytes =
    AreBacked-moved (λ pcid q entry owner present holds. Holds-with_bytes memory frame at bytes entry.frame owner holds)
    (λ owner held. held)

-- whether a page is held, by parts
pub is_held-not_frozen : (memory : FramesState) (c : CheckpointState) (owner : FilePage) → is_frozen c owner ≡ false
    → is_held memory c owner ≡ false
is_held-not_frozen memory c owner no_frozen = and_left (is_frozen c owner) (not (is_copied memory owner)) no_frozen

pub is_held-copied : (memory : FramesState) (c : CheckpointState) (owner : FilePage) → is_copied memory owner ≡ true
    → is_held memory c owner ≡ false
is_held-copied memory c owner copied =
    and_right (is_frozen c owner) (not (is_copied memory owner)) (not_from_true (is_copied memory owner) copied)

pub not_held-cases : (memory : FramesState) (c : CheckpointState) (owner : FilePage) → is_held memory c owner ≡ false
    → (is_frozen c owner ≡ false) ⊎ (is_copied memory owner ≡ true)
not_held-cases memory c owner e = ⊎_elim inl (λ not_not. inr (not-false (is_copied memory owner) not_not))
    (and_cases (is_frozen c owner) (not (is_copied memory owner)) e)

-- what is copied still is after a copy into a free copy frame
pub is_copied-with_copy : (memory : FramesState) (copy frame : ℕ) (owner : FilePage)
    → slice_get memory.copies copy ≡ Some None → is_copied memory owner ≡ true
    → is_copied (with_copy memory copy frame) owner ≡ true
is_copied-with_copy memory copy frame owner free copied =
    let has = has_page-list_any memory.copies owner copied in
    let other : has.number ≢ copy = λ same.
    absurd (let empty : page_of (get_or memory.copies has.number None) ≡ None =
    ap (λ n. page_of (get_or memory.copies n None)) same
    ∙ ap page_of (get_or_from_slice_get memory.copies copy None None free) in let holds = has.holds in cc) in
    list_any-has_page (with_copy memory copy frame).copies owner has.number
    (ap page_of (get_or-set_other memory.copies copy has.number (frame_at memory frame) None other) ∙ has.holds)

-- a frame's bytes are copied into a free copy frame
pub AreBacked-with_copy : (memory : FramesState) (c : CheckpointState) (spaces : Spaces) (copy frame : ℕ)
    → slice_get memory.copies copy ≡ Some None → AreBacked memory c spaces
    → AreBacked (with_copy memory copy frame) c spaces
AreBacked-with_copy memory c spaces copy frame free =
    AreBacked-moved (λ pcid q entry owner present holds. holds) (λ owner held. ⊎_elim
    (λ no_frozen. is_held-not_frozen (with_copy memory copy frame) c owner no_frozen)
    (λ copied.
    is_held-copied (with_copy memory copy frame) c owner (is_copied-with_copy memory copy frame owner free copied))
    (not_held-cases memory c owner held))

-- a frame that no entry maps becomes free
pub AreBacked-without_frame : (memory : FramesState) (c : CheckpointState) (spaces : Spaces) (frame : ℕ)
    → ((pcid page : ℕ) (entry : Mapped) → entry_at spaces pcid page ≡ Some entry → entry.frame ≢ frame)
    → AreBacked memory c spaces
    → AreBacked (without_frame memory frame) c spaces
AreBacked-without_frame memory c spaces frame unmapped =
    AreBacked-moved (λ pcid q entry owner present holds.
    ap page_of (get_or-set_other memory.frames frame entry.frame None None (unmapped pcid q entry present)) ∙ holds)
    (λ owner held. held)

-- no page is frozen any more
pub AreBacked-thawed : (memory new : FramesState) (c : CheckpointState) (spaces : Spaces)
    → new.frames ≡ memory.frames → AreBacked memory c spaces
    → AreBacked new (thawed c) spaces
AreBacked-thawed memory new c spaces same =
    AreBacked-moved (λ pcid q entry owner present holds.
    ap (λ (fs : List (Option Frame)). page_of (get_or fs entry.frame None)) same ∙ holds)
    (λ owner held. refl)

-- of a checkpoint only the frozen pages matter
pub AreBacked-frozen : (memory : FramesState) (c d : CheckpointState) (spaces : Spaces)
    → d.frozen ≡ c.frozen → AreBacked memory c spaces
    → AreBacked memory d spaces
AreBacked-frozen memory c d spaces same =
    AreBacked-moved (λ pcid page entry owner present holds. holds)
    (λ owner held. ap (λ owners. list_any (same_page owner) owners && not (is_copied memory owner)) same ∙ held)
