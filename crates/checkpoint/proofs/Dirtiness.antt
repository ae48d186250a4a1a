-- Which entries make the page in a frame dirty: those of pages that map it.
use Rattle.std.proofs.Common.{ℕ, suc, ◌≡◌, ◌↔◌, Bool, true, false, eqb, List, [], ◌∷◌, length}
use Rattle.std.proofs.Common.{get_or, Some, None, refl, sym, ap, subst, ◌∙◌, inl, inr, ⊎_elim, arith}
use Rattle.std.proofs.lemmas.Bool.{eq-eqb, and_from, false≢true}
use Rattle.page_entry.specs.Entry.{Mapped}
use Rattle.page_entry.specs.declared.numbers.FilePage.{FilePage}
use Rattle.mappings.specs.declared.place.Place.{Place}
use Rattle.frames.specs.Frames.{FramesState, frame_at, page_of}
use Rattle.spaces.specs.Spaces.{Spaces, entry_at, place_at}
use Rattle.spaces.specs.Changes.{is_place_of}
use Rattle.checkpoint.specs.Checkpoint.{CheckpointState, Holds, is_noted, HasDirtyEntry}
use Rattle.checkpoint.specs.Checkpoint.{IsDirty, IsMappingOf, NotesTaken}
use Rattle.checkpoint.specs.Backing.{AreBacked, HoldsEachOnce, page_at}
use Rattle.checkpoint.specs.inside.Notes.{AreNoted, noted_in}
use Rattle.checkpoint.proofs.Noting.{HasDirtyEntry-at}
use Rattle.checkpoint.proofs.PagesInUse.{same_page-true}

-- a page whose place is in a page of a file maps it
maps_at : (spaces : Spaces) (pcid page : ℕ) (place : Place) (owner : FilePage)
    → place_at spaces pcid page ≡ Some place → page_at place ≡ owner
    → IsMappingOf spaces owner pcid page
maps_at spaces pcid page place owner mapped same =
    ap (is_place_of owner) mapped
    ∙ and_from (eqb place.file owner.file) (eqb place.page owner.page)
    (eq-eqb place.file owner.file (ap (λ (o : FilePage). o.file) same))
    (eq-eqb place.page owner.page (ap (λ (o : FilePage). o.page) same))

-- and the other way
page_at-mapping : (spaces : Spaces) (pcid page : ℕ) (place : Place) (owner : FilePage)
    → place_at spaces pcid page ≡ Some place → IsMappingOf spaces owner pcid page
    → page_at place ≡ owner
page_at-mapping spaces pcid page place owner mapped is =
    same_page-true (page_at place) owner (sym (ap (is_place_of owner) mapped) ∙ is)

one_page : (a b : FilePage) → Some a ≡ Some b → a ≡ b
one_page a b e = cc

-- where entries are backed, an entry of a frame stands at a page that maps the frame's page
pub maps_page : (memory : FramesState) (c : CheckpointState)
    (spaces : Spaces) (owner : FilePage) (pcid page : ℕ) (entry : Mapped)
    → AreBacked memory c spaces → entry_at spaces pcid page ≡ Some entry → Holds memory entry.frame owner
    → IsMappingOf spaces owner pcid page
maps_page memory c spaces owner pcid page entry backed present holds =
    let is = backed pcid page entry present in
    maps_at spaces pcid page is.place owner is.mapped (one_page (page_at is.place) owner (sym is.held ∙ holds))

-- and an entry of such a page maps the frame
pub maps_frame : (memory : FramesState) (c : CheckpointState)
    (spaces : Spaces) (owner : FilePage) (frame pcid page : ℕ) (entry : Mapped)
    → AreBacked memory c spaces → HoldsEachOnce memory → Holds memory frame owner
    → entry_at spaces pcid page ≡ Some entry → IsMappingOf spaces owner pcid page
    → entry.frame ≡ frame
maps_frame memory c spaces owner frame pcid page entry backed distinct holds present maps =
    let is = backed pcid page entry present in
    let same = page_at-mapping spaces pcid page is.place owner is.mapped maps in
    distinct entry.frame frame owner (subst (Holds memory entry.frame) same is.held) holds

-- so the page in a frame that isn't noted is dirty exactly where a page that maps it has a dirty entry
pub IsDirty-mapping : (memory : FramesState) (c : CheckpointState) (spaces : Spaces) (owner : FilePage) (frame : ℕ)
    → AreBacked memory c spaces → HoldsEachOnce memory → Holds memory frame owner → is_noted c frame ≡ false
    → ((f : ℕ) × HasDirtyEntry spaces (IsMappingOf spaces owner) f) ↔ IsDirty spaces c frame
IsDirty-mapping memory c spaces owner frame backed distinct holds unnoted = (
  λ h.
      let d = h.1 in
      inr (record {
        pcid = d.pcid;
        page = d.page;
        there = tt;
        entry = d.entry;
        present = d.present;
        same_frame =
            maps_frame memory c spaces owner frame d.pcid d.page d.entry backed distinct holds d.present d.there;
        dirty = d.dirty;
      }),
  λ dirty. ⊎_elim
      (λ noted. absurd (false≢true (sym unnoted ∙ noted)))
      (λ d.
      let there = maps_page memory c spaces owner d.pcid d.page d.entry backed d.present
      (subst (λ f. Holds memory f owner) (sym d.same_frame) holds) in
      (frame, HasDirtyEntry-at d there))
      dirty,
)

-- a free frame that isn't noted isn't dirty
pub IsDirty-free : (memory : FramesState) (c : CheckpointState) (spaces : Spaces) (frame : ℕ)
    → AreBacked memory c spaces → page_of (frame_at memory frame) ≡ None
    → is_noted c frame ≡ false → IsDirty spaces c frame
    → ⊥
IsDirty-free memory c spaces frame backed free unnoted dirty =
    ⊎_elim
    (λ noted. false≢true (sym unnoted ∙ noted))
    (λ d.
    let is = backed d.pcid d.page d.entry d.present in
    let held : Holds memory frame (page_at is.place) =
    subst (λ f. Holds memory f (page_at is.place)) d.same_frame is.held in
    cc)
    dirty

-- two lists of flags that are set at the same places
same_flags : (xs ys : List Bool) → length xs ≡ length ys
    → ((k : ℕ) → (get_or xs k false ≡ true) ↔ (get_or ys k false ≡ true))
    → xs ≡ ys
same_flags [] [] e same = refl
same_flags [] (y ∷ ys) e same = absurd (omega arith)
same_flags (x ∷ xs) [] e same = absurd (omega arith)
same_flags (x ∷ xs) (y ∷ ys) e same =
    let here = one x y (same 0) in
    let rest = same_flags xs ys (omega arith) (λ k. same (suc k)) in
    λ i. here i ∷ rest i
  where
    one : (x y : Bool) → (x ≡ true) ↔ (y ≡ true) → x ≡ y
    one true true same = refl
    one true false same = sym (same.0 refl)
    one false true same = same.1 refl
    one false false same = refl

-- notes that were taken of the entries that go
pub NotesTaken-noted : (spaces : Spaces) (taken : ℕ → ℕ → Type 0) (old new : CheckpointState) (before after : List Bool)
    → AreNoted spaces taken before after → before ≡ old.notes → new.notes ≡ after → new.frozen ≡ old.frozen
    → NotesTaken spaces taken old new
NotesTaken-noted spaces taken old new before after are was now frozen = record {
  same_length = ap length now ∙ are.same_length ∙ ap length was;
  noted = λ frame. (
    λ is. ⊎_elim (λ noted. inl (ap (λ notes. noted_in notes frame) (sym was) ∙ noted)) inr
        ((are.noted frame).0 (ap (λ notes. noted_in notes frame) (sym now) ∙ is)),
    λ h. ap (λ notes. noted_in notes frame) now
        ∙ (are.noted frame).1 (⊎_elim (λ noted. inl (ap (λ notes. noted_in notes frame) was ∙ noted)) inr h),
  );
  frozen = frozen;
}

-- where no entry that was taken away is dirty, nothing was noted
pub NotesTaken-none : (spaces : Spaces) (taken : ℕ → ℕ → Type 0) (old new : CheckpointState)
    → NotesTaken spaces taken old new → ((frame : ℕ) → HasDirtyEntry spaces taken frame → ⊥)
    → new ≡ old
NotesTaken-none spaces taken old new notes none =
    let flags = same_flags new.notes old.notes notes.same_length (λ frame. (
      λ now. ⊎_elim (λ was. was) (λ d. absurd (none frame d)) ((notes.noted frame).0 now),
      λ was. (notes.noted frame).1 (inl was),
    )) in
    λ i. record { notes = flags i; frozen = notes.frozen i }

-- nothing is noted where a clean page's entries are taken away
pub clean_mapping : (memory : FramesState) (c : CheckpointState) (spaces : Spaces) (owner : FilePage) (frame : ℕ)
    → AreBacked memory c spaces → HoldsEachOnce memory → Holds memory frame owner
    → (IsDirty spaces c frame → ⊥) → (f : ℕ) → HasDirtyEntry spaces (IsMappingOf spaces owner) f
    → ⊥
clean_mapping memory c spaces owner frame backed distinct holds clean f d =
    clean (inr (record {
      pcid = d.pcid;
      page = d.page;
      there = tt;
      entry = d.entry;
      present = d.present;
      same_frame = maps_frame memory c spaces owner frame d.pcid d.page d.entry backed distinct holds d.present d.there;
      dirty = d.dirty;
    }))
