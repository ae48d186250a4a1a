-- Frames whose pages are past the end of their file, which become free one after the other.
use Rattle.std.proofs.Common.{ℕ, ◌≡◌, ◌≢◌, ◌⊎◌, ◌*◌, ◌<◌, ◌≤◌, Bool, true, false, eqb, leb, List, length}
use Rattle.std.proofs.Common.{set, Option, Some, None, refl, sym, ap, subst, ◌∙◌, inl, inr, ⊎_elim, arith}
use Rattle.std.proofs.lemmas.Bool.{cases_eq, and_from, and_parts, eqb-true, eq-eqb}
use Rattle.std.proofs.lemmas.Bool.{le-leb, leb-true, cond-true, false_from_ne_true}
use Rattle.std.proofs.lemmas.List.{get_or-set_same, get_or-set_other, length-set}
use Rattle.std.specs.FinMap as maps
use Rattle.page_entry.specs.Entry.{Mapped}
use Rattle.page_entry.specs.declared.numbers.FilePage.{FilePage}
use Rattle.mappings.specs.Places.{Places}
use Rattle.frames.specs.Frames.{FramesState, Frame, frame_at, page_of, without_frame, HasNoneFrom}
use Rattle.frames.proofs.Public.{frame_at-without_frame_same, frame_at-without_frame_other}
use Rattle.spaces.specs.Spaces.{Spaces, entry_at, place_at, EditsEntries}
use Rattle.spaces.specs.Changes.{is_place_of, is_place_past, without_entries_of, without_past, ClearsPast}
use Rattle.spaces.proofs.Public.{ClearsPast-refl, ClearsPast-more, EditsEntries-without_past}
use Rattle.checkpoint.specs.Checkpoint.{CheckpointState, Holds}
use Rattle.checkpoint.specs.Backing.{AreBacked, page_at}
use Rattle.checkpoint.specs.Resizing.{pages, is_past}
use Rattle.checkpoint.specs.inside.Resized.{BeginBefore, DropsPast, IsKeptFrame, IsDropped}
use Rattle.checkpoint.proofs.BackingLaws.{AreBacked-without_frame}
use Rattle.checkpoint.proofs.SpacesLaws.{AreBacked-cleared}
use Rattle.checkpoint.proofs.Dirtiness.{maps_page}

-- the frame that has a page
pub record HeldFrame (memory : FramesState) (frame : ℕ) (owner : FilePage) : Type 0 where
  pub held : Frame
  pub at : frame_at memory frame ≡ Some held
  pub is : held.page ≡ owner

pub held_frame : (memory : FramesState) (frame : ℕ) (owner : FilePage) → Holds memory frame owner
    → HeldFrame memory frame owner
held_frame memory frame owner holds =
    elim (frame_at memory frame)
    as (λ o. frame_at memory frame ≡ o → page_of o ≡ Some owner → HeldFrame memory frame owner) [
      | None ↦ λ _ never. absurd (cc)
      | Some f ↦ λ at is. record { held = f; at = at; is = one f.page owner is }
    ] refl holds
  where
    one : (a b : FilePage) → Some a ≡ Some b → a ≡ b
    one a b e = cc

-- whether a page is past the end of its file
pub is_past-from : (file end : ℕ) (owner : FilePage) → owner.file ≡ file → end ≤ 4096 * owner.page
    → is_past file end owner ≡ true
is_past-from file end owner same past = and_from (eqb owner.file file) (leb end (4096 * owner.page))
    (eq-eqb owner.file file same) (le-leb end (4096 * owner.page) past)

pub is_past-parts : (file end : ℕ) (owner : FilePage) → is_past file end owner ≡ true
    → (owner.file ≡ file) × (end ≤ 4096 * owner.page)
is_past-parts file end owner is =
    let parts = and_parts (eqb owner.file file) (leb end (4096 * owner.page)) is in
    (eqb-true owner.file file parts.0, leb-true end (4096 * owner.page) parts.1)

pub is_past-before : (memory : FramesState) (file end frame : ℕ) (f : Frame)
    → BeginBefore memory file end → frame_at memory frame ≡ Some f
    → is_past file end f.page ≡ false
is_past-before memory file end frame f before at =
    false_from_ne_true (is_past file end f.page) (λ is.
    let parts = is_past-parts file end f.page is in
    let less = before frame f.page (ap page_of at) parts.0 in
    absurd (omega (arith, less, parts.1)))

-- no frame has a page from the first on that begins at or past the end
pub BeginBefore-none : (memory : FramesState) (file end first : ℕ)
    → first ≡ pages end → HasNoneFrom memory (record { file = file; page = first })
    → BeginBefore memory file end
BeginBefore-none memory file end first is none frame owner holds same =
    let less = none frame owner holds same in
    omega (arith, is, less)

-- Some pages past the end have left: their frames, their notes and their entries.
pub record Drops (file end : ℕ) (memory : FramesState) (notes : List Bool) (spaces : Spaces) (memory' : FramesState)
    (notes' : List Bool) (spaces' : Spaces) : Type 0 where
  pub dropped : DropsPast file end memory notes memory' notes'
  pub clears : ClearsPast file end spaces spaces'
  pub backed : (c : CheckpointState) → AreBacked memory c spaces → AreBacked memory' c spaces'

pub Drops-start : (file end : ℕ) (memory : FramesState) (notes : List Bool) (spaces : Spaces)
    → Drops file end memory notes spaces memory notes spaces
Drops-start file end memory notes spaces = record {
  dropped = record {
    frames = λ frame. inl (record { same = refl; same_note = refl });
    same_count = refl;
    same_copies = refl;
    same_notes = refl;
  };
  clears = ClearsPast-refl file end spaces;
  backed = λ c backed. backed;
}

-- one page more leaves
DropsPast-more : (file end : ℕ) (memory : FramesState) (notes : List Bool)
    (now : FramesState) (noted : List Bool) (frame : ℕ) (owner : FilePage)
    → owner.file ≡ file → end ≤ 4096 * owner.page → Holds now frame owner
    → frame < length noted → DropsPast file end memory notes now noted
    → DropsPast file end memory notes (without_frame now frame) (set noted frame false)
DropsPast-more file end memory notes now noted frame owner same past holds within drops = record {
  frames = λ k. elim (cases_eq k frame) [
    | inl here ↦ inr (subst (IsDropped file end memory (without_frame now frame) (set noted frame false)) (sym here)
        (this (drops.frames frame)))
    | inr other ↦ ⊎_elim (λ kept. inl (kept_other k other kept)) (λ gone. inr (gone_other k other gone))
        (drops.frames k)
  ];
  same_count = length-set now.frames frame None ∙ drops.same_count;
  same_copies = drops.same_copies;
  same_notes = length-set noted frame false ∙ drops.same_notes;
}
  where
    this : IsKeptFrame memory notes now noted frame ⊎ IsDropped file end memory now noted frame
        → IsDropped file end memory (without_frame now frame) (set noted frame false) frame
    this (inl kept) =
        let f = held_frame now frame owner holds in
        record {
          was = f.held;
          had = sym kept.same ∙ f.at;
          past = ap (is_past file end) f.is ∙ is_past-from file end owner same past;
          free = frame_at-without_frame_same now frame;
          unnoted = get_or-set_same noted frame false false within;
        }
    this (inr gone) = absurd (let none : page_of (frame_at now frame) ≡ None = ap page_of gone.free in cc)

    kept_other : (k : ℕ) → k ≢ frame → IsKeptFrame memory notes now noted k
        → IsKeptFrame memory notes (without_frame now frame) (set noted frame false) k
    kept_other k other kept = record {
      same = frame_at-without_frame_other now frame k other ∙ kept.same;
      same_note = get_or-set_other noted frame k false false other ∙ kept.same_note;
    }

    gone_other : (k : ℕ) → k ≢ frame → IsDropped file end memory now noted k
        → IsDropped file end memory (without_frame now frame) (set noted frame false) k
    gone_other k other gone = record {
      was = gone.was;
      had = gone.had;
      past = gone.past;
      free = frame_at-without_frame_other now frame k other ∙ gone.free;
      unnoted = get_or-set_other noted frame k false false other ∙ gone.unnoted;
    }

pub Drops-more : (file end : ℕ) (memory : FramesState) (notes : List Bool) (spaces : Spaces)
    (now : FramesState) (noted : List Bool) (mid : Spaces) (frame : ℕ) (owner : FilePage) (new : Spaces)
    → owner.file ≡ file → end ≤ 4096 * owner.page → Holds now frame owner → frame < length noted
    → Drops file end memory notes spaces now noted mid → EditsEntries (without_entries_of owner mid) mid new
    → Drops file end memory notes spaces (without_frame now frame) (set noted frame false) new
Drops-more file end memory notes spaces now noted mid frame owner new same past holds within drops edits = record {
  dropped = DropsPast-more file end memory notes now noted frame owner same past holds within drops.dropped;
  clears = ClearsPast-more file end spaces mid new owner same past drops.clears edits;
  backed = λ c backed.
      let cleared = AreBacked-cleared now c mid new owner edits (drops.backed c backed) in
      AreBacked-without_frame now c new frame
      (λ pcid page entry present is. unmapped c cleared pcid page entry present is) cleared;
}
  where
    unmapped : (c : CheckpointState) → AreBacked now c new → (pcid page : ℕ) (entry : Mapped)
        → entry_at new pcid page ≡ Some entry → entry.frame ≡ frame
        → ⊥
    unmapped c cleared pcid page entry present is =
        let mapped =
        maps_page now c new owner pcid page entry cleared present (subst (λ f. Holds now f owner) (sym is) holds) in
        let gone : entry_at new pcid page ≡ None =
        edits.entries pcid page
        ∙ cond-true (is_place_of owner (place_at mid pcid page)) None (entry_at mid pcid page)
        (ap (λ (places : Places). is_place_of owner (maps.get places page)) (sym (edits.same_places pcid)) ∙ mapped) in
        absurd (cc)

-- where none is left, each entry of such a page is gone
pub Drops-cleared : (file end : ℕ) (spaces : Spaces) (now : FramesState) (c : CheckpointState) (new : Spaces)
    → ClearsPast file end spaces new → AreBacked now c new → BeginBefore now file end
    → EditsEntries (without_past file end spaces) spaces new
Drops-cleared file end spaces now c new clears backed before =
    EditsEntries-without_past file end spaces new clears
    (λ pcid page past. none pcid page past (entry_at new pcid page) refl)
  where
    none : (pcid page : ℕ) → is_place_past file end (place_at new pcid page) ≡ true
        → (e : Option Mapped) → entry_at new pcid page ≡ e
        → e ≡ None
    none pcid page past None is = refl
    none pcid page past (Some entry) is =
        let was = backed pcid page entry is in
        let here : is_past file end (page_at was.place) ≡ true = sym (ap (is_place_past file end) was.mapped) ∙ past in
        let parts = is_past-parts file end (page_at was.place) here in
        let less = before entry.frame (page_at was.place) was.held parts.0 in
        absurd (omega (arith, less, parts.1))
