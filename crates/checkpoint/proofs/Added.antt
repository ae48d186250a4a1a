-- Pages of zeros that come into free frames one after the other, and the pages whose frames are noted.
use Rattle.std.proofs.Common.{ℕ, ◌≡◌, ◌≢◌, ◌⊎◌, ◌+◌, ◌<◌, ◌≤◌, true, false, List, Bool, length, set, Option, Some}
use Rattle.std.proofs.Common.{None, is_none, count_by, slice_get, refl, sym, ap, ◌∙◌, inl, inr, ⊎_elim, arith}
use Rattle.std.proofs.lemmas.Bool.{cases_lt, cases_eq, lt-ltb}
use Rattle.std.proofs.lemmas.List.{get_or-set_same, get_or-set_other, length-set}
use Rattle.page_entry.specs.declared.numbers.FilePage.{FilePage}
use Rattle.frames.specs.Frames.{FramesState, Frame, frame_at, page_of, zero_page}
use Rattle.frames.specs.Frames.{with_page, has_free, HasNoFrame, HasNoneFrom}
use Rattle.frames.proofs.Public.{has_free-counted, frame_at-free, frame_at-with_page_same, frame_at-with_page_other}
use Rattle.checkpoint.specs.Checkpoint.{Holds}
use Rattle.checkpoint.specs.inside.Notes.{noted_in}
use Rattle.checkpoint.specs.inside.Resized.{AddsPages, NotesPages, HoldsAmong}
use Rattle.checkpoint.proofs.BackingLaws.{Holds-with_page}

abbrev pub page_in : ℕ → ℕ → FilePage
page_in file page = record { file = file; page = page }

pub AddsPages-start : (file first : ℕ) (memory : FramesState) → AddsPages file first first memory memory
AddsPages-start file first memory = record {
  used = λ frame f at. at;
  free = λ frame at. inl at;
  added = λ page from below. absurd (omega arith);
  same_count = refl;
  same_copies = refl;
}

-- one is free where so many are
pub free_left : (frames : List (Option Frame)) → 0 < count_by is_none frames → has_free frames ≡ true
free_left frames some = has_free-counted frames ∙ lt-ltb 0 (count_by is_none frames) some

-- the next page isn't in memory
pub HasNoFrame-next : (file first page : ℕ) (memory now : FramesState)
    → HasNoneFrom memory (page_in file first) → first ≤ page → AddsPages file first page memory now
    → HasNoFrame now (page_in file page)
HasNoFrame-next file first page memory now none from adds frame holds = by_old (frame_at memory frame) refl
  where
    inside : (a b : FilePage) → Some a ≡ Some b → a ≡ b
    inside a b e = cc

    by_old : (o : Option Frame) → frame_at memory frame ≡ o → ⊥
    by_old (Some f) was =
        let same : page_of (Some f) ≡ Some (page_in file page) = ap page_of (sym (adds.used frame f was)) ∙ holds in
        let less = none frame (page_in file page) (ap page_of was ∙ same) refl in
        absurd (omega arith)
    by_old None was = elim (adds.free frame was) [
      | inl still ↦ absurd (let empty : page_of (frame_at now frame) ≡ None = ap page_of still in cc)
      | inr given ↦
          let same : Some (page_in file given.0) ≡ Some (page_in file page) = ap page_of (sym given.3) ∙ holds in
          let one : given.0 ≡ page = ap (λ (p : FilePage). p.page) (inside _ _ same) in
          absurd (omega (arith, one, given.2))
    ]

-- it comes into a free frame
pub AddsPages-more : (file first page : ℕ) (memory now : FramesState) (frame : ℕ) → first ≤ page
    → slice_get now.frames frame ≡ Some None → AddsPages file first page memory now
    → AddsPages file first (page + 1) memory (with_page now frame (page_in file page) zero_page)
AddsPages-more file first page memory now frame from free adds = record {
  used = λ k f at. used k f (adds.used k f at);
  free = λ k at. elim (cases_eq k frame) [
    | inl here ↦ inr (
      page,
      from,
      omega arith,
      ap (frame_at new) here ∙ frame_at-with_page_same now frame (page_in file page) zero_page free,
    )
    | inr other ↦ ⊎_elim
        (λ still. inl (frame_at-with_page_other now frame (page_in file page) zero_page k other ∙ still))
        (λ given. inr (
          given.0,
          given.1,
          (let less = given.2 in omega arith),
          frame_at-with_page_other now frame (page_in file page) zero_page k other ∙ given.3,
        ))
        (adds.free k at)
  ];
  added = λ q low high. elim (cases_lt q page) [
    | inl below ↦
        let old = adds.added q low below in
        (old.0, Holds-with_page now frame (page_in file page) zero_page old.0 (page_in file q) free old.1)
    | inr above ↦
        let same : page ≡ q = omega arith in (
          frame,
          ap page_of (frame_at-with_page_same now frame (page_in file page) zero_page free)
              ∙ ap (λ n. Some (page_in file n)) same,
        )
  ];
  same_count = length-set now.frames frame _ ∙ adds.same_count;
  same_copies = adds.same_copies;
}
  where
    new : FramesState
    new = with_page now frame (page_in file page) zero_page

    used : (k : ℕ) (f : Frame) → frame_at now k ≡ Some f → frame_at new k ≡ Some f
    used k f at =
        let other : k ≢ frame =
        λ same. absurd (let none : frame_at now k ≡ None = ap (frame_at now) same ∙ frame_at-free now frame free in
        cc) in
        frame_at-with_page_other now frame (page_in file page) zero_page k other ∙ at

-- ---- notes

pub NotesPages-start : (memory : FramesState) (file first : ℕ) (notes : List Bool)
    → NotesPages memory file first first notes notes
NotesPages-start memory file first notes = record {
  same_length = refl;
  noted = λ frame.
      (inl, λ h. ⊎_elim (λ noted. noted) (λ among. absurd (let low = among.1 in let high = among.2 in omega arith)) h);
}

among_more : (memory : FramesState) (file first page frame : ℕ) → HoldsAmong memory file first page frame
    → HoldsAmong memory file first (page + 1) frame
among_more memory file first page frame h = (h.0, h.1, (let less = h.2 in omega arith), h.3)

-- one of the pages so far, or the next
among_cases : (memory : FramesState) (file first page frame : ℕ) → HoldsAmong memory file first (page + 1) frame
    → HoldsAmong memory file first page frame ⊎ Holds memory frame (page_in file page)
among_cases memory file first page frame h =
    elim (cases_lt h.0 page) [
      | inl below ↦ inl (h.0, h.1, below, h.3)
      | inr above ↦
          let less = h.2 in
          let same : h.0 ≡ page = omega arith in
          inr (h.3 ∙ ap (λ n. Some (page_in file n)) same)
    ]

-- the next page is in no frame
pub NotesPages-none : (memory : FramesState) (file first page : ℕ) (old now : List Bool)
    → HasNoFrame memory (page_in file page) → NotesPages memory file first page old now
    → NotesPages memory file first (page + 1) old now
NotesPages-none memory file first page old now none notes = record {
  same_length = notes.same_length;
  noted = λ frame. (
    λ noted. ⊎_elim inl (λ h. inr (among_more memory file first page frame h)) ((notes.noted frame).0 noted),
    λ h. (notes.noted frame).1 (⊎_elim inl
        (λ h. ⊎_elim inr (λ holds. absurd (none frame holds)) (among_cases memory file first page frame h)) h),
  );
}

-- or in one, which is noted
pub NotesPages-more : (memory : FramesState) (file first page : ℕ) (old now : List Bool) (at : ℕ)
    → ((k : ℕ) → Holds memory k (page_in file page) → k ≡ at) → first ≤ page
    → Holds memory at (page_in file page) → at < length now → NotesPages memory file first page old now
    → NotesPages memory file first (page + 1) old (set now at true)
NotesPages-more memory file first page old now at alone from holds within notes = record {
  same_length = length-set now at true ∙ notes.same_length;
  noted = λ frame. elim (cases_eq frame at) [
    | inl here ↦ (
      λ _. inr (page, from, omega arith, ap (λ n. page_of (frame_at memory n)) here ∙ holds),
      λ _. ap (noted_in (set now at true)) here ∙ get_or-set_same now at true false within,
    )
    | inr other ↦ (
      λ noted. ⊎_elim inl (λ h. inr (among_more memory file first page frame h))
          ((notes.noted frame).0 (sym (get_or-set_other now at frame true false other) ∙ noted)),
      λ h. get_or-set_other now at frame true false other ∙ (notes.noted frame).1 (⊎_elim inl
          (λ h. ⊎_elim inr (λ it. absurd (other (alone frame it))) (among_cases memory file first page frame h)) h),
    )
  ];
}
