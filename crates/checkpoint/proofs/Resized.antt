-- A change of a file's length, of its parts.
use Rattle.std.proofs.Common.{ℕ, suc, ◌≡◌, ◌⊎◌, ◌↔◌, ◌+◌, ◌-◌, ◌*◌, ◌/◌, ◌<◌, ◌≤◌, min, Bool, true, false}
use Rattle.std.proofs.Common.{cond, eqb, List, [], ◌∷◌, length, get_or, Option, Some, None, is_some}
use Rattle.std.proofs.Common.{is_none, IsSome, count_by, refl, sym, ap, subst, ◌∙◌, inl, inr, ⊎_elim, arith}
use Rattle.std.specs.Option.{option_map}
use Rattle.std.proofs.lemmas.Bool.{cond-true, cond-false, false≢true}
use Rattle.std.proofs.lemmas.List.Sums.{sum_by-cons}
use Rattle.page_entry.specs.declared.numbers.FilePage.{FilePage}
use Rattle.frames.specs.Frames.{FramesState, Frame, frame_at, page_of, HasNoneFrom}
use Rattle.spaces.specs.Spaces.{Spaces, EditsEntries}
use Rattle.spaces.specs.Changes.{without_past}
use Rattle.checkpoint.specs.Checkpoint.{CheckpointState, Holds}
use Rattle.checkpoint.specs.Backing.{HoldsEachOnce}
use Rattle.checkpoint.specs.Resizing.{PagesResized, IsAdded, IsGrown, pages, is_past, cut_frame, cut_page}
use Rattle.checkpoint.specs.inside.Notes.{noted_in}
use Rattle.checkpoint.specs.inside.Resized.{BeginBefore, DropsPast, IsKeptFrame, IsDropped}
use Rattle.checkpoint.specs.inside.Resized.{CutsFile, AddsPages, NotesPages, zero_frame}
use Rattle.checkpoint.proofs.Dropped.{is_past-before, is_past-parts}

-- a frame that is cut keeps its page
page_of-cut : (file end : ℕ) (o : Option Frame) → page_of (option_map (cut_frame file end) o) ≡ page_of o
page_of-cut file end None = refl
page_of-cut file end (Some f) =
    elim (eqb f.page.file file) as (λ b.
    page_of (Some (cond b (record f { bytes = cut_page (end - 4096 * f.page.page) f.bytes }) f)) ≡ Some f.page) [
      | true ↦ refl
      | false ↦ refl
    ]

is_none-mapped : {X : Type 0} (f : X → X) (o : Option X) → is_none (option_map f o) ≡ is_none o
is_none-mapped f None = refl
is_none-mapped f (Some x) = refl

-- lists of which the same are free have as many of them
same_free : (xs ys : List (Option Frame)) → length xs ≡ length ys
    → ((k : ℕ) → is_none (get_or xs k None) ≡ is_none (get_or ys k None))
    → count_by is_none xs ≡ count_by is_none ys
same_free [] [] size same = refl
same_free [] (y ∷ ys) size same = absurd (omega arith)
same_free (x ∷ xs) [] size same = absurd (omega arith)
same_free (x ∷ xs) (y ∷ ys) size same =
    sum_by-cons (λ (o : Option Frame). cond (is_none o) 1 0) x xs
    ∙ (λ i. cond (same 0 i) 1 0 + same_free xs ys (omega arith) (λ k. same (suc k)) i)
    ∙ sym (sum_by-cons (λ (o : Option Frame). cond (is_none o) 1 0) y ys)

module _ (file old to low : ℕ) (m0 m1 m2 : FramesState) (n0 n1 : List Bool) (inside : BeginBefore m0 file old)
    (drops : DropsPast file to m0 n0 m1 n1) (cuts : CutsFile file low m1 m2) where
  -- a growth drops no page
  not_dropped : (frame : ℕ) → old < to → IsDropped file to m0 m1 n1 frame → ⊥
  not_dropped frame grows gone =
      let parts = is_past-parts file to gone.was.page gone.past in
      let less = inside frame gone.was.page (ap page_of gone.had) parts.0 in
      omega (arith, less, parts.1)

  -- what is in memory after the cut was there before
  was_held : (frame : ℕ) (owner : FilePage) → Holds m2 frame owner → Holds m0 frame owner
  was_held frame owner holds =
      let held : Holds m1 frame owner =
      sym (page_of-cut file low (frame_at m1 frame))
      ∙ ap page_of (sym (cuts.frames frame))
      ∙ holds in
      elim (drops.frames frame) [
        | inl kept ↦ ap page_of (sym kept.same) ∙ held
        | inr gone ↦ absurd (let none : page_of (frame_at m1 frame) ≡ None = ap page_of gone.free in cc)
      ]

  pub BeginBefore-kept : BeginBefore m2 file old
  BeginBefore-kept frame owner holds same = inside frame owner (was_held frame owner holds) same

  pub none_from_end : (first : ℕ) → first ≡ pages old → HasNoneFrom m2 (record { file = file; page = first })
  none_from_end first is frame owner holds same =
      let less = BeginBefore-kept frame owner holds same in
      omega (arith, is, less)

  -- and a growth finds the same frames free
  pub same_room : old < to → count_by is_none m2.frames ≡ count_by is_none m0.frames
  same_room grows =
      same_free m2.frames m0.frames (cuts.same_count ∙ drops.same_count) (λ frame.
      ap is_none (cuts.frames frame) ∙ is_none-mapped (cut_frame file low) (frame_at m1 frame)
      ∙ ⊎_elim (λ kept. ap is_none kept.same) (λ gone. absurd (not_dropped frame grows gone)) (drops.frames frame))

  module _ (m3 : FramesState) (n3 : List Bool) (first from end : ℕ) (before : BeginBefore m1 file to)
      (is_low : low ≡ min old to) (adds : AddsPages file first end m2 m3) (notes : NotesPages m3 file from end n1 n3)
      (are_added : (page : ℕ) → IsAdded old to page ↔ ((first ≤ page) × (page < end)))
      (are_grown : (page : ℕ) → IsGrown old to page ↔ ((from ≤ page) × (page < end))) where
    -- a frame that was dropped stays free
    stays_free : (frame : ℕ) → IsDropped file to m0 m1 n1 frame → frame_at m3 frame ≡ None
    stays_free frame gone =
        elim (adds.free frame (cuts.frames frame ∙ ap (option_map (cut_frame file low)) gone.free)) [
          | inl still ↦ still
          | inr given ↦
              let added = (are_added given.0).1 (given.1, given.2) in
              let past = added.past in
              let below = added.before in
              absurd (not_dropped frame (omega arith) gone)
        ]

    -- one that was kept is cut
    stays_used : (frame : ℕ) (f : Frame) → IsKeptFrame m0 n0 m1 n1 frame → frame_at m0 frame ≡ Some f
        → frame_at m3 frame ≡ Some (cut_frame file low f)
    stays_used frame f kept at = adds.used frame (cut_frame file low f)
        (cuts.frames frame ∙ ap (option_map (cut_frame file low)) (kept.same ∙ at))

    used : (frame : ℕ) (f : Frame) → frame_at m0 frame ≡ Some f
        → frame_at m3 frame ≡ cond (is_past file to f.page) None (Some (cut_frame file (min old to) f))
    used frame f at =
        elim (drops.frames frame) [
          | inl kept ↦
              stays_used frame f kept at ∙ ap (λ n. Some (cut_frame file n f)) is_low
              ∙ sym (cond-false (is_past file to f.page) None (Some (cut_frame file (min old to) f))
              (is_past-before m1 file to frame f before (kept.same ∙ at)))
          | inr gone ↦
              let same : gone.was ≡ f = one gone.was f (sym gone.had ∙ at) in
              stays_free frame gone
              ∙ sym (cond-true (is_past file to f.page) None (Some (cut_frame file (min old to) f))
              (ap (λ (g : Frame). is_past file to g.page) (sym same) ∙ gone.past))
        ]
      where
        one : (a b : Frame) → Some a ≡ Some b → a ≡ b
        one a b e = cc

    free : (frame : ℕ) → frame_at m0 frame ≡ None
        → (frame_at m3 frame ≡ None)
        ⊎ ((page : ℕ) × IsAdded old to page × (frame_at m3 frame ≡ Some (zero_frame file page)))
    free frame at =
        elim (drops.frames frame) [
          | inl kept ↦ ⊎_elim inl (λ given. inr (given.0, (are_added given.0).1 (given.1, given.2), given.3))
              (adds.free frame (cuts.frames frame ∙ ap (option_map (cut_frame file low)) (kept.same ∙ at)))
          | inr gone ↦ absurd (let had = gone.had in cc)
        ]

    is_some-used : (frame : ℕ) → IsKeptFrame m0 n0 m1 n1 frame → (o : Option Frame) → frame_at m0 frame ≡ o → IsSome o
        → IsSome (frame_at m3 frame)
    is_some-used frame kept None at in_use = absurd (cc)
    is_some-used frame kept (Some f) at in_use = ap is_some (stays_used frame f kept at)

    noted : ((frame : ℕ) → noted_in n0 frame ≡ true → IsSome (frame_at m0 frame)) → (frame : ℕ)
        → (noted_in n3 frame ≡ true)
        ↔ (((noted_in n0 frame ≡ true) × IsSome (frame_at m3 frame))
        ⊎ ((page : ℕ) × IsGrown old to page × Holds m3 frame (record { file = file; page = page })))
    noted in_use frame = (
      λ now. elim ((notes.noted frame).0 now) [
        | inl was ↦ elim (drops.frames frame) [
          | inl kept ↦
              let before : noted_in n0 frame ≡ true = sym kept.same_note ∙ was in
              inl (before, is_some-used frame kept (frame_at m0 frame) refl (in_use frame before))
          | inr gone ↦ absurd (false≢true (sym gone.unnoted ∙ was))
        ]
        | inr among ↦ inr (among.0, (are_grown among.0).1 (among.1, among.2), among.3)
      ],
      λ h. (notes.noted frame).1 (⊎_elim
          (λ was. elim (drops.frames frame) [
            | inl kept ↦ inl (kept.same_note ∙ was.0)
            | inr gone ↦ absurd (false≢true (sym (ap is_some (stays_free frame gone)) ∙ was.1))
          ])
          (λ grown. let range = (are_grown grown.0).0 grown.1 in inr (grown.0, range.0, range.1, grown.2))
          h),
    )

pub PagesResized-parts : (spaces new : Spaces) (c : CheckpointState) (file old to low : ℕ)
    (m0 m1 m2 m3 : FramesState) (n0 n1 n3 : List Bool) (first from end : ℕ)
    → c.notes ≡ n0 → BeginBefore m0 file old → ((frame : ℕ) → noted_in n0 frame ≡ true → IsSome (frame_at m0 frame))
    → EditsEntries (without_past file to spaces) spaces new → BeginBefore m1 file to
    → low ≡ min old to → DropsPast file to m0 n0 m1 n1 → CutsFile file low m1 m2
    → AddsPages file first end m2 m3 → NotesPages m3 file from end n1 n3 → HoldsEachOnce m3
    → ((page : ℕ) → IsAdded old to page ↔ ((first ≤ page) × (page < end)))
    → ((page : ℕ) → IsGrown old to page ↔ ((from ≤ page) × (page < end)))
    → PagesResized spaces m0 c file old to new m3 (record c { notes = n3 })
PagesResized-parts spaces new c file old to low m0 m1 m2 m3 n0 n1 n3 first from end is_notes inside in_use cleared
    before is_low drops cuts adds notes once are_added are_grown = record {
      cleared = cleared;
      used = used file old to low m0 m1 m2 n0 n1 inside drops cuts m3 n3 first from end before is_low adds notes
          are_added are_grown;
      free = free file old to low m0 m1 m2 n0 n1 inside drops cuts m3 n3 first from end before is_low adds notes
          are_added are_grown;
      added = λ page is. let range = (are_added page).0 is in adds.added page range.0 range.1;
      once = once;
      same_count = adds.same_count ∙ cuts.same_count ∙ drops.same_count;
      same_copies = adds.same_copies ∙ cuts.same_copies ∙ drops.same_copies;
      same_notes = notes.same_length ∙ drops.same_notes ∙ ap length (sym is_notes);
      noted = λ frame.
          subst (λ (ns : List Bool).
          (noted_in n3 frame ≡ true) ↔ (((noted_in ns frame ≡ true) × IsSome (frame_at m3 frame))
          ⊎ ((page : ℕ) × IsGrown old to page × Holds m3 frame (record { file = file; page = page }))))
          (sym is_notes)
          (noted file old to low m0 m1 m2 n0 n1 inside drops cuts m3 n3 first from end before is_low adds
          notes are_added
          are_grown in_use frame);
      frozen = refl;
    }

-- the pages that a growth adds and touches
pub are_added-grown : (old to first end : ℕ) → first ≡ pages old → end ≡ pages to → (page : ℕ)
    → IsAdded old to page ↔ ((first ≤ page) × (page < end))
are_added-grown old to first end is_first is_end page = (
  λ added. (
    let past = added.past in omega (arith, is_first, past),
    let below = added.before in omega (arith, is_end, below),
  ),
  λ range. record {
    past = (let low = range.0 in omega (arith, is_first, low));
    before = (let high = range.1 in omega (arith, is_end, high));
  },
)

pub are_touched-grown : (old to from end : ℕ) → old < to → from ≡ old / 4096 → end ≡ pages to → (page : ℕ)
    → IsGrown old to page ↔ ((from ≤ page) × (page < end))
are_touched-grown old to from end grows is_from is_end page = (
  λ grown.
      (let low = grown.from in omega (arith, is_from, low), let below = grown.before in omega (arith, is_end, below)),
  λ range. record {
    grows = grows;
    from = (let low = range.0 in omega (arith, is_from, low));
    before = (let high = range.1 in omega (arith, is_end, high));
  },
)

-- a length that doesn't grow adds and touches none
pub are_added-none : (old to : ℕ) → to ≤ old → (page : ℕ) → IsAdded old to page ↔ ((0 ≤ page) × (page < 0))
are_added-none old to shrinks page = (
  λ added. let past = added.past in let below = added.before in absurd (omega arith),
  λ range. absurd (let never = range.1 in omega arith),
)

pub are_touched-none : (old to : ℕ) → to ≤ old → (page : ℕ) → IsGrown old to page ↔ ((0 ≤ page) × (page < 0))
are_touched-none old to shrinks page =
    (λ grown. let grows = grown.grows in absurd (omega arith), λ range. absurd (let never = range.1 in omega arith))
