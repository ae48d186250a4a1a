-- The pages that a walk comes to: those of a range whose entries are dirty, and those that map a page of a file.
use Rattle.std.proofs.Common.{ℕ, ◌≡◌, ◌+◌, Bool, false, List, [], ◌∷◌, ◌++◌, Contains, Some}
use Rattle.std.proofs.Common.{is_some, refl, sym, ap, subst, ◌∙◌, append_assoc, append-nil}
use Rattle.std.proofs.lemmas.Bool.{false≢true, and_parts, and_from}
use Rattle.std.proofs.lemmas.List.Elements.{Contains-append_right}
use Rattle.page_entry.specs.Entry.{Mapped, is_dirty}
use Rattle.page_entry.specs.declared.numbers.FilePage.{FilePage}
use Rattle.page_table.specs.Table.{dirty_in}
use Rattle.mappings.specs.declared.page_range.PageRange.{PageRange}
use Rattle.spaces.specs.Spaces.{Spaces, space_at, entry_at, place_at}
use Rattle.spaces.specs.Changes.{is_place_of, entries_of}
use Rattle.spaces.proofs.ListedLaws.{in_dirty_pages, Contains-dirty_pages}
use Rattle.spaces.proofs.ChangeLaws.{in_entries_of, Contains-entries_of}
use Rattle.checkpoint.proofs.Lists.{Contains-head}
use Rattle.checkpoint.proofs.Noting.{IsDirtyAt, is_dirty-at, AreNoted-as}
use Rattle.checkpoint.specs.Checkpoint.{HasDirtyEntry, IsInRange, IsMappingOf}
use Rattle.checkpoint.specs.inside.Notes.{AreNoted}

-- what a walk over a list comes to next is in the list
pub walk-next : {X : Type 0} (all walked left : List X) (x : X) (rest : List X) → walked ++ left ≡ all → left ≡ x ∷ rest
    → Contains all x × ((walked ++ x ∷ []) ++ rest ≡ all)
walk-next all walked left x rest listed next =
    let is : walked ++ x ∷ rest ≡ all = ap (λ xs. walked ++ xs) (sym next) ∙ listed in (
      subst (λ xs. Contains xs x) is (Contains-append_right walked (x ∷ rest) x (Contains-head x rest)),
      append_assoc walked (x ∷ []) rest ∙ is,
    )

-- when nothing is left, it came to all
pub walk-end : {X : Type 0} (all walked left : List X) → walked ++ left ≡ all → left ≡ [] → walked ≡ all
walk-end all walked left listed end = sym (append-nil walked) ∙ ap (λ xs. walked ++ xs) (sym end) ∙ listed

-- ---- dirty pages of a range

abbrev pub dirty_range : Spaces → ℕ → PageRange → List ℕ
dirty_range spaces pcid range = dirty_in (space_at spaces pcid).entries range.first (range.first + range.count)

-- the page that a walk comes to next has a dirty entry
pub dirty_range-next : (spaces : Spaces) (pcid : ℕ) (range : PageRange)
    (walked left : List ℕ) (page : ℕ) (rest : List ℕ)
    → walked ++ left ≡ dirty_range spaces pcid range → left ≡ page ∷ rest
    → IsDirtyAt spaces pcid page × ((walked ++ page ∷ []) ++ rest ≡ dirty_range spaces pcid range)
dirty_range-next spaces pcid range walked left page rest listed next =
    let step = walk-next (dirty_range spaces pcid range) walked left page rest listed next in
    (is_dirty-at spaces pcid page (in_dirty_pages spaces pcid range.first range.count page step.0).1, step.1)

-- notes of the pages that a walk over a range came to are those of the range
pub AreNoted-range : (spaces : Spaces) (pcid : ℕ) (range : PageRange) (walked : List ℕ) (old new : List Bool)
    → walked ≡ dirty_range spaces pcid range → AreNoted spaces (λ q p. (q ≡ pcid) × Contains walked p) old new
    → AreNoted spaces (IsInRange pcid range) old new
AreNoted-range spaces pcid range walked old new all are =
    AreNoted-as (λ q page entry present dirty. (
      λ h. (h.0, (in_dirty_pages spaces pcid range.first range.count page (subst (λ xs. Contains xs page) all h.1)).0),
      λ h. (
        h.0,
        subst (λ xs. Contains xs page) (sym all)
            (Contains-dirty_pages spaces pcid range.first range.count page h.1
            (ap (λ k. is_dirty (entry_at spaces k page)) (sym h.0) ∙ ap is_dirty present ∙ dirty)),
      ),
    )) are

-- ---- pages that map a page of a file

-- the page that a walk over them comes to next
pub entries_of-next : (spaces : Spaces) (owner : FilePage)
    (walked left : List (ℕ × ℕ)) (at : ℕ × ℕ) (rest : List (ℕ × ℕ))
    → walked ++ left ≡ entries_of spaces owner → left ≡ at ∷ rest
    → IsMappingOf spaces owner at.0 at.1 × ((walked ++ at ∷ []) ++ rest ≡ entries_of spaces owner)
entries_of-next spaces owner walked left at rest listed next =
    let step = walk-next (entries_of spaces owner) walked left at rest listed next in (
      (and_parts (is_place_of owner (place_at spaces at.0 at.1)) (is_some (entry_at spaces at.0 at.1))
          (in_entries_of spaces owner at.0 at.1 step.0)).0,
      step.1,
    )

-- each page that maps it by a present entry is one of them
pub entries_of-lists : (spaces : Spaces) (owner : FilePage) (pcid page : ℕ) (entry : Mapped)
    → entry_at spaces pcid page ≡ Some entry → IsMappingOf spaces owner pcid page
    → Contains (entries_of spaces owner) (pcid, page)
entries_of-lists spaces owner pcid page entry present is =
    Contains-entries_of spaces owner pcid page (and_from (is_place_of owner (place_at spaces pcid page))
    (is_some (entry_at spaces pcid page)) is (ap is_some present))

-- notes of the pages that a walk over them came to
pub AreNoted-mappings : (spaces : Spaces) (owner : FilePage) (walked : List (ℕ × ℕ)) (old new : List Bool)
    → walked ≡ entries_of spaces owner → AreNoted spaces (λ q p. Contains walked (q, p)) old new
    → AreNoted spaces (IsMappingOf spaces owner) old new
AreNoted-mappings spaces owner walked old new all are =
    AreNoted-as (λ q page entry present dirty. (
      λ h. (and_parts (is_place_of owner (place_at spaces q page)) (is_some (entry_at spaces q page))
          (in_entries_of spaces owner q page (subst (λ xs. Contains xs (q, page)) all h))).0,
      λ h. subst (λ xs. Contains xs (q, page)) (sym all) (entries_of-lists spaces owner q page entry present h),
    )) are

-- ---- whether one of them has a dirty entry

pub dirty_mapping : (spaces : Spaces) (owner : FilePage) (pcid page : ℕ)
    → IsMappingOf spaces owner pcid page → IsDirtyAt spaces pcid page
    → (frame : ℕ) × HasDirtyEntry spaces (IsMappingOf spaces owner) frame
dirty_mapping spaces owner pcid page is d = (
  d.entry.frame,
  record {
    pcid = pcid;
    page = page;
    there = is;
    entry = d.entry;
    present = d.present;
    same_frame = refl;
    dirty = d.dirty;
  },
)

pub no_dirty_mapping : (spaces : Spaces) (owner : FilePage) (walked : List (ℕ × ℕ))
    → walked ≡ entries_of spaces owner → ((q p : ℕ) → Contains walked (q, p) → is_dirty (entry_at spaces q p) ≡ false)
    → (frame : ℕ) → HasDirtyEntry spaces (IsMappingOf spaces owner) frame
    → ⊥
no_dirty_mapping spaces owner walked all clean frame d =
    let there : Contains walked (d.pcid, d.page) =
    subst (λ xs. Contains xs (d.pcid, d.page)) (sym all)
    (entries_of-lists spaces owner d.pcid d.page d.entry d.present d.there) in
    false≢true (sym (clean d.pcid d.page there) ∙ ap is_dirty d.present ∙ d.dirty)
