-- The frames of a machine as callers see them: which frames are in use, and the page and the bytes of each.
use Rattle.std.specs.Prelude.{◌≡◌, ◌≢◌, ◌+◌, ◌<◌, ◌≤◌, ◌⊎◌, ◌↔◌, ℕ, Bool, List, [], ◌++◌}
use Rattle.std.specs.Prelude.{length, map, take, drop, replicate, Option, Some, None}
use Rattle.std.specs.Prelude.{is_none, is_some, IsSome, slice_index_or, slice_set, Contains}
use Rattle.std.specs.List.{list_any, All, AllPairs}
use Rattle.page_entry.specs.declared.numbers.FilePage.{FilePage}

-- A frame in use: a page of a file, and its bytes.
pub record Frame : Type 0 where
  pub page : FilePage
  pub bytes : List ℕ

-- For each number from 0: the frame in use with this number, or None if that frame is free. The same for the copies. A
-- copy has the page and the bytes that its frame had when the copy was made.
pub record FramesState : Type 0 where
  pub frames : List (Option Frame)
  pub copies : List (Option Frame)

-- The frame in use with this number, if there is one.
abbrev pub frame_at : FramesState → ℕ → Option Frame
frame_at s frame = slice_index_or s.frames frame None

-- The copy in use with this number, if there is one.
abbrev pub copy_at : FramesState → ℕ → Option Frame
copy_at s copy = slice_index_or s.copies copy None

-- the page of a frame in use
abbrev pub page_of : Option Frame → Option FilePage
page_of None = None
page_of (Some f) = Some f.page

-- the bytes of a frame in use
abbrev pub bytes_of : Option Frame → List ℕ
bytes_of None = []
bytes_of (Some f) = f.bytes

-- Whether one of these is free.
abbrev pub has_free : {X : Type 0} → List (Option X) → Bool
has_free xs = list_any is_none xs

-- Whether one of these is in use.
abbrev pub has_used : {X : Type 0} → List (Option X) → Bool
has_used xs = list_any is_some xs

-- `n` zeros.
unfoldable pub blank_bytes : ℕ → List ℕ
blank_bytes n = replicate n 0

-- A page of zeros. It has its own name so that the prover doesn't compute all 4,096 bytes.
unfoldable pub zero_page : List ℕ
zero_page = blank_bytes 4096

-- The page after these bytes were written at the place `at`.
abbrev pub overwrite : List ℕ → ℕ → List ℕ → List ℕ
overwrite page at bytes = take at page ++ bytes ++ drop (at + length bytes) page

-- The frame after these bytes were written at the place `at`, if it is in use.
abbrev pub overwrite_frame : Option Frame → ℕ → List ℕ → Option Frame
overwrite_frame None at bytes = None
overwrite_frame (Some f) at bytes = Some (record f { bytes = overwrite f.bytes at bytes })

-- These numbers of frames and of copies, all free.
abbrev pub all_free : ℕ → ℕ → FramesState
all_free frames copies = record { frames = replicate frames None; copies = replicate copies None }

-- The state after `frame` got this page with these bytes.
abbrev pub with_page : FramesState → ℕ → FilePage → List ℕ → FramesState
with_page s frame page bytes =
    record s { frames = slice_set s.frames frame (Some (record { page = page; bytes = bytes })) }

-- The state after `frame` was freed.
abbrev pub without_frame : FramesState → ℕ → FramesState
without_frame s frame = record s { frames = slice_set s.frames frame None }

-- The state after these bytes were written into `frame` at the place `at`.
abbrev pub with_bytes : FramesState → ℕ → ℕ → List ℕ → FramesState
with_bytes s frame at bytes =
    record s { frames = slice_set s.frames frame (overwrite_frame (frame_at s frame) at bytes) }

-- The state after `frame` was copied into `copy`.
abbrev pub with_copy : FramesState → ℕ → ℕ → FramesState
with_copy s copy frame = record s { copies = slice_set s.copies copy (frame_at s frame) }

-- The state after `copy` was freed.
abbrev pub without_copy : FramesState → ℕ → FramesState
without_copy s copy = record s { copies = slice_set s.copies copy None }

-- The state after all copies were freed.
abbrev pub without_copies : FramesState → FramesState
without_copies s = record s { copies = map (λ copy. None) s.copies }

-- No frame contains the page.
abbrev pub HasNoFrame : FramesState → FilePage → Type 0
HasNoFrame s page = (frame : ℕ) → page_of (frame_at s frame) ≢ Some page

-- `frame` contains a page of the same file: this page or a later one.
pub record HasPageFrom (s : FramesState) (page : FilePage) (frame : ℕ) : Type 0 where
  pub owner : FilePage
  pub has : page_of (frame_at s frame) ≡ Some owner
  pub same_file : owner.file ≡ page.file
  pub from : page.page ≤ owner.page

-- No frame contains this page or a later one of the same file.
abbrev pub HasNoneFrom : FramesState → FilePage → Type 0
HasNoneFrom s page = (frame : ℕ) (owner : FilePage) → page_of (frame_at s frame) ≡ Some owner
    → owner.file ≡ page.file → owner.page < page.page

-- No copy contains the page.
abbrev pub HasNoCopy : FramesState → FilePage → Type 0
HasNoCopy s page = (copy : ℕ) → page_of (copy_at s copy) ≢ Some page

-- These are the bytes of a whole page.
pub record IsPage (bytes : List ℕ) : Type 0 where
  pub size : length bytes ≡ 4096
  pub small : All (λ byte. byte < 256) bytes

-- The rules of all frames. Each frame and each copy in use contains a whole page. A page is in at most one frame and in
-- at most one copy.
pub record AreFrames (s : FramesState) : Type 0 where
  pub frames : (frame : ℕ) → IsSome (frame_at s frame) → IsPage (bytes_of (frame_at s frame))
  pub copies : (copy : ℕ) → IsSome (copy_at s copy) → IsPage (bytes_of (copy_at s copy))
  pub one_frame : (a b : ℕ) (page : FilePage) → page_of (frame_at s a) ≡ Some page → page_of (frame_at s b) ≡ Some page
      → a ≡ b
  pub one_copy : (a b : ℕ) (page : FilePage) → page_of (copy_at s a) ≡ Some page → page_of (copy_at s b) ≡ Some page
      → a ≡ b

-- Page `a` comes before page `b` in the order of home blocks: by file, then by page.
abbrev pub IsBefore : FilePage → FilePage → Type 0
IsBefore a b = (a.file < b.file) ⊎ ((a.file ≡ b.file) × (a.page < b.page))

-- The page of `frame` comes before the page of `other`.
abbrev pub HasPageBefore : FramesState → ℕ → ℕ → Type 0
HasPageBefore s frame other = (a b : FilePage) → page_of (frame_at s frame) ≡ Some a
    → page_of (frame_at s other) ≡ Some b → IsBefore a b

-- `order` contains exactly the frames in use, in rising order of their pages.
pub record AreInOrder (s : FramesState) (order : List ℕ) : Type 0 where
  pub used : (frame : ℕ) → Contains order frame ↔ IsSome (frame_at s frame)
  pub rising : AllPairs (HasPageBefore s) order
