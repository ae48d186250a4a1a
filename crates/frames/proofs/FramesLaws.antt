-- What a number is in use for after a change of the frames, and what the bytes of a page are after a write.
use Rattle.std.proofs.Common.{◌≡◌, ◌≢◌, ◌+◌, ◌≤◌, ℕ, zero, suc, List, [], ◌∷◌, length, get_or, set, take, drop}
use Rattle.std.proofs.Common.{Option, Some, None, is_some, slice_get, refl, sym, ap, subst, ◌∙◌, ⊎_elim, le_refl}
use Rattle.std.proofs.lemmas.List.{append_assoc, get_or-set_same, get_or-set_other}
use Rattle.std.proofs.lemmas.List.Edits.{paste_all, length-paste}
use Rattle.std.proofs.lemmas.Bool.{cases_eq}
use Rattle.std.proofs.lemmas.Option.{slice_get_within, get_or_from_slice_get}
use Rattle.page_entry.specs.declared.numbers.FilePage.{FilePage}
use Rattle.frames.specs.Frames.{Frame, FramesState, frame_at, page_of, overwrite}
use Rattle.frames.specs.Frames.{overwrite_frame, with_page, without_frame, with_bytes}

-- a write of nothing makes its place free, also past the end
get_or-set_none : {X : Type 0} (xs : List (Option X)) (k : ℕ) → get_or (set xs k None) k None ≡ None
get_or-set_none [] k = refl
get_or-set_none (x ∷ xs) zero = refl
get_or-set_none (x ∷ xs) (suc k) = get_or-set_none xs k

-- a frame that `take` gives was free
pub frame_at-free : (s : FramesState) (frame : ℕ) → slice_get s.frames frame ≡ Some None → frame_at s frame ≡ None
frame_at-free s frame free = get_or_from_slice_get s.frames frame None None free

-- `take_with`
pub frame_at-with_page_same : (s : FramesState) (frame : ℕ) (page : FilePage) (bytes : List ℕ)
    → slice_get s.frames frame ≡ Some None
    → frame_at (with_page s frame page bytes) frame ≡ Some (record { page = page; bytes = bytes })
frame_at-with_page_same s frame page bytes free =
    get_or-set_same s.frames frame _ None (slice_get_within s.frames frame None free)

pub frame_at-with_page_other : (s : FramesState) (frame : ℕ) (page : FilePage) (bytes : List ℕ) (other : ℕ)
    → other ≢ frame
    → frame_at (with_page s frame page bytes) other ≡ frame_at s other
frame_at-with_page_other s frame page bytes other differs = get_or-set_other s.frames frame other _ None differs

-- `give`
pub frame_at-without_frame_same : (s : FramesState) (frame : ℕ) → frame_at (without_frame s frame) frame ≡ None
frame_at-without_frame_same s frame = get_or-set_none s.frames frame

pub frame_at-without_frame_other : (s : FramesState) (frame other : ℕ) → other ≢ frame
    → frame_at (without_frame s frame) other ≡ frame_at s other
frame_at-without_frame_other s frame other differs = get_or-set_other s.frames frame other None None differs

-- `write`
pub frame_at-with_bytes_same : (s : FramesState) (frame at : ℕ) (bytes : List ℕ)
    → frame_at (with_bytes s frame at bytes) frame ≡ overwrite_frame (frame_at s frame) at bytes
frame_at-with_bytes_same s frame at bytes = written s.frames frame
  where
    written : (xs : List (Option Frame)) (k : ℕ)
        → get_or (set xs k (overwrite_frame (get_or xs k None) at bytes)) k None
        ≡ overwrite_frame (get_or xs k None) at bytes
    written [] k = refl
    written (x ∷ xs) zero = refl
    written (x ∷ xs) (suc k) = written xs k

pub frame_at-with_bytes_other : (s : FramesState) (frame at : ℕ) (bytes : List ℕ) (other : ℕ) → other ≢ frame
    → frame_at (with_bytes s frame at bytes) other ≡ frame_at s other
frame_at-with_bytes_other s frame at bytes other differs = get_or-set_other s.frames frame other _ None differs

is_some-overwrite_frame : (f : Option Frame) (at : ℕ) (bytes : List ℕ)
    → is_some (overwrite_frame f at bytes) ≡ is_some f
is_some-overwrite_frame None at bytes = refl
is_some-overwrite_frame (Some f) at bytes = refl

page_of-overwrite_frame : (f : Option Frame) (at : ℕ) (bytes : List ℕ)
    → page_of (overwrite_frame f at bytes) ≡ page_of f
page_of-overwrite_frame None at bytes = refl
page_of-overwrite_frame (Some f) at bytes = refl

-- what a write leaves as it is of a frame, it leaves so of each number
same-with_bytes : {X : Type 0} (of : Option Frame → X)
    → ((f : Option Frame) (at : ℕ) (bytes : List ℕ) → of (overwrite_frame f at bytes) ≡ of f)
    → (s : FramesState) (frame at : ℕ) (bytes : List ℕ) (other : ℕ)
    → of (frame_at (with_bytes s frame at bytes) other) ≡ of (frame_at s other)
same-with_bytes of stays s frame at bytes other =
    ⊎_elim
    (λ same. subst (λ n. of (frame_at (with_bytes s frame at bytes) n) ≡ of (frame_at s n)) (sym same)
    (ap of (frame_at-with_bytes_same s frame at bytes) ∙ stays (frame_at s frame) at bytes))
    (λ differs. ap of (frame_at-with_bytes_other s frame at bytes other differs))
    (cases_eq other frame)

-- a write leaves the same numbers in use, for the same pages
pub in_use-with_bytes : (s : FramesState) (frame at : ℕ) (bytes : List ℕ) (other : ℕ)
    → is_some (frame_at (with_bytes s frame at bytes) other) ≡ is_some (frame_at s other)
in_use-with_bytes = same-with_bytes is_some is_some-overwrite_frame

pub page_of-with_bytes : (s : FramesState) (frame at : ℕ) (bytes : List ℕ) (other : ℕ)
    → page_of (frame_at (with_bytes s frame at bytes) other) ≡ page_of (frame_at s other)
page_of-with_bytes = same-with_bytes page_of page_of-overwrite_frame

-- a write inside a page leaves its length
pub length-overwrite : (page : List ℕ) (at : ℕ) (bytes : List ℕ) → at + length bytes ≤ length page
    → length (overwrite page at bytes) ≡ length page
length-overwrite page at bytes within =
    ap length (append_assoc (take at page) bytes (drop (at + length bytes) page)
    ∙ sym (paste_all page at bytes (length bytes) refl))
    ∙ length-paste page at bytes (length bytes) within (le_refl _)
