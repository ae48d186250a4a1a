-- How numbered pages are kept: the page of a file for each number in use, and bytes for each number.
use Rattle.std.specs.Prelude.{◌<◌, ◌≤◌, ◌^◌, ◌==◌, ◌&&◌, ◌||◌, nat_lt, ℕ, suc, Bool}
use Rattle.std.specs.Prelude.{false, List, [], ◌∷◌, length, Option, Some, None, IsSome}
use Rattle.slab.specs.Slab.{Slab, get}
use Rattle.page_entry.specs.declared.numbers.FilePage.{FilePage}
use Rattle.frames.specs.Frames.{Frame}

-- The frame with this page and these bytes, or None without a page.
abbrev pub frame_of : Option FilePage → List ℕ → Option Frame
frame_of None bytes = None
frame_of (Some page) bytes = Some (record { page = page; bytes = bytes })

-- The frames with the numbers from 0: each has its number's page, if there is one, and its bytes.
abbrev pub frames_by : (ℕ → Option FilePage) → List (List ℕ) → List (Option Frame)
frames_by page_at [] = []
frames_by page_at (bytes ∷ rest) = frame_of (page_at 0) bytes ∷ frames_by (λ number. page_at (suc number)) rest

-- Each number with bytes has 32 bits and can be given out. The other numbers are reserved, so they are never given out.
pub record IsKept (pages : Slab FilePage) (bytes : List (List ℕ)) : Type 0 where
  pub numbered : length bytes < 2 ^ 32
  pub room : length bytes ≤ pages.capacity
  pub reserved : (number : ℕ) → length bytes ≤ number → number < pages.capacity → IsSome (get pages number)

-- Whether a frame has a page that comes before `page`.
abbrev pub comes_before : Option FilePage → FilePage → Bool
comes_before None page = false
comes_before (Some a) page = nat_lt a.file page.file || (a.file == page.file && nat_lt a.page page.page)
