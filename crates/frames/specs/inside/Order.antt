-- How the frames in use are listed in the order of their pages.
use Rattle.std.specs.Prelude.{◌≡◌, ◌≤◌, ℕ, true, false, List, length, is_some, count_by, Option, None, slice_index_or}
use Rattle.std.specs.List.Sorted.{IsPartitionPoint}
use Rattle.page_entry.specs.declared.numbers.FilePage.{FilePage}
use Rattle.frames.specs.Frames.{Frame, FramesState, page_of, AreFrames, AreInOrder}
use Rattle.frames.specs.inside.Pages.{comes_before}

-- `order` lists each frame in use once, in order, and has room for all frames.
pub record IsListed (s : FramesState) (order : List ℕ) (room : ℕ) : Type 0 where
  pub are : AreFrames s
  pub in_order : AreInOrder s order
  pub counted : length order ≡ count_by is_some s.frames
  pub enough : length s.frames ≤ room

-- `place` is the page's place in the order. Exactly the frames whose pages come before `page` are before this place.
pub record IsPlaceOf (frames : List (Option Frame)) (order : List ℕ) (page : FilePage) (place : ℕ) : Type 0 where
  pub within : place ≤ length order
  pub parts : IsPartitionPoint
      (λ frame. comes_before (page_of (slice_index_or frames frame None)) page ≡ true)
      (λ frame. comes_before (page_of (slice_index_or frames frame None)) page ≡ false)
      order place
