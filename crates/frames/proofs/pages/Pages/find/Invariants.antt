use Rattle.std.proofs.Common.{◌≢◌, ◌<◌, ℕ, Some, None, get_or}
use Rattle.frames.specs.Frames.{page_of}
use Rattle.frames.proofs.pages.Pages.find.Given as goal

abbrev pub invariant-loop-number : goal.invariant-loop-number
invariant-loop-number g l = (k : ℕ) → k < l.number → page_of (get_or l.self k None) ≢ Some l.page
