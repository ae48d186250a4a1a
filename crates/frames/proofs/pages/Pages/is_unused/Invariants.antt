use Rattle.std.proofs.Common.{◌≡◌, ◌<◌, ℕ, false, is_some}
use Rattle.slab.specs.Slab.{get}
use Rattle.frames.proofs.pages.Pages.is_unused.Given as goal

abbrev pub invariant-loop-number : goal.invariant-loop-number
invariant-loop-number g l = (k : ℕ) → k < l.number → is_some (get l.self-inside.pages k) ≡ false
