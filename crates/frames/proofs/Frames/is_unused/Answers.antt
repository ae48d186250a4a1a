use Rattle.std.proofs.Common.{◌≡◌, true, false, not, ◌&&◌, ltb, count_by, is_some, sym, ap, ◌∙◌, arith}
use Rattle.std.proofs.lemmas.Bool.Decides.{nat_tests}
use Rattle.frames.specs.Frames.{FramesState, has_used}
use Rattle.frames.proofs.Listing.{has_used-counted}
use Rattle.frames.proofs.Frames.is_unused.Goals as goal

-- no frame is listed
pub returns-then-is_empty : goal.returns-then-is_empty
returns-then-is_empty g c =
    let counted = c.self.invariant.counted in
    let empty = c.if-is_empty.ensures in
    let none : ltb 0 (count_by is_some c.self.inside.frames) ≡ false = grind (arith, nat_tests) in
    c.is_unused.ensures
    ∙ sym (ap (λ b. not b && not (has_used c.self.inside.copies)) (has_used-counted c.self.inside.frames ∙ none))
    ∙ ap (λ (s : FramesState). not (has_used s.frames) && not (has_used s.copies)) c.self.view_is

-- a frame is listed
pub returns-else-is_empty : goal.returns-else-is_empty
returns-else-is_empty g c =
    let counted = c.self.invariant.counted in
    let empty = c.if-is_empty.ensures in
    let some : ltb 0 (count_by is_some c.self.inside.frames) ≡ true = grind (arith, nat_tests) in
    c.if-is_empty.false
    ∙ sym (ap (λ b. not b && not (has_used c.self.inside.copies)) (has_used-counted c.self.inside.frames ∙ some))
    ∙ ap (λ (s : FramesState). not (has_used s.frames) && not (has_used s.copies)) c.self.view_is
