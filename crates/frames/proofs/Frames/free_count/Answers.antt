use Rattle.std.proofs.Common.{◌≡◌, ◌-◌, ap, sym, ◌∙◌, ltb, is_none, count_by, arith}
use Rattle.frames.specs.Frames.{FramesState}
use Rattle.frames.proofs.Listing.{free_and_used, has_free-counted}
use Rattle.frames.proofs.Frames.free_count.Goals as goal

-- what isn't listed is free
pub returns-clause-count : goal.returns-clause-count
returns-clause-count g c =
    let inside : c.count.result - c.len.result ≡ count_by is_none c.self.inside.frames =
    omega (
      arith,
      c.count.ensures,
      c.len.ensures.count,
      c.self.invariant.counted,
      free_and_used c.self.inside.frames,
    ) in
    inside ∙ ap (λ (s : FramesState). count_by is_none s.frames) c.self.view_is

pub returns-clause-any : goal.returns-clause-any
returns-clause-any g c = ap (ltb 0) (returns-clause-count g c) ∙ sym (has_free-counted c.args.self.now.frames)
