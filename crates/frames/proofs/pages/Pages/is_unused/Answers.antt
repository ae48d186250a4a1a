use Rattle.std.proofs.Common.{◌∙◌, not, sym, ap, arith}
use Rattle.slab.specs.Slab.{get}
use Rattle.frames.specs.Frames.{has_used}
use Rattle.frames.proofs.PageLemmas.{has_used-frames_by, none_used-frames_by}
use Rattle.frames.proofs.pages.Pages.is_unused.Goals as goal

pub returns-then-contains : goal.returns-then-contains
returns-then-contains g c =
    sym (ap not (ap has_used (sym c.self.view_is)
    ∙ has_used-frames_by (get c.self.inside.pages) c.self.inside.bytes.items c.loop-number.number (omega (
      arith,
      c.loop-number-test.true,
      c.len-number-end.ensures,
      c.self.inside.bytes.ok.0,
    )) (c.contains.ensures.0 c.if-contains.true)))

pub returns : goal.returns
returns g c =
    sym (ap not (ap has_used (sym c.self.view_is)
    ∙ none_used-frames_by (get c.self.inside.pages) c.self.inside.bytes.items (λ k h. c.loop-number.invariant k
    (omega (arith, c.loop-number-test.false, c.len-number-end.ensures, c.self.inside.bytes.ok.0)))))
