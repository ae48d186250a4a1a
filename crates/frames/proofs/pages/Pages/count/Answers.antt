use Rattle.std.proofs.Common.{length, ap, arith}
use Rattle.slab.specs.Slab.{get}
use Rattle.frames.proofs.PageLemmas.{length-frames_by}
use Rattle.frames.proofs.pages.Pages.count.Goals as goal

pub returns : goal.returns
returns g c = omega (
  arith,
  length-frames_by (get c.self.inside.pages) c.self.inside.bytes.items,
  ap length c.self.view_is,
  c.self.inside.bytes.ok.0,
  c.self.invariant.numbered,
)
